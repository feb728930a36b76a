pub mod Number
pub mod Ways
