pub mod Body
pub mod Number
pub mod Only
pub mod Ways
