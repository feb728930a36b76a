pub mod Number
pub mod Fine
pub mod Editions
