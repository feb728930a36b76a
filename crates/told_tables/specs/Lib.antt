pub mod Called
pub mod Calls
pub mod Inner
