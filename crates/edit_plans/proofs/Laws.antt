pub mod Upto
pub mod Held
pub mod Planned
