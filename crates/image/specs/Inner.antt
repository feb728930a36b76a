pub mod Stated
pub mod Halves
