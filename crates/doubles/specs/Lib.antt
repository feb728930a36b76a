pub mod Power
pub mod Parts
pub mod Answer
pub mod Nearest
pub mod Entry
pub mod Inner
