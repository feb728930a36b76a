pub mod Blocks
pub mod Inner
