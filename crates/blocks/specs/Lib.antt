pub mod Expansion
pub mod Inner
