pub mod Lay
pub mod Inner
