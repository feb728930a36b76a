pub mod Cause
pub mod Inner
