pub mod Overlay
pub mod Text
pub mod Inner
