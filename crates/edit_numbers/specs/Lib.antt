pub mod Volume
pub mod Number
pub mod Inner
