pub mod Edit
pub mod Inner
