pub mod Table
pub mod Read
pub mod Inner
