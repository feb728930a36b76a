pub mod Parts
pub mod Read
pub mod Only
