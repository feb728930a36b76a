pub mod Run
pub mod Parts
pub mod Size
pub mod Order
pub mod Passed
pub mod Only
