pub mod Tested
pub mod Parts
pub mod Passed
