pub mod Worked
pub mod Live
pub mod Padded
pub mod Parts
pub mod Table
pub mod Read
pub mod Stated
pub mod Only
