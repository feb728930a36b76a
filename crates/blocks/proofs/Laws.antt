pub mod Steps
pub mod Spans
pub mod Number
pub mod Plain
pub mod Range
pub mod Worked
pub mod Only
