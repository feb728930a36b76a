pub mod Spans
pub mod Plain
