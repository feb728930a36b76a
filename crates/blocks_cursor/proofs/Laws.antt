pub mod Cursor
pub mod Front
