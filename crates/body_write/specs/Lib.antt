pub mod Body
pub mod Write
