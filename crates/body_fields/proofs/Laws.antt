pub mod Bytes
pub mod Signed
pub mod Part
pub mod Segment
