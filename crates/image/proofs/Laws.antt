pub mod Signed
pub mod Bytes
pub mod Places
pub mod Back
pub mod Same
