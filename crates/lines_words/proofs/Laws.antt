pub mod Overlay
pub mod Laid
pub mod Digits
pub mod Decimal
pub mod Signed
pub mod Only
pub mod Writer
