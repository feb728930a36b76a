pub mod Sofar
pub mod Short
pub mod Whole
pub mod Only
pub mod Fits
