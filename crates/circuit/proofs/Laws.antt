pub mod Amplitude
pub mod Begin
pub mod Only
pub mod Editions
pub mod Words
