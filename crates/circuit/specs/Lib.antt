pub mod Amplitude
pub mod Inner
