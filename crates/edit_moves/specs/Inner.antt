pub mod Held
pub mod Spliced
