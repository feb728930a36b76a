pub mod Worked
pub mod Lengths
