pub mod Run
pub mod Chance
pub mod Only
