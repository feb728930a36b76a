pub mod Lay
pub mod Laid
pub mod Round
pub mod Only
pub mod Any
