pub mod Names
pub mod Write
pub mod Only
