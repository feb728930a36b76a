pub mod Tell
pub mod Power
pub mod Only
pub mod Number
