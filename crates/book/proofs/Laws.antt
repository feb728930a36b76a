pub mod Number
pub mod Read
pub mod Only
pub mod Few
