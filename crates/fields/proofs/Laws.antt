pub mod Front
pub mod Over
pub mod Number
pub mod Listed
pub mod Order
pub mod Put
