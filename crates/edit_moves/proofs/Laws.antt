pub mod Holds
pub mod Splice
pub mod Closed
