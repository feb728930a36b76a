pub mod Settle
pub mod Accepted
pub mod Bodies
pub mod Lay
pub mod Done
pub mod Only
