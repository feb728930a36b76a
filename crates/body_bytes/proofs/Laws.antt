pub mod Any
pub mod Fault
pub mod Fine
pub mod Out
pub mod Signed
