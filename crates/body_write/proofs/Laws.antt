pub mod Body
pub mod First
pub mod Same
pub mod Write
pub mod Only
