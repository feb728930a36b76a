pub mod Slot
pub mod Packed
