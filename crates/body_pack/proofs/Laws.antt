pub mod Slot
pub mod Mask
pub mod Packed
pub mod Read
pub mod Sum
pub mod Normal
pub mod Entry
