pub mod Written
pub mod Back
pub mod Same
pub mod Joined
pub mod Book
pub mod Area
pub mod Kept
