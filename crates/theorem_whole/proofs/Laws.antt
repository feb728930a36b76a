pub mod Lines
pub mod Entry
pub mod Normal
pub mod Refusal
pub mod Text
pub mod Start
