pub mod Book
pub mod Same
