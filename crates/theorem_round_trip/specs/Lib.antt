pub mod Same
pub mod Book
