pub mod Book
pub mod Read
