pub mod Contents
pub mod Kind
