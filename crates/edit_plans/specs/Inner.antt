pub mod Lists
pub mod Plan
