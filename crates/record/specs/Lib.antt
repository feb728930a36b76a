pub mod Chanced
