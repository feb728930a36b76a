pub mod Some
pub mod Entry
pub mod Header
pub mod Test
pub mod Good
pub mod Printed
pub mod Only
