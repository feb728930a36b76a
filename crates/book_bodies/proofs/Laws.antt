pub mod Circuit
pub mod Record
pub mod Table
pub mod Only
