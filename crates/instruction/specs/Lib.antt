pub mod Order
pub mod Indexes
pub mod Modes
pub mod Prebytes
pub mod Rows
