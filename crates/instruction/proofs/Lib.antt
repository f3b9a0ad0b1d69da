pub mod Prebytes
pub mod Few
