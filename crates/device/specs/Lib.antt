pub mod Refusals
pub mod Record
pub mod Map
pub mod Texts
