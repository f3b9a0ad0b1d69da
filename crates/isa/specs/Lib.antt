pub mod Map
pub mod Forms
pub mod Relative
pub mod Decode
pub mod Faults
pub mod Laws
