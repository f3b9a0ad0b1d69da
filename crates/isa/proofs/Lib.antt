pub mod Below
pub mod Sizes
pub mod Decoding
pub mod Forms
pub mod Laws
