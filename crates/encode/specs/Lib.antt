pub mod Places
pub mod Encode
pub mod Buffer
pub mod Laws
pub mod Refusals
