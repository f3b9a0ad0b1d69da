pub mod Opcodes
pub mod Reading
pub mod Back
pub mod Again
pub mod Writing
