pub mod Spans
pub mod Texts
