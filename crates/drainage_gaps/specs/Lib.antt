pub mod Gaps
pub mod Private
