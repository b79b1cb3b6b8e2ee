pub mod Outcomes
pub mod Pass
