pub mod Quantified
pub mod Report
