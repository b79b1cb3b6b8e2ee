pub mod Outcomes
pub mod Device
