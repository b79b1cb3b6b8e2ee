pub mod Device
pub mod Demand3
