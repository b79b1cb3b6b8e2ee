pub mod Device
pub mod Demand3
pub mod Earlier
