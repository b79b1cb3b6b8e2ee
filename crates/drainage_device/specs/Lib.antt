pub mod Device
pub mod Lent
