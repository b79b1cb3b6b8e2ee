pub mod Laws
pub mod Unrefused
pub mod Readings
