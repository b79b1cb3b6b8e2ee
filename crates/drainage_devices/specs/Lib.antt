pub mod Devices
pub mod Totals
pub mod Private
pub mod Lent
