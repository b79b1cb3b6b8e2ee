pub mod Settled
pub mod Retired
