pub mod Drift
pub mod Lent
