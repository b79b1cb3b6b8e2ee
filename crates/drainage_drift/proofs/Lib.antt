pub mod Laws
pub mod Stretches
pub mod Walk
