pub mod Laws
pub mod Monotone
