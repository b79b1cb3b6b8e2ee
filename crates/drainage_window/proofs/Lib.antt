pub mod Laws
pub mod Fit
pub mod Adding
pub mod Pairing
pub mod Halving
pub mod Earlier
pub mod HowFar
