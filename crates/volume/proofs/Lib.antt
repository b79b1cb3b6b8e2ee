pub mod Laws
pub mod Pair
pub mod TwoSteps
pub mod Retraced
pub mod Earlier
pub mod Mirror
