pub mod Sound
pub mod Settling
pub mod Earlier
