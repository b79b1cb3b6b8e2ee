pub mod Fraction
pub mod Fair
pub mod Worth
