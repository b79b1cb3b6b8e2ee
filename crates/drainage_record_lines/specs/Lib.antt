pub mod Part
pub mod Inner
pub mod Lent
