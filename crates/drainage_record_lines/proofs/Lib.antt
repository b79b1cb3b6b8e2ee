pub mod Optional
pub mod Lines
pub mod Settled
pub mod Widths
pub mod Lent
