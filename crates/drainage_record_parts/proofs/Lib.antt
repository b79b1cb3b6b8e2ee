pub mod Steps
pub mod OneInstrument
pub mod OneDevice
pub mod DevicesLoop
pub mod Settled
pub mod Lent
