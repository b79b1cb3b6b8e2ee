pub mod Laws
pub mod Job
pub mod Settled
