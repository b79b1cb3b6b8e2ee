pub mod Series
pub mod Streams
pub mod Lent
