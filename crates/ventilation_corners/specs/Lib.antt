pub mod Calls
pub mod Intervals
pub mod Figures
