pub mod Calls
pub mod Figures
pub mod Rows
pub mod Refusals
pub mod Gaps
