pub mod Field
pub mod Plan
pub mod Rows
pub mod File
pub mod Walk
pub mod Worked
