pub mod Step
pub mod Wrong
pub mod Steps
pub mod Scans
