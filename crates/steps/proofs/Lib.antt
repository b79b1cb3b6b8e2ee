pub mod Verdicts
pub mod Tests
pub mod Clear
