pub mod Bytes
pub mod Form
pub mod Decimal
pub mod Line
pub mod Answer
pub mod Inner
