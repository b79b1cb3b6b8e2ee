pub mod Call
pub mod Order
pub mod Examples
