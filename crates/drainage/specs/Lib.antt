pub mod Sheet
pub mod Promise
pub mod Table
