pub mod Account
pub mod Totals
pub mod Sheet
pub mod Accounted
pub mod Private
