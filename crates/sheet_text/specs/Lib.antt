pub mod Sheet
pub mod Read
pub mod Write
pub mod Worked
pub mod Head
