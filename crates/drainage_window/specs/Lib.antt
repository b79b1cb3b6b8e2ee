pub mod Window
pub mod Sizes
