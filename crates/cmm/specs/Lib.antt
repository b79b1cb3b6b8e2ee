pub mod Figures
pub mod Exported
