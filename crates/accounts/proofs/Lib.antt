pub mod Adding
pub mod Answers
pub mod Booking
pub mod Burning
pub mod Counting
pub mod Given
pub mod Numbers
pub mod Sheets
