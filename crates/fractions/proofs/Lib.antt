pub mod Near
pub mod Close
