pub mod Laws
pub mod StreamLaws
