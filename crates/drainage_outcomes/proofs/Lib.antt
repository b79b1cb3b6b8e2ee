pub mod Laws
pub mod Pass
