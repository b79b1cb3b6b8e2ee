pub mod Truth
pub mod Laws
pub mod Sums
pub mod Scan
pub mod Fill
pub mod Joined
pub mod More
pub mod Over
