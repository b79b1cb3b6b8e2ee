pub mod KindLaws
pub mod Integers
pub mod RoundingLaws
pub mod RangeLaws
pub mod SignedLaws
