-- Laws of the crate.
pub mod PageEnds
pub mod PageParts
pub mod PartSums
