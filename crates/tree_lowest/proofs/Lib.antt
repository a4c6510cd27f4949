-- Laws of the crate.
pub mod NarrowLaws
pub mod Lowest
