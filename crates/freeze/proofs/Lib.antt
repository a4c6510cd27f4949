-- Laws of the crate.
pub mod Freezing
