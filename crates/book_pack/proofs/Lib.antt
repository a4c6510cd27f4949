-- Laws of the crate.
pub mod Packing
