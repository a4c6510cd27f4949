-- Laws of the crate.
pub mod Editions
