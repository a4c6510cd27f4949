-- Laws of the crate.
pub mod Listing
