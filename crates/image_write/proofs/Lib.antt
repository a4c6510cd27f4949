-- Laws of the crate.
pub mod ListPages
