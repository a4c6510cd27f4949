-- Laws of the crate.
pub mod Turning
