-- Laws of the crate.
pub mod SpotLaws
