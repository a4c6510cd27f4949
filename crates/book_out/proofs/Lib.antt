-- Laws of the crate.
pub mod OutLaws
pub mod ToLaws
