-- Laws of the crate.
pub mod BookPages
pub mod FromLaws
