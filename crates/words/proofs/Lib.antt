-- Laws of the crate.
pub mod EndLaws
pub mod WordLaws
