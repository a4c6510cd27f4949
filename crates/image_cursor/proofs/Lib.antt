-- Laws of the crate.
pub mod CursorLaws
