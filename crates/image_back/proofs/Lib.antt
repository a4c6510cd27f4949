-- Laws of the crate.
pub mod ListBack
