-- Laws of the crate.
pub mod PageLaws
