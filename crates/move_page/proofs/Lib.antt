-- Laws of the crate.
pub mod PageMoved
