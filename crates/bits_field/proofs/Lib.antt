-- Laws of the crate.
pub mod Leading
