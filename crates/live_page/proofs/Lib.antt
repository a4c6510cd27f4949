-- Laws of the crate.
pub mod PageSums
pub mod PageTree
pub mod Questions
