-- Laws of the crate.
pub mod ReachLaws
pub mod SearchSteps
