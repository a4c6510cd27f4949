-- Laws of the crate.
pub mod Passing
pub mod TestLaws
pub mod CheckSteps
