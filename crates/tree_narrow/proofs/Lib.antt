-- Laws of the crate.
pub mod NodeSteps
