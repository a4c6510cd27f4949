-- Laws of the crate.
pub mod PassSteps
