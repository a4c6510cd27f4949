-- Laws of the crate.
pub mod CarrySteps
pub mod EditSteps
