-- Laws of the crate.
pub mod Shifting
pub mod PlanSteps
