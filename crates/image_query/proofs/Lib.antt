-- Laws of the definitions.
pub mod LookSteps
