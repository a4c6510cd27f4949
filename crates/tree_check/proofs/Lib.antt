-- Laws of the check's steps.
pub mod CheckSteps
pub mod EightInWord
