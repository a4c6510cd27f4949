-- Laws of the functions.
pub mod WriteSteps
pub mod Parts
pub mod Written
pub mod CallSteps
