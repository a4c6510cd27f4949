-- Laws of the functions.
pub mod ChainSteps
pub mod PageSteps
pub mod Judging
pub mod ListSteps
