-- Definitions of the crate.
pub mod Runs
pub mod Code
