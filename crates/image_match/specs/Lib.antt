-- Definitions of the crate.
pub mod Match
pub mod Code
