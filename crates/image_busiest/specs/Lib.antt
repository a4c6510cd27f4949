-- Definitions of the crate.
pub mod Busiest
pub mod Code
