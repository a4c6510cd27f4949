-- Definitions of the crate.
pub mod Reserve
pub mod Code
