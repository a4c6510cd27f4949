-- Definitions of the crate.
pub mod Edition1
