-- Definitions of the crate.
pub mod Cost
