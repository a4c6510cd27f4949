-- Definitions of the crate.
pub mod Repair
pub mod Clauses
