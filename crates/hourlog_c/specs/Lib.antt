-- Definitions of the crate.
pub mod Public
pub mod Export
