-- Definitions of the crate.
pub mod Days
