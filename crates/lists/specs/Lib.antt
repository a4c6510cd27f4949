-- Definitions of the crate.
pub mod Lists
pub mod Counts
