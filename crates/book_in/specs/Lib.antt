-- Definitions of the crate.
pub mod FromBook
