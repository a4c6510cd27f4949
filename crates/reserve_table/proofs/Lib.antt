-- Laws.
pub mod EveryEntry
