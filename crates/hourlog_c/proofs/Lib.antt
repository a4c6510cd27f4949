-- Laws of the crate.
pub mod RefusedTen
pub mod Exports
pub mod BookExports
pub mod MergeExport
