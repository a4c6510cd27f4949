-- Laws of the crate.
pub mod SeekLaws
pub mod PassLaws
pub mod AboveLaws
