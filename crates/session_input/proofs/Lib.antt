-- Laws of the definitions.
pub mod GatherLaws
pub mod Examples
