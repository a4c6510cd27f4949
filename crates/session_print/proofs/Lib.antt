-- Laws of the definitions.
pub mod DecimalLaws
pub mod PrintLaws
pub mod Examples
