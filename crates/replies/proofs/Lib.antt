-- Laws of the definitions.
pub mod TurnLaws
pub mod SessionLaws
pub mod Examples
