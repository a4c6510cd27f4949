-- Laws of the crate.
pub mod AnswerLaws
