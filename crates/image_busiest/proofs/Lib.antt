-- Laws of the crate.
pub mod ReadingLaws
pub mod WindowLaws
pub mod AnswerLaws
