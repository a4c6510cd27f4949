-- Laws of the definitions.
pub mod DigitLaws
pub mod LetterLaws
pub mod SplitLaws
pub mod LineLaws
pub mod Examples
