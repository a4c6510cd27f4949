-- Laws of the definitions, and of the code's steps.
pub mod Shape
pub mod Windows
pub mod WalkLaws
pub mod SearchLaws
pub mod Exacts
pub mod RangeLaws
pub mod Rooting
pub mod Clearing
pub mod Local
pub mod TwoCounts
pub mod OneWord
