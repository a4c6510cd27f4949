-- Laws of the writer's steps.
pub mod Blank
pub mod Writing
pub mod Fours
