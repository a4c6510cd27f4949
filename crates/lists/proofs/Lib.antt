-- Laws of the definitions.
pub mod Parts
pub mod Tables
pub mod Sums
pub mod Zeros
pub mod Tests
pub mod Occurrences
pub mod Reach
pub mod Pages
pub mod Blocks
pub mod CountLaws
