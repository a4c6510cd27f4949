-- Laws of the definitions.
pub mod DayLaws
pub mod Pairs
pub mod Turns
pub mod ListedDays
