-- Laws of the steps of the search.
pub mod SeekSteps
pub mod SeekPairs
