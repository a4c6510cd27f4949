-- Laws of the steps of the walk, and of four counts on its way.
pub mod WalkSteps
pub mod LowPairs
