-- Laws that the functions' proofs use.
pub mod LinkSteps
pub mod Gathering
