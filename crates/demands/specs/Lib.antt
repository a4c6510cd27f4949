-- The three demands, each as one claim.
pub mod Reasons
pub mod Demand1
pub mod Demand2
pub mod Demand3
