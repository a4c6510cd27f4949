-- Laws of the crate.
pub mod PrefixSums
pub mod BusiestLaws
pub mod MatchLaws
