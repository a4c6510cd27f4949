-- Laws of trees in one word: which fit, and eight counts with two coins at most.
pub mod SmallTrees
pub mod FewCounts
