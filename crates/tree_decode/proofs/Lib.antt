-- Laws of decoding: a tree's halves, and the limit of its counts.
pub mod Limits
pub mod Halving
