-- Laws of the counts: half by half, out of a word's own bits, both halves out of one word, four at a time, and of an empty tree.
pub mod Decoding
pub mod WordBits
pub mod WordHalves
pub mod FourCounts
pub mod Empty
