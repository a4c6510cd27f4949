-- What the public calls answer.
pub mod Refusals
pub mod Number
pub mod Store
pub mod Image
pub mod Stretch
pub mod Bag
