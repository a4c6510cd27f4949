-- Definitions of the crate, in document 01's order.
-- the limits; a page's code; the plain list
pub mod Limits
pub mod PageCode
pub mod Plain
-- the format and the model: what a store's bytes are, how long they are, how chains change
pub mod Layout
pub mod Fitting
pub mod OneCell
pub mod Settle
-- what bytes say, the shape that they must have, and when they are sound: computed, and clause by clause
pub mod Reading
pub mod Shape
pub mod Sound
pub mod Items
-- the calls on bytes
pub mod Call
-- what functions hand each other
pub mod Code
