-- Laws of the definitions.
-- numbers, limits, a page's code
pub mod Numbers
pub mod LimitLaws
pub mod ShapeLaws
pub mod PageCodeLaws
pub mod Starred
-- the model: its chains alone, a fresh store, one page that changes, and many
pub mod Chained
pub mod Keep
pub mod FreshLaws
pub mod Sized
pub mod SettledGood
pub mod OnePage
pub mod OneByOne
pub mod CellByCell
-- the model as bytes, and read back
pub mod Laying
pub mod Holds
pub mod ReadBack
pub mod Spread
-- chains in bytes, and what is written to a page
pub mod Writes
pub mod Joining
pub mod Filling
pub mod Moved
pub mod Zeros
pub mod PageChange
pub mod Relisting
-- soundness: computed, as facts, and as the check finds it
pub mod SoundLaws
pub mod SoundFacts
pub mod ChainLaws
pub mod CheckChain
pub mod CheckPages
pub mod PageLaws
pub mod Verdict
pub mod ItemLaws
-- the plain list and the calls
pub mod Inserting
pub mod StepLaws
pub mod DayLaws
pub mod CallLaws
pub mod Orders
pub mod Refusals
pub mod InsertLaws
pub mod Unchanged
pub mod Whole
pub mod Examples
-- what the live calls need
pub mod HourLaws
pub mod Repaged
pub mod PageByPage
pub mod ChangeLaws
pub mod TotalLaws
pub mod Sizes
