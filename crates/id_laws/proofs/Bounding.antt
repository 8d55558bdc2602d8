-- *Bounds*: how many messages and events a run has.
pub mod DifferCounts
pub mod Told
pub mod Paid
pub mod Keys
pub mod BoundsLemmas
pub mod Ending
pub mod BlockRows
pub mod BlockKeys
pub mod ByBlocks
pub mod EndedLemmas
pub mod StampsLemmas
pub mod RestLemmas
