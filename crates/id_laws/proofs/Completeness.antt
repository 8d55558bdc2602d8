-- *Complete* and *Determinate*: what a quiet run shows is all that the source has.
pub mod OnCells
pub mod LoopFirings
pub mod Agreement
pub mod Firings
pub mod Triggers
pub mod Counting
pub mod CarriedValues
pub mod CarriedThings
pub mod CarriedRegions
pub mod CarriedCounted
pub mod CarriedFacts
pub mod QuietCells
pub mod QuietRuns
pub mod EveryRun
pub mod DeterminateLemmas
