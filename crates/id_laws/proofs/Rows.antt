-- What the rows of a checked program are, what they make, and what feeds it.
pub mod Arcs
pub mod Feeders
pub mod Assumed
pub mod Calls
pub mod Stores
pub mod Conditionals
pub mod Regions
pub mod Loops
pub mod LoopFacts
pub mod Tokens
pub mod Blocks
pub mod LoopRows
pub mod Start
pub mod Sources
pub mod Speakers
pub mod Known
