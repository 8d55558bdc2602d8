pub mod TestLemmas
pub mod KnownLemmas
pub mod IndexLemmas
pub mod NeedsLemmas
pub mod ThingsLemmas
pub mod WalkLemmas
pub mod RoundLemmas
