pub mod ArrayLemmas
pub mod BlockLemmas
pub mod CallLemmas
pub mod ForLemmas
pub mod ReadLemmas
pub mod WholeLemmas
pub mod CompleteLemmas
mod SoundLemmas
mod FinishLemmas
mod RefusedLemmas
mod DistinctLemmas
pub mod StartsLemmas
