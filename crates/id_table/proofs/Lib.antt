-- What crates above import.
pub mod TreeLemmas
pub mod AddedLemmas
pub mod TableLemmas
pub mod PlacesLemmas
pub mod BlocksLemmas
pub mod NumbersLemmas
pub mod RegionLemmas
pub mod DepthLemmas
pub mod NamesLemmas
-- For the proofs of this crate alone.
mod BlockLemmas
mod CallLemmas
mod ConditionalLemmas
mod ExpressionLemmas
mod HasLemmas
mod IndexLemmas
mod LoopLemmas
mod LoopRowsLemmas
mod NextLemmas
mod ParamsLemmas
mod ProcedureLemmas
mod RowLemmas
mod StoreLemmas
-- For the proofs of this crate alone.
mod MakingLemmas
