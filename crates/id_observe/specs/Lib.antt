-- What public clauses cite.
pub mod Elements
pub mod Paths
pub mod Tellings
pub mod Sourced
pub mod Merged
pub mod Firsts
pub mod Observed
