-- What public clauses cite.
pub mod RowFacts
pub mod Firsts
pub mod Cells
pub mod Queues
pub mod Waits
pub mod Listed
pub mod Depths
