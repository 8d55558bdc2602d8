-- What public clauses cite.
pub mod List
pub mod Bounds
pub mod Kinds
pub mod Results
