-- What public clauses cite.
pub mod Traces
