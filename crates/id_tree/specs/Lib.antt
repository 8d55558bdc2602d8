-- What public clauses cite.
pub mod Accepted
pub mod Distinct
pub mod Starts
-- For the proof of the parser alone.
pub mod Reading
