-- What public clauses cite.
pub mod Verdicts
pub mod Ends
pub mod Lines
pub mod Judging
pub mod Listening
pub mod Benches
pub mod Codes
