-- What public clauses cite.
pub mod Listing
pub mod Looks
pub mod Dot
pub mod Begun
