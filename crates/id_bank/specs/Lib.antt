-- What public clauses cite.
pub mod Cells
pub mod Slots
pub mod Codes
