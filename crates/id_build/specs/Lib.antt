-- What public clauses cite.
pub mod Rows
pub mod Made
pub mod Schemas
pub mod Slots
pub mod Own
-- For use inside.
pub mod Passes
