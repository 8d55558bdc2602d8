-- What public clauses cite.
pub mod Programs
pub mod Refusals
-- For use inside.
pub mod Codes
pub mod Kept
