-- What public clauses cite.
pub mod Commands
pub mod Requests
-- For use inside.
pub mod Matches
