-- What public clauses cite.
pub mod Runs
-- For use inside.
pub mod Codes
pub mod Doors
pub mod Passing
pub mod Workers
pub mod Gathered
