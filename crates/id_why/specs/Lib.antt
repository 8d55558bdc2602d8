-- What public clauses cite.
pub mod Needs
pub mod Lines
pub mod Rounds
-- For use inside.
pub mod Known
pub mod Found
pub mod Things
pub mod Walks
