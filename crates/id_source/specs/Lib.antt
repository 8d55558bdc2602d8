-- What public clauses cite.
pub mod Links
pub mod Sources
pub mod Facts
pub mod Rounds
pub mod Orders
pub mod Computed
pub mod Names
pub mod Things
pub mod Inputs
-- For use inside.
pub mod Reading
