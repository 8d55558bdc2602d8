-- What public clauses cite.
pub mod Given
pub mod Effects
-- For use inside.
pub mod Read
pub mod Following
