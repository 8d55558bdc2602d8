-- What public clauses cite.
pub mod Told
pub mod Texts
pub mod Reading
pub mod Writing
pub mod Telling
-- For use inside.
pub mod Cursors
