-- What public clauses cite.
pub mod Laws
pub mod Determinate
pub mod Bounded
pub mod ByBlock
pub mod Ended
pub mod Rest
-- For use inside.
pub mod Activations
pub mod Topics
pub mod Ways
pub mod Carried
