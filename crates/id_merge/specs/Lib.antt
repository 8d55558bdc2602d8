-- What public contracts cite.
pub mod Lines
pub mod Merging
-- For use inside.
pub mod Heads
