-- What public clauses cite.
pub mod Firings
pub mod Fits
pub mod Shorts
pub mod Steps
pub mod Storage
pub mod Replays
pub mod Takes
pub mod Stretches
pub mod Codes
-- For use inside.
pub mod Handled
pub mod Kept
pub mod Accesses
