-- What public clauses cite.
pub mod Front
pub mod Halves
pub mod Meetings
pub mod Ports
pub mod Waiting
pub mod Keyed
pub mod Codes
-- For use inside.
pub mod Rear
pub mod Frames
