pub mod Tree
pub mod Ends
pub mod Grammar
-- For the proof of the parser alone.
pub mod Machine
pub mod Standing
pub mod Readers
