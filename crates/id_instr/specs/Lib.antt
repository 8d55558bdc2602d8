-- What public clauses cite.
pub mod Dests
pub mod Graph
pub mod Held
pub mod Ports
