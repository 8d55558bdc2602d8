-- What public clauses cite.
pub mod Names
pub mod Rows
pub mod Lent
pub mod Tables
pub mod Regions
pub mod Calls
pub mod Loops
pub mod Stores
pub mod Trees
pub mod Turns
pub mod Nodes
pub mod Texts
pub mod Making
