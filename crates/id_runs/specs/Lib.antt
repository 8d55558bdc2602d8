-- What public clauses cite.
pub mod Events
pub mod Activations
pub mod Runs
pub mod Keys
pub mod OneMessage
pub mod Suited
pub mod Serials
pub mod Cells
pub mod Legal
pub mod Accounts
pub mod Orders
