-- What public clauses cite.
pub mod Events
pub mod Pasts
pub mod Handlings
pub mod PlainFirings
pub mod CellEvents
pub mod Tellings
pub mod Shorts
pub mod ShortHandlings
pub mod Kept
pub mod Sends
pub mod Records
