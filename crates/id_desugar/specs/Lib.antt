-- What public clauses cite.
pub mod Ends
pub mod Lists
pub mod Regions
-- For use inside.
pub mod Gathering
