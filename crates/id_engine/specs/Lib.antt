-- What public clauses cite.
pub mod Commands
pub mod Judged
pub mod Runs
pub mod Reasoned
pub mod Listening
pub mod Served
pub mod Settled
-- For use inside.
pub mod Reports
pub mod Asked
pub mod Judgements
pub mod Found
