-- What public clauses cite.
pub mod Programs
pub mod Scopes
pub mod Kinds
pub mod Causes
pub mod Kept
pub mod Noted
pub mod Literals
-- For use inside.
pub mod Chains
pub mod Counts
pub mod Depths
pub mod Firsts
pub mod Judged
pub mod Names
pub mod Params
pub mod Passing
pub mod Typed
pub mod Wants
