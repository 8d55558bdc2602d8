-- What public clauses cite.
pub mod Roles
pub mod Validator
-- For use inside.
pub mod Past
pub mod Survey
