-- What public clauses cite.
pub mod Endings
pub mod Helds
pub mod Names
pub mod RunReports
pub mod Telling
pub mod Texts
pub mod Pens
pub mod Reasons
pub mod Reports
