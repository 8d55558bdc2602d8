-- What public contracts cite.
pub mod Logs
