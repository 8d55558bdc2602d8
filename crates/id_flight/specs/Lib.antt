pub mod Accesses
pub mod Parcels
pub mod Queues
pub mod Rows
