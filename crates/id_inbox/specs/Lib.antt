pub mod Doors
pub mod Hands
