-- *Valid*: every graph that the schemas give a program is valid.
pub mod WantedKinds
pub mod PortsTake
pub mod HasKinds
pub mod ValidCounts
pub mod ValidPorts
pub mod ValidKinds
pub mod ValidTests
pub mod ValidRoles
pub mod ValidFeeds
pub mod ValidGraphs
