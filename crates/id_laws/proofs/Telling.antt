-- What the messages of a run tell of the source.
pub mod CountTells
pub mod TurnedOn
pub mod Origins
pub mod LoopEntries
pub mod LoopTells
pub mod Feeding
pub mod FiringMeans
pub mod OperatorsTell
pub mod Firing
pub mod AllTell
pub mod Wholes
pub mod OperatorsAgree
pub mod StartTells
