-- *Sound* and *Never stuck*: what a run shows is what the source has.
pub mod NeverStuck
pub mod Observing
pub mod Naming
pub mod SoundAnswer
pub mod SoundFaults
pub mod SoundValues
pub mod SoundNames
pub mod SoundCells
pub mod SoundRuns
