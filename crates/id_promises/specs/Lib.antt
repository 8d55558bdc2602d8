-- What public clauses cite.
pub mod Alike
pub mod OneProgram
pub mod OneAnswer
pub mod OneRound
pub mod Moments
pub mod JudgedAlike
pub mod Stopped
pub mod Status
pub mod AtOnce
pub mod LastRound
