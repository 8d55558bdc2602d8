pub mod CommandsLemmas
pub mod MatchesLemmas
