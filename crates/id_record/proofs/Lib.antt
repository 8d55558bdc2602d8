pub mod TellingsLemmas
pub mod EachLemmas
pub mod AsidesLemmas
pub mod SendsLemmas
pub mod RecordsLemmas
