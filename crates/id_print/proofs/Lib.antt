pub mod HeldsLemmas
pub mod NamesLemmas
pub mod PartlyLemmas
pub mod RowsLemmas
pub mod LinesLemmas
pub mod TellingLemmas
pub mod ReasonsLemmas
