pub mod SinkLemmas
pub mod TextsLemmas
pub mod ReadingLemmas
pub mod WritingLemmas
pub mod LinesLemmas
pub mod DigitsLemmas
pub mod InLineLemmas
pub mod TellingLemmas
