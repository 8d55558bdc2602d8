pub mod AnsweredLemmas
pub mod HeldLemmas
pub mod NamesLemmas
pub mod PlacedLemmas
pub mod RunLemmas
pub mod ShownLemmas
pub mod LeftLemmas
pub mod TraceLemmas
pub mod KeepsLemmas
pub mod PrintedLemmas
pub mod HearLemmas
pub mod JudgedLemmas
pub mod ReasonedLemmas
mod ServedLemmas
