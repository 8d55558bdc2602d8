pub mod InsideLemmas
pub mod AnsweredLemmas
