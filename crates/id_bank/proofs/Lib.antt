pub mod SlotsLemmas
mod OrderLemmas
mod LeftLemmas
