pub mod TagsLemmas
pub mod RoutesLemmas
pub mod SortedLemmas
