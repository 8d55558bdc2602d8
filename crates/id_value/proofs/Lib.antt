pub mod AmongLemmas
pub mod DifferLemmas
pub mod PlacesLemmas
pub mod ResultsLemmas
