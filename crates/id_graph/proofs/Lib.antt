pub mod ListingLemmas
pub mod PieceLemmas
pub mod DotLemmas
pub mod LooksLemmas
