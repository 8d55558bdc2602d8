-- What the contracts cite.
pub mod ByHand
