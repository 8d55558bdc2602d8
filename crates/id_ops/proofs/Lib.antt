pub mod OperandsLemmas
