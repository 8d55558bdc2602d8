pub mod BuffersLemmas
pub mod ParcelsLemmas
pub mod RowsLemmas
