pub mod ColumnLemmas
pub mod EndsLemmas
pub mod FilledLemmas
pub mod HeadsLemmas
pub mod NotesLemmas
pub mod OrderLemmas
pub mod OwnLemmas
pub mod UsesLemmas
