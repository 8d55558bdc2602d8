pub mod ParamLemmas
pub mod ReaderLemmas
pub mod RowLemmas
pub mod RunLemmas
pub mod StatementLemmas
