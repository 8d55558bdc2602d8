-- For use inside.
pub mod TracesLemmas
