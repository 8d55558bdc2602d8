pub mod InputsLemmas
pub mod MachinesLemmas
