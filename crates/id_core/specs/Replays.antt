-- The record of an element leads to its state (docs/MACHINE.md, "The record"): the definitions of `id_step`.
pub use Rattle.id_step.specs.Replays.{after_all, messages, IsReplayed, IsLegal, ElementView, WaitingFits, Replays}
