-- The first fault that records show (docs/MACHINE.md, "Observed"): the definitions of `id_observe`.
pub use Rattle.id_observe.specs.Firsts.{AreMergedOf, IsFirstFault}
