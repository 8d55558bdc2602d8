-- The steps that are left to go lead to the same path.
use Rattle.std.proofs.Common.{◌≡◌, ◌-◌}
use Rattle.id_facts.specs.Cells.{items, out_of}
use Rattle.id_facts.proofs.cells.Cells.out_of.Given as goal

abbrev pub invariant-loop-step : goal.invariant-loop-step
invariant-loop-step l = out_of (items l.self) (l.d - l._step) l.rest ≡ out_of (items l.self) l.d l.fn.path
