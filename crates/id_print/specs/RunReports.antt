-- What a run shows, in order, as its report (docs/PROMISES.md, "Printing").
use Rattle.std.specs.Prelude.{◌≡◌, [], Bool, IsTrue, IsFalse}
use Rattle.id_source.specs.Orders.{NamesRise, Rises}
use Rattle.id_core.specs.Machines.{MachineView}
use Rattle.id_core.specs.Observed.{answer, cell_values, names, structures, waiting}
use Rattle.id_print.specs.declared.run_reports.Report.{Report}
use Rattle.id_print.specs.Endings.{EndsSo}
use Rattle.id_print.specs.Names.{IsOrderOf, IsSortedOf, AreApart, AreApartBy, HeldBefore, WaitBefore}
use Rattle.id_print.specs.Names.{OfOneThing, OfOneFetch, held_lines}

-- the report is what the machine shows: of what binders have where that is asked for, and else of no names; where the
-- machine shows nothing twice, each line comes before the next
pub record IsReportFrom (m : MachineView) (named : Bool) (r : Report) : Type 0 where
  pub answer_is : r.answer ≡ answer m.graph m.world
  pub sorted : IsTrue named → IsSortedOf r.names (names m.graph m.world)
  pub rise : IsTrue named → AreApart (names m.graph m.world) → NamesRise r.names
  pub none : IsFalse named → r.names ≡ []
  pub held : IsOrderOf HeldBefore r.structures (held_lines (structures m.graph m.world) (cell_values m.graph m.world))
  pub held_rise : AreApartBy OfOneThing (held_lines (structures m.graph m.world) (cell_values m.graph m.world))
      → Rises HeldBefore r.structures
  pub waits : IsOrderOf WaitBefore r.waiting (waiting m.graph m.world)
  pub waits_rise : AreApartBy OfOneFetch (waiting m.graph m.world) → Rises WaitBefore r.waiting
  pub ends : EndsSo m r.ending
