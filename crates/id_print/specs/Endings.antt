-- How a run ended (docs/PROMISES.md, "Printing").
use Rattle.std.specs.Prelude.{◌≡◌, []}
use Rattle.id_core.specs.Machines.{MachineView, IsQuiet}
use Rattle.id_core.specs.Observed.{faults}
use Rattle.id_core.specs.Firsts.{IsFirstFault}
use Rattle.id_print.specs.declared.ending.Ending.{Ending}
use Rattle.id_print.specs.declared.ending.Ending.TheVariants.{Quiet, Stopped, Fault}

-- the machine ended so: at the first fault of all its events, by stamp and then by element, and where it shows none,
-- quiet or not
abbrev pub EndsSo : MachineView → Ending → Type 0
EndsSo m Quiet = IsQuiet m.world
EndsSo m Stopped = (faults m.graph m.world ≡ []) × ¬ IsQuiet m.world
EndsSo m (Fault f) = IsFirstFault m.graph m.world.elements f
