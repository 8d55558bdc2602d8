-- The elements whose records are looked at.
use Rattle.std.specs.Prelude.{◌≡◌, ◌≢◌, All, List}
use Rattle.id_instr.specs.Graph.{Parts}
use Rattle.id_record.specs.declared.kept.Keeps.TheVariants as keeps
use Rattle.id_step.specs.Replays.{ElementView}

-- the elements are of this graph
abbrev pub AreOf : Parts → List ElementView → Type 0
AreOf g es = All (λ e. e.graph ≡ g) es

-- they keep all events
abbrev pub KeepAll : List ElementView → Type 0
KeepAll es = All (λ e. e.keeps ≡ keeps.All) es

-- they keep what came to merges
abbrev pub KeepNames : List ElementView → Type 0
KeepNames es = All (λ e. e.keeps ≢ keeps.Tellings) es
