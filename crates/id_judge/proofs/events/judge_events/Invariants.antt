-- The events so far lead to where the machine is.
use Rattle.std.proofs.Common.{◌≡◌, length, take}
use Rattle.id_core.specs.Machines.{start}
use Rattle.id_record.specs.declared.kept.Keeps.TheVariants as keeps
use Rattle.id_runs.specs.Legal.{LeadTo}
use Rattle.id_judge.specs.Benches.{world_in}
use Rattle.id_judge.proofs.events.judge_events.Given as goal

abbrev pub invariant-loop-position : goal.invariant-loop-position
invariant-loop-position l =
    (l.bench.graph ≡ l.graph) × (length l.bench.elements ≡ l.fn.count)
    × (l.bench.keeps ≡ keeps.All)
    × LeadTo l.graph l.fn.count (start l.graph l.inputs.values l.fn.count) (take l.position l.events) (world_in l.bench)
