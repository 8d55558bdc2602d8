-- The machine is at its start, and no line was read.
use Rattle.std.proofs.Common.{[], length, ap, refl}
use Rattle.id_core.specs.Machines.{World}
use Rattle.id_judge.specs.Benches.{world_in}
use Rattle.id_judge.proofs.JudgeLemmas.{read_as}
use Rattle.id_judge.proofs.ReadLemmas.{read_none, stamps_first}
use Rattle.id_judge.proofs.judge.Judge.new.Goals as goal

pub returns-clause-ready : goal.returns-clause-ready
returns-clause-ready c =
    let h = c.in_ok-bench.ensures in
    let b = c.in_ok-bench.bench in
    stamps_first _ c.in_ok-stamps.stamps.items (world_in b) c.in_ok-stamps.ensures
    (ap (λ (w : World). w.elements) h.world)

pub returns-clause-read : goal.returns-clause-read
returns-clause-read c =
    let h = c.in_ok-bench.ensures in
    let b = c.in_ok-bench.bench in
    let g = c.args.graph.now in
    let vs = c.args.inputs.now.values in
    read_as g b.graph vs _ (length b.elements) [] 0 0 (world_in b) h.graph h.count refl
    (read_none g vs _ [] (world_in b) h.world c.tell_small.ensures)
