-- All lines are the trace of a legal list that leads to the machine.
use Rattle.std.proofs.Common.{◌≡◌, length}
use Rattle.id_core.specs.Machines.{MachineView}
use Rattle.id_judge.specs.declared.verdict.Verdict.TheVariants.{Legal}
use Rattle.id_judge.specs.Benches.{world_in}
use Rattle.id_judge.specs.Lines.{IsLineVerdict}
use Rattle.id_judge.proofs.JudgeLemmas.{end_read}
use Rattle.id_judge.proofs.ReadLemmas.{if_ok_more}
use Rattle.id_judge.proofs.judge.Judge.end.Goals as goal

pub returns : goal.returns
returns c = λ g vs count keeps text on h.
    let b = c.args.self.bench in
    if_ok_more (λ (m : MachineView). m ≡ record {
      graph = b.graph;
      count = length b.elements;
      keeps = b.keeps;
      world =
          world_in b;
    })
    (λ m. IsLineVerdict g vs count keeps text (Legal m c.args.self.lines)) c.end_bench.result
    (λ m is. end_read c.args.self m g vs count keeps text is on h) c.end_bench.ensures
