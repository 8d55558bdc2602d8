-- One step less is left to go.
use Rattle.std.proofs.Common.{◌≡◌, ◌+◌, ◌-◌, suc, ap, sym, ◌∙◌, arith}
use Rattle.id_facts.specs.Cells.{items, out_of}
use Rattle.id_facts.proofs.cells.Cells.out_of.Goals as goal

pub loop-step-preserved : goal.loop-step-preserved
loop-step-preserved c =
    let es = items c.args.self.now in
    let i = c.loop-step._step in
    let more : c.args.d - i ≡ suc (c.args.d - (i + 1)) = (let l = c.loop-step-test.true in omega arith) in
    ap (λ r. out_of es (c.args.d - (i + 1)) r) c.outer-rest.ensures ∙ ap (λ n. out_of es n c.loop-step.rest) (sym more)
    ∙ c.loop-step.invariant
