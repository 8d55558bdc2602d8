use Rattle.std.proofs.Common.{ℕ, List, ◌≤◌, All, length, sym, ap, subst, ◌∙◌}
use Rattle.id_instr.specs.Graph.{Parts}
use Rattle.id_graph.specs.Dot.{dot_text}
use Rattle.id_build.specs.Own.{schemas_of}
use Rattle.id_engine.proofs.PlacedLemmas.{instrs_within}
use Rattle.id_engine.proofs.commands.draw_compiled.Goals as goal

pub draw-requires-clause-places : goal.draw-requires-clause-places
draw-requires-clause-places c =
    let p = c.args.compiled.now in
    rw c.text.ensures.value
    (subst (λ (g : Parts). All (λ i. i.place ≤ length p.text) g.instrs)
    (sym (c.graph.ensures.value ∙ c.valid.ensures.value))
    (instrs_within c.text.ensures.within p.graph (schemas_of c.valid.ensures.kept)))

pub returns-in-Ok-clause-picture : goal.returns-in-Ok-clause-picture
returns-in-Ok-clause-picture c =
    let p = c.args.compiled.now in
    c.in-Ok.ensures ∙ (ap (λ (t : List ℕ). dot_text t c.graph.result.now) c.text.ensures.value ∙
    ap (dot_text p.text) (c.graph.ensures.value ∙ c.valid.ensures.value))

pub returns-in-Ok-clause-own : goal.returns-in-Ok-clause-own
returns-in-Ok-clause-own c = c.valid.ensures.kept

pub returns-in-Err-clause-own : goal.returns-in-Err-clause-own
returns-in-Err-clause-own c = c.valid.ensures.kept
