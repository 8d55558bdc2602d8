use Rattle.std.proofs.Common.{◌≤◌, All, length, sym, ap, subst, ◌∙◌}
use Rattle.id_instr.specs.Graph.{Parts}
use Rattle.id_graph.specs.Listing.{listing}
use Rattle.id_build.specs.Own.{schemas_of}
use Rattle.id_engine.proofs.PlacedLemmas.{instrs_within}
use Rattle.id_engine.proofs.commands.list_compiled.Goals as goal

pub list-requires-clause-places : goal.list-requires-clause-places
list-requires-clause-places c =
    let p = c.args.compiled in
    rw c.text-text.ensures.value (subst (λ (g : Parts). All (λ i. i.place ≤ length p.text) g.instrs)
    (sym (c.graph.ensures.value ∙ c.into_valid-valid.ensures.value))
    (instrs_within c.text-text.ensures.within p.graph (schemas_of c.into_valid-valid.ensures.kept)))

pub returns-in-Ok-clause-listing : goal.returns-in-Ok-clause-listing
returns-in-Ok-clause-listing c = record {
  program = c.args.compiled.checked;
  is_program = c.text-text.ensures.program;
  graph = c.args.compiled.graph;
  own = c.into_valid-valid.ensures.kept;
  listing_is =
      (rw c.text-text.ensures.value at c.in-Ok.ensures)
      ∙ ap (listing c.args.compiled.text) (c.graph.ensures.value ∙ c.into_valid-valid.ensures.value);
}
