-- The paths and names are those of the records.
use Rattle.std.proofs.Common.{◌≡◌, IfOk, map, subst}
use Rattle.id_observe.specs.Paths.{structure_by, structure_in}
use Rattle.id_observe.proofs.answered.told_name.Goals as goal

pub returns : goal.returns
returns c =
    let states = map (λ e. e.state) c.args.records.now.elements.now in
    let names : structure_by c.in_ok-paths.paths ≡ structure_in c.args.records.now.graph.now states =
    c.in_ok-paths.ensures.structures in
    subst (λ f. IfOk c.name.result (λ a. a ≡ f c.args.structure)) names c.name.ensures
