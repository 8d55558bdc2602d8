-- The number at the row stands for what is put there.
use Rattle.std.proofs.Common.{ap, ◌∙◌, slice_set}
use Rattle.std.proofs.lemmas.List.{map-set}
use Rattle.id_desugar.specs.Lists.{row_of}
use Rattle.id_desugar.proofs.column.Column.set.Goals as goal

pub returns : goal.returns
returns c =
    let row = c.args.row in
    map-set row_of c.self.inside.numbers.items row c.number_of.result
    ∙ ap (λ os. slice_set os row (row_of c.number_of.result)) c.self.view_is
    ∙ ap (slice_set c.args.self.now row) c.number_of.ensures
