-- The edges of a row.
use Rattle.std.proofs.Common.{ap, sym, ◌∙◌, arith}
use Rattle.id_source.proofs.EdgesLemmas.{targets-at, targets-past}
use Rattle.id_source.proofs.edges.Edges.of.Goals as goal

pub returns-then-from-len : goal.returns-then-from-len
returns-then-from-len c =
    c.as_slice.ensures.value ∙ ap (λ v. v.items) c.index.ensures
    ∙ sym (targets-at c.args.self.now.rows.items c.args.from c.index.result.now (omega arith))

pub returns-else-from-len : goal.returns-else-from-len
returns-else-from-len c = sym (targets-past c.args.self.now.rows.items c.args.from (omega arith))
