-- What begins at a row ends at one of the rows.
use Rattle.std.proofs.Common.{arith}
use Rattle.id_build.proofs.BoundLemmas.{end_of-within}
use Rattle.id_build.proofs.size.rows_in.Goals as goal

pub returns-clause-few : goal.returns-clause-few
returns-clause-few c =
    let P = c.args.spans.now.ends.checked.now in
    omega (
      arith,
      end_of-within P c.args.head,
      c.args.spans.now.few,
      c.end_of-end.ensures,
      c.saturating_sub.ensures,
      c.saturating_sub-2.ensures,
    )
