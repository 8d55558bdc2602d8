use Rattle.std.specs.Prelude.{◌≡◌}
use Rattle.id_tree.specs.Distinct.{Distinct}
use Rattle.id_table.specs.Rows.{parts_of, rows_of}
use Rattle.id_check.proofs.NotedLemmas.{known_tree}
use Rattle.id_check.proofs.program.into_table.Goals as goal

pub invariant_of-result : goal.invariant_of-result
invariant_of-result c =
    let t = c.in_ok-table.table in
    let o = c.in-Ok.tree.known in
    let p = c.args.program in
    record {
      tabled = known_tree (λ z. t.rows.items ≡ rows_of z) o p c.in-Ok.ensures.ok c.in_ok-table.ensures.rows;
      named = known_tree (λ z. t.names.items ≡ (parts_of z).names) o p c.in-Ok.ensures.ok c.in_ok-table.ensures.names;
      distinct = known_tree Distinct o p c.in-Ok.ensures.ok c.requires.distinct;
    }
