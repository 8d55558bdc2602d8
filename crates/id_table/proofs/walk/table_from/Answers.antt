use Rattle.std.proofs.Common.{◌≡◌, sym, ap, ◌∙◌, subst}
use Rattle.id_grammar.specs.Tree.{program_tree}
use Rattle.id_table.specs.Rows.{Parts, parts_of, rows_of}
use Rattle.id_table.specs.Tables.{AreNamed, IsFormed, IsNested}
use Rattle.id_table.proofs.NumbersLemmas.{AreNamed-parts_of}
use Rattle.id_table.proofs.TableLemmas.{IsTable-rows_of}
use Rattle.id_table.proofs.TreeLemmas.{IsProgramTree-program_tree}
use Rattle.id_table.proofs.walk.table_from.Goals as goal

pub invariant_of-result : goal.invariant_of-result
invariant_of-result c =
    let t = program_tree c.args.program.now in
    let made = c.in_ok-maker.ensures in
    let rows : c.in_ok-maker.maker.rows.items ≡ rows_of t = ap (λ (T : Parts). T.rows) made in
    let table = IsTable-rows_of t (IsProgramTree-program_tree c.args.program.now) in
    let names : c.in_ok-names.names.items ≡ (parts_of t).names = c.in_ok-names.ensures ∙ ap (λ (T : Parts). T.names) made in
    record {
      formed = subst IsFormed (sym rows) table.formed;
      nested = subst IsNested (sym rows) table.nested;
      named = subst (λ R. AreNamed R c.in_ok-names.names.items) (sym rows) (subst (AreNamed (rows_of t)) (sym names) (AreNamed-parts_of t));
    }
