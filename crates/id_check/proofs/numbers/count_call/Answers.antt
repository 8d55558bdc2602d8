use Rattle.std.proofs.Common.{◌≡◌, ◌+◌, ◌<◌, None, get_or, set, length, refl, sym, ◌∙◌, ap, subst, arith}
use Rattle.std.specs.Prelude.{Some}
use Rattle.std.specs.Option.{option_or}
use Rattle.std.proofs.lemmas.List.{get_or_default}
use Rattle.id_table.specs.declared.row.Row.{Row}
use Rattle.id_table.specs.declared.row.Node.TheVariants.{Call, Head}
use Rattle.id_table.specs.Lent.{list_of}
use Rattle.id_table.specs.Rows.{at}
use Rattle.id_check.specs.Counts.{AreCounts}
use Rattle.id_check.proofs.CountsLemmas.{counts_call, counts_other}
use Rattle.id_check.proofs.ParamsLemmas.{in_rows}
use Rattle.id_check.proofs.LinksLemmas.{part_of}
use Rattle.id_check.proofs.numbers.count_call.Goals as goal
use Rattle.id_check.proofs.numbers.count_call.Goals.{In-Call}

-- the row is a call, and its `Enter` is a row
called : (c : In-Call)
    → ((at (list_of c.args.rows.now) c.args.i).node ≡ Call c.in-Call.enter c.in-Call.count)
    × (c.in-Call.enter < length (list_of c.args.rows.now))
called c =
    let R = (list_of c.args.rows.now) in
    let e = c.in-Call.enter in
    let n = c.in-Call.count in
    let is : (at R c.args.i).node ≡ Call e n = ap (λ (r : Row). r.node) (sym c.at.ensures) ∙ c.in-Call.is in
    let row = in_rows R c.args.i (λ q. let d : Head ≡ Call e n = sym q ∙ is in cc) in
    (is, part_of e c.args.rows.now.table.now.formed row is refl)

pub index-requires : goal.index-requires
index-requires c =
    omega (arith, (called (goal.at.index-requires c).In-Call).1, c.requires.long)

pub index_mut-requires : goal.index_mut-requires
index_mut-requires c =
    omega (arith, (called (goal.at.index_mut-requires c).In-Call).1, c.requires.long)

pub returns-else-count-gt-MOST : goal.returns-else-count-gt-MOST
returns-else-count-gt-MOST c =
    let R = (list_of c.args.rows.now) in
    let cs = c.args.counts.now.items in
    let e = c.in-Call.enter in
    let n = c.in-Call.count in
    let w = called (goal.at.returns-else-count-gt-MOST c).In-Call in
    let read : c.index.result.now ≡ get_or cs e None =
    c.index.ensures ∙ get_or_default cs e c.index.result.now None (subst (λ m. e < m) (sym c.requires.long) w.1) in
    subst (λ o. AreCounts R (c.args.i + 1) (set cs e o))
    (sym (c.first_count.ensures ∙ ap (λ o. option_or o (Some n)) read))
    (counts_call R c.args.i e n cs w.0 w.1 c.requires)

pub returns-in_default : goal.returns-in_default
returns-in_default c =
    counts_other (list_of c.args.rows.now) c.args.i c.args.counts.now.items
    (λ e n q. c.in_default.not-Call e n (ap (λ (r : Row). r.node) c.at.ensures ∙ q)) c.requires
