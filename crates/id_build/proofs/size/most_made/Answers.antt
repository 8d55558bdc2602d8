-- Switches, entries and what leads to them are no more than rows stand in what is switched.
use Rattle.std.proofs.Common.{◌≡◌, ◌∙◌, ◌-◌, ◌+◌, ap, sym, arith}
use Rattle.id_table.specs.declared.row.Row.{Row}
use Rattle.id_table.specs.declared.row.Node.TheVariants.{Entries, Split, Start, Switches, Turn}
use Rattle.id_desugar.specs.Ends.{end_of}
use Rattle.id_build.specs.Rows.{block, node}
use Rattle.id_build.proofs.LoopsLemmas.{rows_few, start_inside}
use Rattle.id_build.proofs.BoundLemmas.{entries-most, split-most, start-most, switches-most, turn-most}
use Rattle.id_build.proofs.size.most_made.Goals as goal

pub returns-in-Split-clause-most : goal.returns-in-Split-clause-most
returns-in-Split-clause-most c =
    let P = c.args.spans.now.ends.checked.now in
    let is : node P c.args.n ≡ Split c.in-Split.test = ap (λ r. r.node) (sym c.row_at-row.ensures) ∙ c.in-Split.is in
    omega (arith, c.rows_in.ensures.rows, split-most P c.args.n c.in-Split.test is)

pub returns-in-Switches-clause-most : goal.returns-in-Switches-clause-most
returns-in-Switches-clause-most c =
    let P = c.args.spans.now.ends.checked.now in
    let is : node P c.args.n ≡ Switches c.in-Switches.test =
    ap (λ r. r.node) (sym c.row_at-row.ensures) ∙ c.in-Switches.is in
    let same : end_of P c.row_at-row.result.block - (c.row_at-row.result.block + 1)
    ≡ end_of P (block P c.args.n) - (block P c.args.n + 1) =
    ap (λ (r : Row). end_of P r.block - (r.block + 1)) c.row_at-row.ensures in
    omega (arith, same, c.rows_in-in-Switches.ensures.rows, switches-most P c.args.n c.in-Switches.test is)

pub overflow_add-result-in-Start : goal.overflow_add-result-in-Start
overflow_add-result-in-Start c =
    let P = c.args.spans.now.ends.checked.now in
    let is : node P c.args.n ≡ Start = ap (λ r. r.node) (sym c.row_at-row.ensures) ∙ c.in-Start.is in
    omega (arith, start_inside P c.args.n is, rows_few P)

pub returns-in-Start-clause-most : goal.returns-in-Start-clause-most
returns-in-Start-clause-most c =
    let P = c.args.spans.now.ends.checked.now in
    let is : node P c.args.n ≡ Start = ap (λ r. r.node) (sym c.row_at-row.ensures) ∙ c.in-Start.is in
    omega (arith, c.rows_in-in-Start.ensures.rows, start-most P c.args.n is)

pub returns-in-Entries-clause-most : goal.returns-in-Entries-clause-most
returns-in-Entries-clause-most c =
    let P = c.args.spans.now.ends.checked.now in
    let is : node P c.args.n ≡ Entries = ap (λ r. r.node) (sym c.row_at-row.ensures) ∙ c.in-Entries.is in
    let same : end_of P c.row_at-row.result.block - (c.row_at-row.result.block + 1)
    ≡ end_of P (block P c.args.n) - (block P c.args.n + 1) =
    ap (λ (r : Row). end_of P r.block - (r.block + 1)) c.row_at-row.ensures in
    omega (arith, same, c.rows_in-in-Entries.ensures.rows, entries-most P c.args.n is)

pub returns-in-Turn-clause-most : goal.returns-in-Turn-clause-most
returns-in-Turn-clause-most c =
    let P = c.args.spans.now.ends.checked.now in
    let is : node P c.args.n ≡ Turn = ap (λ r. r.node) (sym c.row_at-row.ensures) ∙ c.in-Turn.is in
    let same : end_of P c.row_at-row.result.block - (c.row_at-row.result.block + 1)
    ≡ end_of P (block P c.args.n) - (block P c.args.n + 1) =
    ap (λ (r : Row). end_of P r.block - (r.block + 1)) c.row_at-row.ensures in
    omega (arith, same, c.rows_in-in-Turn.ensures.rows, turn-most P c.args.n is)
