-- Switches, entries and what leads to them are as many as what is imported.
use Rattle.std.proofs.Common.{◌≡◌, ◌∙◌, ap, sym, arith, length}
use Rattle.id_check.specs.Programs.{place}
use Rattle.id_table.specs.declared.row.Row.{Row}
use Rattle.id_table.specs.declared.row.Node.TheVariants.{Entries, Split, Start, Switches, Turn}
use Rattle.id_desugar.specs.Regions.{carried, imports_of, is_loop_head}
use Rattle.id_build.specs.Rows.{made_of, node}
use Rattle.id_build.proofs.LoopsLemmas.{rows_few, start_head, start_inside}
use Rattle.id_build.proofs.SizeLemmas.{length-entries, length-split, length-start, length-switches, length-turn}
use Rattle.id_build.proofs.size.made_count.Goals as goal

pub nexts_at-nexts-requires : goal.nexts_at-nexts-requires
nexts_at-nexts-requires c =
    let P = c.args.kernel.now.checked.now in
    let is : node P c.args.n ≡ Start = ap (λ r. r.node) (sym c.row_at-row.ensures) ∙ c.in-Start.is in
    ap is_loop_head (start_head P c.args.n (start_inside P c.args.n is) is).1

pub overflow_add-head : goal.overflow_add-head
overflow_add-head c =
    let P = c.args.kernel.now.checked.now in
    let is : node P c.args.n ≡ Start = ap (λ r. r.node) (sym c.row_at-row.ensures) ∙ c.in-Start.is in
    omega (arith, start_inside P c.args.n is, rows_few P)

pub returns-in-Split-clause-count : goal.returns-in-Split-clause-count
returns-in-Split-clause-count c =
    let P = c.args.kernel.now.checked.now in
    let n = c.args.n in
    let is : node P n ≡ Split c.in-Split.test = ap (λ r. r.node) (sym c.row_at-row.ensures) ∙ c.in-Split.is in
    omega (
      arith,
      ap length c.imports_at.ensures,
      length-split P n (place P n) c.in-Split.test,
      ap (λ m. length (made_of P n (place P n) m)) is,
    )

pub returns-in-Switches-clause-count : goal.returns-in-Switches-clause-count
returns-in-Switches-clause-count c =
    let P = c.args.kernel.now.checked.now in
    let n = c.args.n in
    let is : node P n ≡ Switches c.in-Switches.test = ap (λ r. r.node) (sym c.row_at-row.ensures) ∙ c.in-Switches.is in
    omega (
      arith,
      ap length c.imports_at-in-Switches.ensures,
      length-switches P n (place P n) c.in-Switches.test,
      ap (λ m. length (made_of P n (place P n) m)) is,
    )

pub returns-in-Start-clause-count : goal.returns-in-Start-clause-count
returns-in-Start-clause-count c =
    let P = c.args.kernel.now.checked.now in
    let n = c.args.n in
    let is : node P n ≡ Start = ap (λ r. r.node) (sym c.row_at-row.ensures) ∙ c.in-Start.is in
    omega (
      arith,
      ap length c.imports_at-in-Start.ensures,
      length-start P n (place P n),
      ap (λ m. length (made_of P n (place P n) m)) is,
      ap length c.nexts_at-nexts.ensures.nexts,
    )

pub returns-in-Entries-clause-count : goal.returns-in-Entries-clause-count
returns-in-Entries-clause-count c =
    let P = c.args.kernel.now.checked.now in
    let n = c.args.n in
    let is : node P n ≡ Entries = ap (λ r. r.node) (sym c.row_at-row.ensures) ∙ c.in-Entries.is in
    omega (
      arith,
      ap length c.imports_at-in-Entries.ensures,
      length-entries P n (place P n),
      ap (λ m. length (made_of P n (place P n) m)) is,
      ap (λ (r : Row). length (imports_of P r.block)) c.row_at-row.ensures,
    )

pub returns-in-Turn-clause-count : goal.returns-in-Turn-clause-count
returns-in-Turn-clause-count c =
    let P = c.args.kernel.now.checked.now in
    let n = c.args.n in
    let is : node P n ≡ Turn = ap (λ r. r.node) (sym c.row_at-row.ensures) ∙ c.in-Turn.is in
    omega (
      arith,
      ap length c.imports_at-in-Turn.ensures,
      length-turn P n (place P n),
      ap (λ m. length (made_of P n (place P n) m)) is,
      ap (λ (r : Row). length (imports_of P r.block)) c.row_at-row.ensures,
      ap (λ (r : Row). length (carried P r.block)) c.row_at-row.ensures,
    )
