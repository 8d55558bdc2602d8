-- What one row more reads.
use Rattle.std.proofs.Common.{◌≡◌, ◌+◌, ◌∙◌, List, arith, subst, suc, sym}
use Rattle.id_table.specs.declared.row.Row.{Row}
use Rattle.id_table.specs.Rows.{at}
use Rattle.id_source.specs.Links.{GainsTo, linked_of}
use Rattle.id_source.proofs.LinksLemmas.{reads-by}
use Rattle.id_source.proofs.TurnsLemmas.{if_err}
use Rattle.id_source.proofs.links.reads.Goals as goal

pub loop-n-preserved : goal.loop-n-preserved
loop-n-preserved c =
    let n = c.loop-n.n in
    let next : n + 1 ≡ suc n = omega arith in
    let rows = c.as_slice-row-items.result.now in
    let same : c.as_slice.result.now ≡ rows = c.as_slice.ensures.value ∙ sym c.as_slice-row-items.ensures.value in
    let F : List Row → Type 0 =
    λ xs. GainsTo c.loop-n.reads c.add_reads.new.reads (linked_of xs c.beyond.result (at rows n).node) n in
    reads-by c.args.checked.now n (n + 1) _ _ rows c.beyond.result next c.as_slice-row-items.ensures.value
    c.beyond.ensures c.loop-n.invariant
    (subst F same c.in_ok-add_reads.ensures)

pub returns-in_err-reads : goal.returns-in_err-reads
returns-in_err-reads c = if_err _ c.from_residual.result c.from_residual.ensures.0

pub returns-in_err-add_reads : goal.returns-in_err-add_reads
returns-in_err-add_reads c = if_err _ c.from_residual-in_err-add_reads.result c.from_residual-in_err-add_reads.ensures.0
