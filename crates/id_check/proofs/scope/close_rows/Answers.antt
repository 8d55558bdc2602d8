use Rattle.std.proofs.Common.{◌≡◌, ◌<◌, ◌≤◌, ◌+◌, ℕ, get_or, ap, subst, arith}
use Rattle.std.proofs.lemmas.List.{get_or_default, get_or_past}
use Rattle.id_table.specs.declared.row.Row.{Row}
use Rattle.id_table.specs.Lent.{list_of}
use Rattle.id_check.specs.Names.{AreTaken}
use Rattle.id_check.proofs.TakingLemmas.{IsShut, shut_next, shut_start, taken_end, taken_gap, taken_start}
use Rattle.id_check.proofs.scope.close_rows.Goals as goal

pub loop-k-init : goal.loop-k-init
loop-k-init c =
    let R = (list_of c.args.rows.now) in
    let s = c.args.scope in
    let ps = c.args.untaken.now in
    let k = c.start_of-start.result in
    let first = ap (λ (r : Row). r.first) c.at.ensures in
    let shut : (b : ℕ) → 0 ≤ b → b < get_or ps k s → IsShut R s b = λ b d e.
    shut_start R s k b ps c.requires.untaken
    (λ j l. subst (λ f. get_or ps j 0 < f) first (c.start_of-start.ensures.before j l)) e in
    taken_gap R s 0 (get_or ps k s) c.args.held.now.items (omega arith) shut
    (taken_start R s c.args.held.now.items c.requires.held)

pub close_row-requires-clause-taken : goal.close_row-requires-clause-taken
close_row-requires-clause-taken c =
    subst (λ n. AreTaken (list_of c.args.rows.now) c.args.scope n c.loop-k.held.items)
    (get_or_default c.args.untaken.now c.loop-k.k c.args.scope 0 c.loop-k-test.true)
    c.loop-k.invariant

pub loop-k-preserved : goal.loop-k-preserved
loop-k-preserved c =
    let R = (list_of c.args.rows.now) in
    let s = c.args.scope in
    let ps = c.args.untaken.now in
    let k = c.loop-k.k in
    let next = shut_next R s k ps c.requires.untaken c.loop-k-test.true in
    taken_gap R s (get_or ps k 0 + 1) (get_or ps (k + 1) s) c.close_row.new.held.items next.0 next.1 c.close_row.ensures

pub returns : goal.returns
returns c =
    let R = (list_of c.args.rows.now) in
    let s = c.args.scope in
    let past : get_or c.args.untaken.now c.loop-k.k s ≡ s =
    get_or_past c.args.untaken.now c.loop-k.k s c.loop-k-test.false in
    taken_end R s c.loop-k.held.items (subst (λ n. AreTaken R s n c.loop-k.held.items) past c.loop-k.invariant)

pub close_row-requires-clause-behind : goal.close_row-requires-clause-behind
close_row-requires-clause-behind c =
    let first = ap (λ (r : Row). r.first) c.at.ensures in
    subst (λ f. f ≤ get_or c.args.untaken.now c.loop-k.k 0) first
    (c.start_of-start.ensures.behind c.loop-k.k c.loop-k.auto.k c.loop-k-test.true)
