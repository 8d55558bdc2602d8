use Rattle.std.proofs.Common.{◌≡◌, ◌+◌, ◌<◌, ◌≤◌, ℕ, get_or, refl, sym, ◌∙◌, ap, subst, add-one, arith}
use Rattle.std.proofs.lemmas.List.{get_or_default, get_or_past}
use Rattle.id_table.specs.declared.row.Row.{Row}
use Rattle.id_table.specs.Rows.{at}
use Rattle.id_check.specs.Scopes.{bound_name}
use Rattle.id_check.specs.Causes.{second, seconds}
use Rattle.id_check.specs.Firsts.{Notes}
use Rattle.id_check.specs.Names.{IsOpen}
use Rattle.id_check.specs.Passing.{HasTaken, rows}
use Rattle.id_check.proofs.FirstsLemmas.{Notes-append, Notes-none}
use Rattle.id_check.proofs.PassingLemmas.{back, on, stays_through}
use Rattle.id_check.proofs.TakingLemmas.{IsShut, seconds_gap, shut_next, shut_start, taking_gap}
use Rattle.id_check.proofs.scope.Scopes.enter.Goals as goal

pub loop-k-init : goal.loop-k-init
loop-k-init c =
    let p = c.args.self.now in
    let R = rows p in
    let s = p.passed in
    let ps = c.args.untaken.now in
    let k = c.start_of-start.result in
    let first = ap (λ (r : Row). r.first) c.at.ensures in
    let shut : (b : ℕ) → 0 ≤ b → b < get_or ps k s → IsShut R s b = λ b d e.
    shut_start R s k b ps c.requires.untaken
    (λ j l. subst (λ f. get_or ps j 0 < f) first (c.start_of-start.ensures.before j l)) e in
    record {
      stays = record { rows = refl; passed = refl };
      taken = taking_gap R s 0 (get_or ps k s) p.bound.items p.binders.items (omega arith) shut c.requires.begun;
      first = subst (λ cs. Notes p.first cs p.first) (sym (seconds_gap R s 0 (get_or ps k s) (omega arith) shut))
          (Notes-none p.first);
    }

pub enter_row-requires-clause-inside : goal.enter_row-requires-clause-inside
enter_row-requires-clause-inside c =
    let low = c.requires.untaken.below c.loop-k.k c.loop-k-test.true in
    let same = c.loop-k.invariant.stays.passed in
    omega arith

pub enter_row-requires-clause-behind : goal.enter_row-requires-clause-behind
enter_row-requires-clause-behind c =
    let b = get_or c.args.untaken.now c.loop-k.k 0 in
    let first = ap (λ (r : Row). r.first) c.at.ensures in
    let start = c.start_of-start.ensures.behind c.loop-k.k c.loop-k.auto.k c.loop-k-test.true in
    on (λ R s. (at R s).first ≤ b) c.args.self.now c.loop-k.self c.loop-k.invariant.stays
    (subst (λ f. f ≤ b) first start)

pub enter_row-requires-clause-taken : goal.enter_row-requires-clause-taken
enter_row-requires-clause-taken c =
    subst (HasTaken c.loop-k.self)
    (get_or_default c.args.untaken.now c.loop-k.k c.loop-k.self.passed 0 c.loop-k-test.true) c.loop-k.invariant.taken

pub loop-k-preserved : goal.loop-k-preserved
loop-k-preserved c =
    let p = c.args.self.now in
    let q = c.loop-k.self in
    let n = c.enter_row.new.self in
    let R = rows p in
    let s = p.passed in
    let ps = c.args.untaken.now in
    let k = c.loop-k.k in
    let o = c.requires.untaken in
    let less = c.loop-k-test.true in
    let b = get_or ps k 0 in
    let here : get_or ps k s ≡ b = get_or_default ps k s 0 less in
    let h = c.loop-k.invariant in
    let stays = stays_through p q n h.stays c.enter_row.ensures.stays in
    let next = shut_next R s k ps o less in
    let after = shut_next (rows n) n.passed k ps (on (λ R s. IsOpen R s s ps) p n stays o) less in
    let noted : Notes q.first (second R s b (bound_name (at R b).node)) n.first =
    back (λ R s. Notes q.first (second R s b (bound_name (at R b).node)) n.first) p q h.stays
    c.enter_row.ensures.first in
    record {
      stays = stays;
      taken = taking_gap (rows n) n.passed (b + 1) (get_or ps (k + 1) n.passed) n.bound.items n.binders.items after.0
          after.1 c.enter_row.ensures.taken;
      first = subst (λ cs. Notes p.first cs n.first)
          (sym (seconds_gap R s (b + 1) (get_or ps (k + 1) s) next.0 next.1 ∙ ap (seconds R s) (add-one b)))
          (Notes-append p.first q.first n.first (seconds R s b) (second R s b (bound_name (at R b).node))
          (subst (λ n. Notes p.first (seconds R s n) q.first) here h.first) noted);
    }

pub returns-clause-stays : goal.returns-clause-stays
returns-clause-stays c = c.loop-k.invariant.stays

pub returns-clause-taken : goal.returns-clause-taken
returns-clause-taken c =
    let q = c.loop-k.self in
    subst (HasTaken q) (get_or_past c.args.untaken.now c.loop-k.k q.passed c.loop-k-test.false) c.loop-k.invariant.taken

pub returns-clause-first : goal.returns-clause-first
returns-clause-first c =
    let p = c.args.self.now in
    let past : get_or c.args.untaken.now c.loop-k.k p.passed ≡ p.passed =
    get_or_past c.args.untaken.now c.loop-k.k p.passed c.loop-k-test.false in
    subst (λ n. Notes p.first (seconds (rows p) p.passed n) c.loop-k.self.first) past c.loop-k.invariant.first
