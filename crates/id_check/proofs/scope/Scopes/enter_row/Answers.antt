use Rattle.std.proofs.Common.{◌≡◌, ◌+◌, ◌<◌, false, length, refl, sym, ◌∙◌, ap, subst, add-one, arith}
use Rattle.id_table.specs.Rows.{at}
use Rattle.id_check.specs.Scopes.{bound_name, held, takes}
use Rattle.id_check.specs.Firsts.{Notes}
use Rattle.id_table.specs.Lent.{list_of}
use Rattle.id_check.specs.Names.{AreNames, IsTaking}
use Rattle.id_check.specs.Passing.{rows}
use Rattle.id_check.proofs.FirstsLemmas.{Notes-none}
use Rattle.id_check.proofs.PassingLemmas.{are_names, by_nodes, moved}
use Rattle.id_check.proofs.ScopesLemmas.{keeps_inside, keeps_is, second-none}
use Rattle.id_check.proofs.TakingLemmas.{IsShut, again-second, shut_held, shut_kept, taking_open, taking_shut}
use Rattle.id_check.proofs.scope.Scopes.enter_row.Goals as goal
use Rattle.id_check.proofs.scope.Scopes.enter_row.Goals.{Joined-else-not-is_held}
use Rattle.id_check.proofs.scope.Scopes.enter_row.Goals.{else-not-is_held-via-then-not-is_held+else-takes}
use Rattle.id_check.proofs.scope.Scopes.enter_row.Goals.{else-not-is_held-via-else-not-is_held}

pub returns-then-takes-clause-taken : goal.returns-then-takes-clause-taken
returns-then-takes-clause-taken c =
    let p = c.args.self.now in
    let q = c.bind.new.self in
    let R = rows p in
    let s = p.passed in
    let b = c.args.binder in
    let h = p.inside in
    let inside = c.requires.inside in
    let less : b < length R = omega arith in
    let bare : held R b s ≡ false = sym c.is_held.ensures ∙ c.if-not-is_held.true in
    let is = keeps_inside R s b
    (by_nodes takes R s b c.at.result c.at-then-not-is_held.result c.takes.result c.at.ensures
    c.at-then-not-is_held.ensures c.takes.ensures ∙ c.if-takes.true) c.requires.behind inside in
    let stays = c.bind.ensures.stays in
    let long : length q.bound.items ≡ length p.bound.items =
    q.named ∙ ap (λ r. length r.table.now.names.items) stays.rows ∙ sym p.named in
    let same : length (rows q) ≡ length R = ap (λ r. length (list_of r)) stays.rows in
    moved (λ r t. IsTaking (list_of r) t (b + 1) q.bound.items q.binders.items) stays.rows stays.passed
    (taking_open R s b (length p.bound.items) p.bound.items q.bound.items p.binders.items q.binders.items less is bare
    (subst (AreNames R) (sym p.named) (are_names p.rows.now)) refl long c.requires.taken c.bind.ensures.bound
    c.bind.ensures.later
    (q.waiting.long_binders ∙ same) c.bind.ensures.binders)

-- the scope does not take the row
shut : (c : Joined-else-not-is_held) → IsShut (rows c.args.self.now) c.args.self.now.passed c.args.binder
shut c =
    let p = c.args.self.now in
    let R = rows p in
    let s = p.passed in
    let b = c.args.binder in
    let h = p.inside in
    let inside = c.requires.inside in
    let less : b < length R = omega arith in
    elim c.else-not-is_held.branch [
      | else-not-is_held-via-then-not-is_held+else-takes w ↦
          shut_kept R s b (keeps_is R s b c.requires.behind inside
          ∙ (by_nodes takes R s b w.at.result w.at-then-not-is_held.result w.takes.result w.at.ensures
          w.at-then-not-is_held.ensures w.takes.ensures ∙ w.if-takes.false))
      | else-not-is_held-via-else-not-is_held w ↦ shut_held R s b (sym c.is_held.ensures ∙ w.if-not-is_held.false)
    ]

pub returns-else-not-is_held-clause-taken : goal.returns-else-not-is_held-clause-taken
returns-else-not-is_held-clause-taken c =
    let p = c.args.self.now in
    let b = c.args.binder in
    subst (λ n. IsTaking (rows p) p.passed n p.bound.items p.binders.items) (sym (add-one b))
    (taking_shut (rows p) p.passed b p.bound.items p.binders.items (shut c).binds c.requires.taken)

pub returns-else-not-is_held-clause-first : goal.returns-else-not-is_held-clause-first
returns-else-not-is_held-clause-first c =
    let p = c.args.self.now in
    let R = rows p in
    let b = c.args.binder in
    subst (λ cs. Notes p.first cs p.first) (sym (second-none R p.passed b (bound_name (at R b).node) (shut c).binds))
    (Notes-none p.first)

pub returns-then-takes-clause-first : goal.returns-then-takes-clause-first
returns-then-takes-clause-first c =
    let p = c.args.self.now in
    let R = rows p in
    let s = p.passed in
    let b = c.args.binder in
    let h = p.inside in
    let inside = c.requires.inside in
    let less : b < length R = omega arith in
    let bare : held R b s ≡ false = sym c.is_held.ensures ∙ c.if-not-is_held.true in
    let is = keeps_inside R s b
    (by_nodes takes R s b c.at.result c.at-then-not-is_held.result c.takes.result c.at.ensures
    c.at-then-not-is_held.ensures c.takes.ensures ∙ c.if-takes.true) c.requires.behind inside in
    subst (λ cs. Notes p.first cs c.bind.new.self.first)
    (again-second R s b p.bound.items is bare
    (λ x e. subst (λ n. x < n) (sym p.named) ((are_names p.rows.now).bound b x less e)) c.requires.taken.bound)
    c.bind.ensures.first

pub returns-then-takes-clause-stays : goal.returns-then-takes-clause-stays
returns-then-takes-clause-stays c = c.bind.ensures.stays

pub returns-else-not-is_held-clause-stays : goal.returns-else-not-is_held-clause-stays
returns-else-not-is_held-clause-stays c = record { rows = refl; passed = refl }
