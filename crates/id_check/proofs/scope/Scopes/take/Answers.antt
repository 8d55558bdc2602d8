use Rattle.std.proofs.Common.{◌≡◌, ◌+◌, ◌<◌, ◌≤◌, ℕ, true, false, get_or, length, sym, ◌∙◌, subst}
use Rattle.id_table.specs.Rows.{at}
use Rattle.id_check.specs.Causes.{seconds}
use Rattle.id_check.specs.Firsts.{Notes}
use Rattle.id_check.specs.Names.{AreHeld, IsOpen}
use Rattle.id_check.specs.Scopes.{is_scope}
use Rattle.id_check.specs.Passing.{Passes, rows}
use Rattle.id_check.proofs.OpenLemmas.{open_below, open_kept, open_later}
use Rattle.id_check.proofs.PassingLemmas.{by_node, moved, on, passes_through}
use Rattle.id_check.proofs.FirstsLemmas.{Notes-none}
use Rattle.id_check.proofs.ScopesLemmas.{keeps_no_scope, seconds-none}
use Rattle.id_check.specs.declared.scope.Scopes.{Scopes}
use Rattle.id_table.specs.Lent.{list_of}
use Rattle.id_check.proofs.scope.Scopes.take.Goals as goal

pub enter-requires-clause-begun : goal.enter-requires-clause-begun
enter-requires-clause-begun c = c.requires.begun

pub enter-requires-clause-untaken : goal.enter-requires-clause-untaken
enter-requires-clause-untaken c =
    let p = c.args.self.now in
    subst (IsOpen (rows p) p.passed p.passed) (sym c.as_slice.ensures.value) c.requires.untaken

pub close-requires-clause-left : goal.close-requires-clause-left
close-requires-clause-left c =
    on (λ R s. s < length R) c.args.self.now c.enter.new.self c.enter.ensures.stays c.requires.left

pub close-requires-clause-scope : goal.close-requires-clause-scope
close-requires-clause-scope c =
    let p = c.args.self.now in
    on (λ R s. is_scope (at R s).node ≡ true) p c.enter.new.self c.enter.ensures.stays
    (by_node is_scope (rows p) p.passed c.at.result c.is_scope.result c.at.ensures c.is_scope.ensures
    ∙ c.if-is_scope.true)

pub close-requires-clause-taken : goal.close-requires-clause-taken
close-requires-clause-taken c = c.enter.ensures.taken

pub close-requires-clause-untaken : goal.close-requires-clause-untaken
close-requires-clause-untaken c =
    let p = c.args.self.now in
    on (λ R s. IsOpen R s s c.as_slice-then-is_scope.result.now) p c.enter.new.self c.enter.ensures.stays
    (subst (IsOpen (rows p) p.passed p.passed) (sym c.as_slice-then-is_scope.ensures.value) c.requires.untaken)

pub returns-then-is_scope-clause-passes : goal.returns-then-is_scope-clause-passes
returns-then-is_scope-clause-passes c =
    passes_through c.args.self.now c.enter.new.self c.close.new.self c.enter.ensures.stays c.close.ensures.passes

pub returns-then-is_scope-clause-begun : goal.returns-then-is_scope-clause-begun
returns-then-is_scope-clause-begun c = c.close.ensures.begun

pub returns-then-is_scope-clause-first : goal.returns-then-is_scope-clause-first
returns-then-is_scope-clause-first c =
    let p = c.args.self.now in
    subst (Notes p.first (seconds (rows p) p.passed p.passed)) (sym c.close.ensures.first) c.enter.ensures.first

-- what is closed is what is so when the row is passed
closed : (p n : Scopes) → Passes p n → AreHeld (rows p) (p.passed + 1) n.held.items
closed p n h = moved (λ r s. AreHeld (list_of r) s n.held.items) (sym h.rows) (sym h.passed) n.closed

pub kept-kept-requires : goal.kept-kept-requires
kept-kept-requires c =
    let p = c.args.self.now in
    let n = c.close.new.self in
    let passes = passes_through p c.enter.new.self n c.enter.ensures.stays c.close.ensures.passes in
    let ps = c.args.untaken.now.items in
    let hs = n.held.items in
    subst (λ qs. (j : ℕ) → j < length qs
    → get_or qs j 0 < length c.as_slice-then-is_scope-3.result.now) (sym c.as_slice-then-is_scope-2.ensures.value)
    (subst (λ gs. (j : ℕ) → j < length ps → get_or ps j 0 < length gs) (sym c.as_slice-then-is_scope-3.ensures.value)
    (λ j less. open_below (rows p) p.passed j hs ps c.requires.left (closed p n passes).long c.requires.untaken less))

-- the rows that the scope took are left out
pub returns-then-is_scope-clause-untaken : goal.returns-then-is_scope-clause-untaken
returns-then-is_scope-clause-untaken c =
    let p = c.args.self.now in
    let n = c.close.new.self in
    let passes = passes_through p c.enter.new.self n c.enter.ensures.stays c.close.ensures.passes in
    let R = rows p in
    let s = p.passed in
    let ps = c.args.untaken.now.items in
    let hs = n.held.items in
    let k = c.kept-kept.result in
    let rows = c.as_slice-then-is_scope-2.ensures.value in
    let held = c.as_slice-then-is_scope-3.ensures.value in
    subst (IsOpen R s (s + 1)) (sym c.truncate.ensures.items)
    (open_kept R s k hs ps c.requires.left (closed p n passes)
    (subst (λ qs. k ≤ length qs) rows c.kept-kept.ensures.long)
    (subst (λ qs. (j : ℕ) → k ≤ j → j < length qs → get_or hs (get_or qs j 0) false ≡ true) rows
    (subst (λ gs. (j : ℕ) → k ≤ j → j < length c.as_slice-then-is_scope-2.result.now →
    get_or gs (get_or c.as_slice-then-is_scope-2.result.now j 0) false ≡ true) held c.kept-kept.ensures.behind))
    c.requires.untaken)

pub wait-requires-clause-scope : goal.wait-requires-clause-scope
wait-requires-clause-scope c =
    let p = c.args.self.now in
    by_node is_scope (rows p) p.passed c.at.result c.is_scope.result c.at.ensures c.is_scope.ensures
    ∙ c.if-is_scope.false

pub wait-requires-clause-begun : goal.wait-requires-clause-begun
wait-requires-clause-begun c = c.requires.begun

pub returns-else-is_scope-clause-passes : goal.returns-else-is_scope-clause-passes
returns-else-is_scope-clause-passes c = c.wait.ensures.passes

pub returns-else-is_scope-clause-begun : goal.returns-else-is_scope-clause-begun
returns-else-is_scope-clause-begun c = c.wait.ensures.begun

pub returns-else-is_scope-clause-untaken : goal.returns-else-is_scope-clause-untaken
returns-else-is_scope-clause-untaken c =
    let p = c.args.self.now in
    open_later (rows p) p.passed p.passed c.args.untaken.now.items c.requires.untaken

pub returns-else-is_scope-clause-first : goal.returns-else-is_scope-clause-first
returns-else-is_scope-clause-first c =
    let p = c.args.self.now in
    let R = rows p in
    let s = p.passed in
    let no = by_node is_scope R s c.at.result c.is_scope.result c.at.ensures c.is_scope.ensures ∙ c.if-is_scope.false in
    subst (Notes p.first (seconds R s s)) (sym c.wait.ensures.first)
    (subst (λ cs. Notes p.first cs p.first) (sym (seconds-none R s s (λ b less. keeps_no_scope R s b no)))
    (Notes-none p.first))
