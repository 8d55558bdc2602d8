use Rattle.std.proofs.Common.{◌≡◌, ◌<◌, ◌≤◌, inl, ℕ, List, Some, None, get_or, length, refl, sym, ◌∙◌, ap, subst, arith}
use Rattle.std.specs.Prelude.{Option}
use Rattle.id_table.specs.declared.row.Row.{Row}
use Rattle.id_table.specs.Rows.{at}
use Rattle.id_check.specs.Names.{IsBehind, is_waiting, last_of, limit, not_before, reach, use_before}
use Rattle.id_check.proofs.WaitingLemmas.{ArePassed, IsGiven, IsNextUse, given_all, given_set, next_last, next_use}
use Rattle.id_check.proofs.WaitingLemmas.{not_before-some, passed_on, passed_out, reach-less, reach_out, waiting_out}
use Rattle.id_check.specs.Passing.{keys_of, rows}
use Rattle.id_check.proofs.PassingLemmas.{behind_below, keeps_through, key_on, none, on, outside_back, waiting_back}
use Rattle.id_check.proofs.scope.Scopes.resolve.Goals as goal
use Rattle.id_check.proofs.scope.Scopes.resolve.Goals.{In-Some}

-- the use that is looked for, by the first row of the scope that was read
read : (x : Row) (n o : Option ℕ) (R : List Row) (s : ℕ) (u : Option ℕ) → x ≡ at R s → o ≡ u → n ≡ not_before x.first o
    → n ≡ not_before (at R s).first u
read x n o R s u d e h = h ∙ (ap (λ (r : Row). not_before r.first o) d ∙ ap (not_before (at R s).first) e)

-- what comes next
found : (c : In-Some)
    → (use_before c.loop-u.self.last.items c.loop-u.self.earlier.items c.args.key c.loop-u.behind ≡ Some c.in-Some.u) ×
    ((at (rows c.args.self.now) c.args.self.now.passed).first ≤ c.in-Some.u)
found c =
    let f = (at (rows c.args.self.now) c.args.self.now.passed).first in
    not_before-some f c.in-Some.u
    (use_before c.loop-u.self.last.items c.loop-u.self.earlier.items c.args.key c.loop-u.behind)
    (sym (read c.at-first.result c.not_before.result c.use_before.result (rows c.args.self.now) c.args.self.now.passed
    (use_before c.loop-u.self.last.items c.loop-u.self.earlier.items c.args.key c.loop-u.behind) c.at-first.ensures
    c.use_before.ensures c.not_before.ensures)
    ∙ c.in-Some.is)

next : (c : In-Some)
    → IsNextUse (rows c.args.self.now) c.args.self.now.passed c.args.key c.in-Some.u c.loop-u.behind
    c.loop-u.self.binders.items
next c =
    let h = c.loop-u.invariant in
    next_use (rows c.args.self.now) c.args.self.now.passed (keys_of c.args.self.now) c.args.key c.in-Some.u
    c.loop-u.behind c.loop-u.self.binders.items
    c.loop-u.self.last.items c.loop-u.self.earlier.items
    c.requires.key h.waiting h.behind (found c).0

pub is_outside-requires : goal.is_outside-requires
is_outside-requires c =
    let low = (next c).low in
    let same = c.loop-u.invariant.keeps.stays.passed in
    omega arith

in_binders : (c : In-Some) → c.in-Some.u < length c.loop-u.self.binders.items
in_binders c =
    let low = (next c).low in
    let row = c.args.self.now.inside in
    let long = c.loop-u.invariant.waiting.long_binders in
    omega arith

-- the use that gets its binder is taken out
pub loop-u-preserved-then-is_outside : goal.loop-u-preserved-then-is_outside
loop-u-preserved-then-is_outside c =
    let d = (goal.at.loop-u-preserved-then-is_outside c).In-Some in
    let R = (rows c.args.self.now) in
    let s = c.args.self.now.passed in
    let x = c.args.key in
    let u = c.in-Some.u in
    let b = c.args.binder in
    let o = c.loop-u.behind in
    let os = c.loop-u.self.binders.items in
    let ls = c.loop-u.self.last.items in
    let es = c.loop-u.self.earlier.items in
    let n = c.give.new.self in
    let m = keys_of c.args.self.now in
    let h = c.loop-u.invariant in
    let w = next d in
    let row = c.args.self.now.inside in
    let out =
    sym (outside_back c.args.self.now c.loop-u.self u h.keeps.stays)
    ∙ (sym c.is_outside.ensures ∙ c.if-is_outside.true) in
    let keeps = keeps_through c.args.self.now c.loop-u.self n h.keeps c.give.ensures.keeps in
    let same = sym c.give.ensures.binders in
    record {
      keeps = keeps;
      waiting = waiting_back c.args.self.now n n.binders.items n.last.items n.earlier.items keeps.stays n.waiting;
      behind = subst (λ qs. IsBehind R qs s x o) same
          (waiting_out R s m x u b o os ls es (omega arith) c.requires.key h.behind (found d).0 h.waiting w);
      passed = subst (ArePassed R s x o) same (passed_out R s x u b o os w h.passed);
      binders = λ i k. subst (λ qs. IsGiven R s x b c.args.self.now.binders.items qs i) same
          (given_set R s x b u i c.args.self.now.binders.items os (found d).1 w.low (in_binders d) w.waits out
          (h.binders i k));
    }

pub loop-u-smaller-then-is_outside : goal.loop-u-smaller-then-is_outside
loop-u-smaller-then-is_outside c =
    let d = (goal.at.loop-u-smaller-then-is_outside c).In-Some in
    let R = (rows c.args.self.now) in
    let s = c.args.self.now.passed in
    let x = c.args.key in
    let u = c.in-Some.u in
    let b = c.args.binder in
    let o = c.loop-u.behind in
    let os = c.loop-u.self.binders.items in
    let ls = c.loop-u.self.last.items in
    let es = c.loop-u.self.earlier.items in
    let n = c.give.new.self in
    let m = keys_of c.args.self.now in
    let h = c.loop-u.invariant in
    let row = c.args.self.now.inside in
    let same = sym c.give.ensures.binders in
    let keeps = keeps_through c.args.self.now c.loop-u.self n h.keeps c.give.ensures.keeps in
    let waiting = waiting_back c.args.self.now n n.binders.items n.last.items n.earlier.items keeps.stays n.waiting in
    let behind =
    subst (λ qs. IsBehind R qs s x o) same
    (waiting_out R s m x u b o os ls es (omega arith) c.requires.key h.behind (found d).0 h.waiting
    (next d)) in
    let last = next_last R s m x o n.binders.items n.last.items n.earlier.items c.requires.key waiting behind in
    let less : reach (last_of (is_waiting R n.binders.items x) (limit s o)) < reach (Some u) =
    subst (λ qs. reach (last_of (is_waiting R qs x) (limit s o)) < reach (Some u)) same
    (reach_out R s x u b o os (in_binders d) (next d)) in
    subst (λ p. reach (use_before n.last.items n.earlier.items x o) < reach p) (sym (found d).0)
    (subst (λ p. reach p < reach (Some u)) (sym last) less)

-- the use that goes on waiting is behind those to come
pub loop-u-smaller : goal.loop-u-smaller
loop-u-smaller c =
    let d = (goal.at.loop-u-smaller c).In-Some in
    let R = (rows c.args.self.now) in
    let s = c.args.self.now.passed in
    let x = c.args.key in
    let u = c.in-Some.u in
    let os = c.loop-u.self.binders.items in
    let es = c.loop-u.self.earlier.items in
    let h = c.loop-u.invariant in
    subst (λ p. reach (get_or es u None) < reach p) (sym (found d).0)
    (subst (λ p. reach p < reach (Some u)) (sym (h.waiting.earlier x u c.requires.key (next d).low (next d).waits))
    (reach-less (is_waiting R os x) u))

pub loop-u-preserved : goal.loop-u-preserved
loop-u-preserved c =
    let d = (goal.at.loop-u-preserved c).In-Some in
    let h = c.loop-u.invariant in
    let w = next d in
    let no = sym (outside_back c.args.self.now c.loop-u.self c.in-Some.u h.keeps.stays)
    ∙ (sym c.is_outside.ensures ∙ c.if-is_outside.false) in
    record {
      keeps = h.keeps;
      waiting = h.waiting;
      behind = (w.low, w.waits);
      passed = passed_on (rows c.args.self.now) c.args.self.now.passed c.args.key c.in-Some.u c.loop-u.behind
          c.loop-u.self.binders.items w no h.passed;
      binders = h.binders;
    }

pub loop-u-init : goal.loop-u-init
loop-u-init c =
    let p = c.args.self.now in
    record {
      keeps = record { stays = record { rows = refl; passed = refl }; bound = refl; first = refl };
      waiting = p.waiting;
      behind = tt;
      passed = λ i a b. absurd (omega arith);
      binders = λ i b. inl refl;
    }

pub use_before-requires-clause-key : goal.use_before-requires-clause-key
use_before-requires-clause-key c =
    key_on c.args.self.now c.loop-u.self c.args.key c.loop-u.invariant.keeps.stays c.requires.key

pub use_before-requires-clause-behind : goal.use_before-requires-clause-behind
use_before-requires-clause-behind c = λ l e.
    let p = c.args.self.now in
    let h = c.loop-u.invariant in
    subst (λ n. l < n) (sym h.keeps.stays.passed)
    (behind_below (rows p) c.loop-u.self.binders.items p.passed c.args.key l c.loop-u.behind h.behind e)

pub give-requires-clause-inside : goal.give-requires-clause-inside
give-requires-clause-inside c =
    subst (λ n. c.args.binder < n) (sym c.loop-u.invariant.keeps.stays.passed) c.requires.inside

pub give-requires-clause-key : goal.give-requires-clause-key
give-requires-clause-key c =
    key_on c.args.self.now c.loop-u.self c.args.key c.loop-u.invariant.keeps.stays c.requires.key

pub give-requires-clause-behind : goal.give-requires-clause-behind
give-requires-clause-behind c =
    on (λ R s. IsBehind R c.loop-u.self.binders.items s c.args.key c.loop-u.behind) c.args.self.now c.loop-u.self
    c.loop-u.invariant.keeps.stays
    c.loop-u.invariant.behind

pub give-requires-clause-next : goal.give-requires-clause-next
give-requires-clause-next c = (found (goal.at.give-requires-clause-next c).In-Some).0

pub returns-clause-keeps : goal.returns-clause-keeps
returns-clause-keeps c = c.loop-u.invariant.keeps

pub returns-clause-binders : goal.returns-clause-binders
returns-clause-binders c = λ i k.
    let h = c.loop-u.invariant in
    let p = c.args.self.now in
    let R = rows p in
    let x = c.args.key in
    let end : not_before (at R p.passed).first
    (use_before c.loop-u.self.last.items c.loop-u.self.earlier.items x c.loop-u.behind) ≡ None =
    sym (read c.at-first.result c.not_before.result c.use_before.result R p.passed
    (use_before c.loop-u.self.last.items c.loop-u.self.earlier.items x c.loop-u.behind) c.at-first.ensures
    c.use_before.ensures c.not_before.ensures)
    ∙ none c.not_before.result c.in_default.not-Some in
    given_all R p.passed (keys_of p) x c.args.binder i c.loop-u.behind p.binders.items c.loop-u.self.binders.items
    c.loop-u.self.last.items
    c.loop-u.self.earlier.items c.requires.key h.waiting h.behind h.passed end (h.binders i k)
