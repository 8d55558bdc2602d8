use Rattle.std.proofs.Common.{◌≡◌, ◌+◌, ◌<◌, ℕ, Option, None, get_or, set, length, refl, sym, ◌∙◌, subst, arith}
use Rattle.std.specs.Prelude.{Some}
use Rattle.std.proofs.lemmas.List.{get_or_default}
use Rattle.id_table.specs.declared.row.Row.{Row}
use Rattle.id_table.specs.Rows.{at}
use Rattle.id_check.specs.Names.{AreWaiting, key_of}
use Rattle.id_check.specs.declared.scope.Scopes.{Scopes}
use Rattle.id_check.specs.Passing.{keys_of, rows}
use Rattle.id_check.proofs.BindLemmas.{key_below}
use Rattle.id_check.proofs.OpenLemmas.{held_no_scope}
use Rattle.id_check.proofs.ScopesLemmas.{binder_at-none}
use Rattle.id_check.proofs.PassingLemmas.{are_names, by_node, none}
use Rattle.id_check.proofs.TakingLemmas.{taking_bound, taking_none}
use Rattle.id_check.proofs.WaitingLemmas.{waiting_more, waiting_same}
use Rattle.id_check.proofs.scope.Scopes.wait.Goals as goal

pub returns-in-Some-clause-passes : goal.returns-in-Some-clause-passes
returns-in-Some-clause-passes c = record { rows = refl; passed = refl }

pub returns-in_default-clause-passes : goal.returns-in_default-clause-passes
returns-in_default-clause-passes c = record { rows = refl; passed = refl }

pub returns-in-Some-clause-begun : goal.returns-in-Some-clause-begun
returns-in-Some-clause-begun c =
    let p = c.args.self.now in
    taking_none (rows p) p.passed p.bound.items p.binders.items c.requires.scope c.requires.begun

pub returns-in_default-clause-begun : goal.returns-in_default-clause-begun
returns-in_default-clause-begun c =
    let p = c.args.self.now in
    taking_none (rows p) p.passed p.bound.items p.binders.items c.requires.scope c.requires.begun

-- the key by which the row waits is one of those that are counted
key_low : (p : Scopes) (x : ℕ) (r : Row) (o : Option ℕ) → r ≡ at (rows p) p.passed → o ≡ key_of r.node → o ≡ Some x
    → p.passed < length (rows p) → x < keys_of p
key_low p x r o d e f left =
    key_below (at (rows p) p.passed).node x (length p.rows.now.table.now.names.items)
    (by_node key_of (rows p) p.passed r o d e ∙ f)
    (λ y g. (are_names p.rows.now).used p.passed y left g)

pub key_of-requires : goal.key_of-requires
key_of-requires c = λ k e.
    let p = c.args.self.now in
    let less = key_low p k c.at.result (key_of c.at.result.node) c.at.ensures refl e c.requires.left in
    omega (arith, less, p.waiting.long_last, p.last.ok.0)

pub index-requires : goal.index-requires
index-requires c =
    let p = c.args.self.now in
    let less =
    key_low p c.in-Some.key c.at.result c.key_of.result c.at.ensures c.key_of.ensures c.in-Some.is c.requires.left in
    omega (arith, less, p.waiting.long_last, p.last.ok.0)

pub index_mut-requires-in-Some : goal.index_mut-requires-in-Some
index_mut-requires-in-Some c =
    let p = c.args.self.now in
    let less =
    key_low p c.in-Some.key c.at.result c.key_of.result c.at.ensures c.key_of.ensures c.in-Some.is c.requires.left in
    omega (arith, less, p.waiting.long_last, p.last.ok.0)

pub invariant_of-self : goal.invariant_of-self
invariant_of-self c =
    let p = c.args.self.now in
    let R = rows p in
    let s = p.passed in
    let ls = p.last.items in
    let es = p.earlier.items in
    let x = c.in-Some.key in
    let is = by_node key_of R s c.at.result c.key_of.result c.at.ensures c.key_of.ensures ∙ c.in-Some.is in
    let less = key_low p x c.at.result c.key_of.result c.at.ensures c.key_of.ensures c.in-Some.is c.requires.left in
    let read : get_or ls x None ≡ c.index.result.now = sym (c.index.ensures
    ∙ get_or_default ls x c.index.result.now None (subst (λ n. x < n) (sym p.waiting.long_last) less)) in
    record {
      inside = let left = c.requires.left in omega arith;
      closed = held_no_scope R s p.held.items c.requires.scope p.closed;
      named = p.named;
      waiting = subst (λ o. AreWaiting R (s + 1) (keys_of p) p.binders.items (set ls x (Some s)) (set es s o)) read
          (waiting_more R s (keys_of p) x p.binders.items ls es c.requires.left less is
          ((taking_bound R s p.bound.items p.binders.items c.requires.begun).each s c.requires.left
          ∙ binder_at-none R s s (omega arith)) p.waiting);
    }

pub invariant_of-self-in_default : goal.invariant_of-self-in_default
invariant_of-self-in_default c =
    let p = c.args.self.now in
    let R = rows p in
    let s = p.passed in
    record {
      inside = let left = c.requires.left in omega arith;
      closed = held_no_scope R s p.held.items c.requires.scope p.closed;
      named = p.named;
      waiting = waiting_same R s (keys_of p) p.binders.items p.last.items p.earlier.items
          (by_node key_of R s c.at.result c.key_of.result c.at.ensures c.key_of.ensures
          ∙ none c.key_of.result c.in_default.not-Some) p.waiting;
    }
