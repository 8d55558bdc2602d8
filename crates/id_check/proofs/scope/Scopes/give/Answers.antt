use Rattle.std.proofs.Common.{◌≡◌, ◌<◌, ℕ, refl, Option, Some, None, get_or, length, set, sym, ◌∙◌, subst, arith}
use Rattle.std.proofs.lemmas.List.{get_or_default}
use Rattle.id_check.specs.Names.{AreWaiting, IsBehind, use_before}
use Rattle.id_check.specs.declared.scope.Scopes.{Scopes}
use Rattle.id_check.specs.Passing.{keys_of, rows}
use Rattle.id_check.proofs.WaitingLemmas.{IsNextUse, next_use, waiting_cut, waiting_set}
use Rattle.id_check.proofs.scope.Scopes.give.Goals as goal

next : (v : Scopes) (x u : ℕ) (o : Option ℕ) → x < keys_of v → IsBehind (rows v) v.binders.items v.passed x o
    → use_before v.last.items v.earlier.items x o ≡ Some u → IsNextUse (rows v) v.passed x u o v.binders.items
next v x u o less b e =
    next_use (rows v) v.passed (keys_of v) x u o v.binders.items v.last.items v.earlier.items less v.waiting b e

in_earlier : (v : Scopes) (x u : ℕ) (o : Option ℕ) → x < keys_of v → IsBehind (rows v) v.binders.items v.passed x o
    → use_before v.last.items v.earlier.items x o ≡ Some u → u < length v.earlier.items
in_earlier v x u o less b e =
    let low = (next v x u o less b e).low in
    let inside = v.inside in
    let long = v.waiting.long_earlier in
    omega arith

in_binders : (v : Scopes) (x u : ℕ) (o : Option ℕ) → x < keys_of v → IsBehind (rows v) v.binders.items v.passed x o
    → use_before v.last.items v.earlier.items x o ≡ Some u → u < length v.binders.items
in_binders v x u o less b e =
    let low = (next v x u o less b e).low in
    let inside = v.inside in
    let long = v.waiting.long_binders in
    omega arith

pub index-earlier-requires : goal.index-earlier-requires
index-earlier-requires c =
    let v = c.args.self.now in
    let less = in_earlier v c.args.key c.args.user c.args.behind c.requires.key c.requires.behind c.requires.next in
    omega (arith, less, v.earlier.ok.0)

pub index_mut-requires : goal.index_mut-requires
index_mut-requires c =
    let v = c.args.self.now in
    let less = in_binders v c.args.key c.args.user c.args.behind c.requires.key c.requires.behind c.requires.next in
    omega (arith, less, v.binders.ok.0)

-- the one before it is read
read : (v : Scopes) (u : ℕ) (o : Option ℕ) → u < length v.earlier.items → o ≡ get_or v.earlier.items u o
    → o ≡ get_or v.earlier.items u None
read v u o less e = e ∙ get_or_default v.earlier.items u o None less

pub invariant_of-self : goal.invariant_of-self
invariant_of-self c =
    let v = c.args.self.now in
    let R = (rows c.args.self.now) in
    let s = c.args.self.now.passed in
    let x = c.args.key in
    let u = c.args.user in
    let l = c.in-Some.later in
    let m = keys_of v in
    let row = c.args.self.now.inside in
    let behind = subst (IsBehind R v.binders.items s x) c.in-Some.is c.requires.behind in
    let here = subst (λ o. use_before v.last.items v.earlier.items x o ≡ Some u) c.in-Some.is c.requires.next in
    record {
      inside = v.inside;
      closed = v.closed;
      named = v.named;
      waiting =
          subst (λ o. AreWaiting R s m (set v.binders.items u (Some c.args.binder)) v.last.items
          (set v.earlier.items l o))
          (sym (read v u c.index-earlier.result.now
          (in_earlier v x u c.args.behind c.requires.key c.requires.behind c.requires.next) c.index-earlier.ensures))
          (waiting_cut R s m x u c.args.binder l v.binders.items v.last.items v.earlier.items (omega arith)
          c.requires.key behind.0 behind.1 here c.args.self.now.waiting);
    }

pub invariant_of-self-in-None : goal.invariant_of-self-in-None
invariant_of-self-in-None c =
    let v = c.args.self.now in
    let R = (rows c.args.self.now) in
    let s = c.args.self.now.passed in
    let x = c.args.key in
    let u = c.args.user in
    let m = keys_of v in
    let row = c.args.self.now.inside in
    let here = subst (λ o. use_before v.last.items v.earlier.items x o ≡ Some u) c.in-None.is c.requires.next in
    record {
      inside = v.inside;
      closed = v.closed;
      named = v.named;
      waiting =
          subst (λ o. AreWaiting R s m (set v.binders.items u (Some c.args.binder)) (set v.last.items x o)
          v.earlier.items)
          (sym (read v u c.index-earlier.result.now
          (in_earlier v x u c.args.behind c.requires.key c.requires.behind c.requires.next) c.index-earlier.ensures))
          (waiting_set R s m x u c.args.binder v.binders.items v.last.items v.earlier.items (omega arith) c.requires.key
          here c.args.self.now.waiting);
    }

pub returns-in-Some : goal.returns-in-Some
returns-in-Some c =
    record {
      keeps = record { stays = record { rows = refl; passed = refl }; bound = refl; first = refl };
      binders =
          refl;
    }

pub returns-in-None : goal.returns-in-None
returns-in-None c =
    record {
      keeps = record { stays = record { rows = refl; passed = refl }; bound = refl; first = refl };
      binders =
          refl;
    }
