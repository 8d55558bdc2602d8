-- a cell that expects no reply holds a value, and it alone
use Rattle.std.proofs.Common.{◌≡◌, ◌∙◌, ℕ, Bool, Option, Some, None, true, false, arith, not, refl, sym}
use Rattle.std.specs.Prelude.{is_some}
use Rattle.id_bank.proofs.LeftLemmas.{filled-none, filled-next, filled-same}
use Rattle.id_bank.proofs.page.count_filled_in.Goals.{then-is_none, else-is_none}
use Rattle.id_bank.proofs.page.count_filled_in.Goals as goal

none_then : (o : Option ℕ) (b : Bool) → is_some o ≡ not b → b ≡ true → o ≡ None
none_then None b e h = refl
none_then (Some n) b e h = cc

some_else : (o : Option ℕ) (b : Bool) → is_some o ≡ not b → b ≡ false → o ≡ None → ⊥
some_else None b e h is = cc
some_else (Some n) b e h is = cc

pub loop-offset-init : goal.loop-offset-init
loop-offset-init c = record { bound = omega arith; counted = λ p. filled-none p c.args.slots.now }

pub loop-offset-preserved : goal.loop-offset-preserved
loop-offset-preserved c =
    let known = c.loop-offset.invariant in
    let n = c.loop-offset.offset in
    elim c.if-is_none.branch [
      | then-is_none w ↦ record {
        bound = omega (arith, known.bound, w.count-is);
        counted = λ p. w.count-is ∙ filled-next n c.loop-offset.count p c.args.slots.now
            (sym c.expected_in.ensures ∙ none_then _ _ c.is_none.ensures w.if-is_none.true) (known.counted p);
      }
      | else-is_none w ↦ record {
        bound = omega (arith, known.bound, w.count-is);
        counted = λ p. w.count-is ∙ filled-same n c.loop-offset.count p c.args.slots.now
            (λ is. some_else _ _ c.is_none.ensures w.if-is_none.false (c.expected_in.ensures ∙ is)) (known.counted p);
      }
    ]
