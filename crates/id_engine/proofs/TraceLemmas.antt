-- Lemmas on what is traced of a machine (specs/Runs.antt).
use Rattle.std.proofs.Common.{◌≡◌, Bool, true, false, List, [], ◌∷◌, Result, Ok, Err, length, refl, sym, ◌∙◌}
use Rattle.std.specs.Prelude.{IfOk}
use Rattle.std.specs.List.{flat_map}
use Rattle.std.specs.List.Sorted.{IsPermutation}
use Rattle.std.proofs.lemmas.List.Sorted.{length_permutation}
use Rattle.std.proofs.lemmas.Bool.{false≢true}
use Rattle.id_core.specs.Events.{EventView}
use Rattle.id_core.specs.Firsts.{AreMergedOf}
use Rattle.id_core.specs.Machines.{World}
use Rattle.id_core.specs.Replays.{ElementView}
use Rattle.id_engine.specs.Runs.{IsTraceOf}

no_more : {A : Type 0} (xs : List A) → length xs ≡ 0 → xs ≡ []
no_more [] h = refl
no_more (x ∷ xs) h = absurd cc

-- the merged events of all elements, where the trace is asked for
pub IsTraceOf-asked : {E : Type 0} (t : Bool) (w : World) (r : Result (List EventView) E) → t ≡ true
    → IfOk r (AreMergedOf w.elements) → IfOk r (IsTraceOf t w)
IsTraceOf-asked t w (Err e) holds merged = tt
IsTraceOf-asked t w (Ok m) holds merged =
    record { asked = λ h. merged; unasked = λ off. absurd (false≢true (sym off ∙ holds)) }

-- and the events of no element, where it is not
pub IsTraceOf-unasked : {E : Type 0} (t : Bool) (w : World) (r : Result (List EventView) E) → t ≡ false
    → IfOk r (λ m. IsPermutation (flat_map (λ (e : ElementView). e.state.events) []) m) → IfOk r (IsTraceOf t w)
IsTraceOf-unasked t w (Err e) off all = tt
IsTraceOf-unasked t w (Ok m) off all =
    record {
      asked = λ holds. absurd (false≢true (sym off ∙ holds));
      unasked =
          λ h. no_more m (length_permutation [] m all);
    }
