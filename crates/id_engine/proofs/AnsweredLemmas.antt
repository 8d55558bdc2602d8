-- Why runs and rounds are refused, said in other words.
use Rattle.std.proofs.Common.{◌≡◌, ◌≢◌, ◌<◌, ◌≤◌, ◌⊎◌, ℕ, List, Result, Err, inl, inr, arith}
use Rattle.std.specs.Prelude.{◌↔◌}
use Rattle.std.proofs.lemmas.Bool.{cases_lt}
use Rattle.id_source.specs.Sources.{Source, source}
use Rattle.id_compile.specs.declared.error.EngineError.{EngineError}
use Rattle.id_compile.specs.declared.error.EngineError.TheVariants.{Compile, MissingInput, UnknownInput, RepeatedInput}
use Rattle.id_compile.specs.declared.error.EngineError.TheVariants.{BadInput, BadElements, BadSteps, BadRounds}
use Rattle.id_compile.specs.declared.error.EngineError.TheVariants.{TooManyFacts, Memory, Write}
use Rattle.id_compile.specs.Programs.{HasInputs}
use Rattle.id_compile.specs.Refusals.{AreRefusedFacts, IsRefusedRun}
use Rattle.id_compile.specs.Refusals.IsRefusedRun.{by_source as by_run_source, no_elements, too_many_elements, no_steps}
use Rattle.id_compile.specs.Refusals.IsRefusedRun.{too_many_steps}
use Rattle.id_compile.specs.Refusals.IsRefusedSource.{by_memory as no_memory}
use Rattle.id_compile.specs.Refusals.AreRefusedFacts.{by_source, bad_rounds, too_many_facts}
use Rattle.id_engine.specs.Reports.{AreAllowed, AreRefusedRounds, IsUnallowed}
use Rattle.id_compile.proofs.AnsweredLemmas.{IsLate}

-- nor are refused rounds
pub late_rounds : (text : List ℕ) (S : Source) (round : ℕ) (e : EngineError) → AreRefusedRounds S round e
    → IsLate text e
late_rounds text S round (Compile x) h = absurd h
late_rounds text S round (MissingInput x) h = absurd h
late_rounds text S round (UnknownInput j) h = absurd h
late_rounds text S round (RepeatedInput j) h = absurd h
late_rounds text S round (BadInput j) h = absurd h
late_rounds text S round BadElements h = absurd h
late_rounds text S round BadSteps h = absurd h
late_rounds text S round BadRounds h = let n : BadRounds ≢ Write = λ k. absurd cc in (tt, n)
late_rounds text S round TooManyFacts h = let n : TooManyFacts ≢ Write = λ k. absurd cc in (tt, n)
late_rounds text S round Memory h = let n : Memory ≢ Write = λ k. absurd cc in (tt, n)
late_rounds text S round Write h = absurd h

-- why so many elements and steps are not allowed is no error of a place, and none of a write
pub late_unallowed : (text : List ℕ) (count steps : ℕ) (e : EngineError) → IsUnallowed count steps e → IsLate text e
late_unallowed text count steps (Compile x) h = absurd h
late_unallowed text count steps (MissingInput x) h = absurd h
late_unallowed text count steps (UnknownInput j) h = absurd h
late_unallowed text count steps (RepeatedInput j) h = absurd h
late_unallowed text count steps (BadInput j) h = absurd h
late_unallowed text count steps BadElements h = let n : BadElements ≢ Write = λ k. absurd cc in (tt, n)
late_unallowed text count steps BadSteps h = let n : BadSteps ≢ Write = λ k. absurd cc in (tt, n)
late_unallowed text count steps BadRounds h = absurd h
late_unallowed text count steps TooManyFacts h = absurd h
late_unallowed text count steps Memory h = let n : Memory ≢ Write = λ k. absurd cc in (tt, n)
late_unallowed text count steps Write h = absurd h

-- and it is why the run of the text is refused
pub refused_unallowed : (text : List ℕ) (ws : List (List ℕ)) (count steps : ℕ) → HasInputs text ws → (e : EngineError)
    → IsUnallowed count steps e → IsRefusedRun text ws count steps e
refused_unallowed text ws count steps i (Compile x) h = absurd h
refused_unallowed text ws count steps i (MissingInput x) h = absurd h
refused_unallowed text ws count steps i (UnknownInput j) h = absurd h
refused_unallowed text ws count steps i (RepeatedInput j) h = absurd h
refused_unallowed text ws count steps i (BadInput j) h = absurd h
refused_unallowed text ws count steps i BadElements (inl h) = no_elements i h
refused_unallowed text ws count steps i BadElements (inr h) = too_many_elements i h
refused_unallowed text ws count steps i BadSteps h = by_steps h.2
  where
    by_steps : (steps ≡ 0) ⊎ (100000000 < steps) → IsRefusedRun text ws count steps BadSteps
    by_steps (inl k) = no_steps i h.0 h.1 k
    by_steps (inr k) = too_many_steps i h.0 h.1 k
refused_unallowed text ws count steps i BadRounds h = absurd h
refused_unallowed text ws count steps i TooManyFacts h = absurd h
refused_unallowed text ws count steps i Memory h = by_run_source no_memory
refused_unallowed text ws count steps i Write h = absurd h

-- why rounds are refused is why the facts of the text are
pub refused_rounds : (text : List ℕ) (ws : List (List ℕ)) (round : ℕ) (h : HasInputs text ws) (e : EngineError) →
    AreRefusedRounds (source h.program h.inputs) round e
    → AreRefusedFacts text ws round e
refused_rounds text ws round i (Compile x) h = absurd h
refused_rounds text ws round i (MissingInput x) h = absurd h
refused_rounds text ws round i (UnknownInput j) h = absurd h
refused_rounds text ws round i (RepeatedInput j) h = absurd h
refused_rounds text ws round i (BadInput j) h = absurd h
refused_rounds text ws round i BadElements h = absurd h
refused_rounds text ws round i BadSteps h = absurd h
refused_rounds text ws round i BadRounds h = bad_rounds i h
refused_rounds text ws round i TooManyFacts h = too_many_facts i h.0 h.1
refused_rounds text ws round i Memory h = by_source no_memory
refused_rounds text ws round i Write h = absurd h

same_err : {A E : Type 0} (r : Result A E) (x y : E) → r ≡ Err x → r ≡ Err y → x ≡ y
same_err r x y h k = cc

-- where memory is wanted the numbers were looked at, and are allowed
pub allowed_then : {A E : Type 0} (count steps : ℕ) (r : Result A E) (bad_elements bad_steps memory : E)
    → r ≡ Err memory → (memory ≡ bad_elements → ⊥) → (memory ≡ bad_steps → ⊥)
    → ((r ≡ Err bad_elements) ↔ ((count ≡ 0) ⊎ (64 < count)))
    → ((r ≡ Err bad_steps) ↔ ((0 < count) × (count ≤ 64) × ((steps ≡ 0) ⊎ (100000000 < steps))))
    → AreAllowed count steps
allowed_then {A} {E} count steps r bad_elements bad_steps memory is not_elements not_steps elements steps_so =
    let some_elements : 0 < count = elim (cases_lt 0 count) [
      | inl l ↦ l
      | inr none ↦ absurd (not_elements (same_err r memory bad_elements is (elements.1 (inl (omega (arith, none))))))
    ] in
    let few_elements : count ≤ 64 = elim (cases_lt 64 count) [
      | inl l ↦ absurd (not_elements (same_err r memory bad_elements is (elements.1 (inr l))))
      | inr few ↦ few
    ] in
    record {
      some_elements = some_elements;
      few_elements = few_elements;
      some = elim (cases_lt 0 steps) [
        | inl l ↦ l
        | inr none ↦ absurd
            (not_steps
            (same_err r memory bad_steps is (steps_so.1 (some_elements, few_elements, inl (omega (arith, none))))))
      ];
      few = elim (cases_lt 100000000 steps) [
        | inl l ↦ absurd (not_steps (same_err r memory bad_steps is (steps_so.1 (some_elements, few_elements, inr l))))
        | inr few ↦ few
      ];
    }
