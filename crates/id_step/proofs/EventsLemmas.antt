-- Lemmas on specs/Events.antt: all events went well where none was a fault or `Stuck`.
use Rattle.std.proofs.Common.{◌≡◌, ℕ, Bool, false, List, [], ◌∷◌, Option, None, refl}
use Rattle.std.specs.Prelude.{◌||◌}
use Rattle.std.specs.List.{AllByRecursion}
use Rattle.std.specs.Option.{option_or}
use Rattle.std.proofs.lemmas.List.Elements.{All-from_recursion, recursion_from_All}
use Rattle.id_record.specs.declared.step.Step.{Step}
use Rattle.id_record.specs.declared.step.Step.TheVariants.{Fault, Stuck, Went}
use Rattle.id_record.specs.declared.telling.Faulted.{Faulted}
use Rattle.id_record.specs.Events.{EventView, AllWent}
use Rattle.id_record.specs.Tellings.{any_stuck, fault_in, first_fault, is_stuck}

step_well : (n : ℕ) (s : Step) (b : Bool) (o : Option Faulted) → (is_stuck s || b) ≡ false
    → option_or (fault_in n s) o ≡ None → (s ≡ Went) × ((b ≡ false) × (o ≡ None))
step_well n Went b o stuck fault = (refl, (stuck, fault))
step_well n (Fault f) b o stuck fault = cc
step_well n Stuck b o stuck fault = cc

step_ill : (n : ℕ) (s : Step) (b : Bool) (o : Option Faulted) → s ≡ Went → b ≡ false → o ≡ None
    → ((is_stuck s || b) ≡ false) × (option_or (fault_in n s) o ≡ None)
step_ill n Went b o is stuck fault = (stuck, fault)
step_ill n (Fault f) b o is stuck fault = cc
step_ill n Stuck b o is stuck fault = cc

each_went : (es : List EventView) → any_stuck es ≡ false → first_fault es ≡ None
    → AllByRecursion (λ e. e.step ≡ Went) es
each_went [] stuck fault = tt
each_went (e ∷ es) stuck fault =
    let first = step_well e.stamp e.step (any_stuck es) (first_fault es) stuck fault in
    (first.0, each_went es first.1.0 first.1.1)

each_fault : (es : List EventView) → AllByRecursion (λ e. e.step ≡ Went) es
    → (any_stuck es ≡ false) × (first_fault es ≡ None)
each_fault [] all = (refl, refl)
each_fault (e ∷ es) all =
    let rest = each_fault es all.1 in
    step_ill e.stamp e.step (any_stuck es) (first_fault es) all.0 rest.0 rest.1

pub went_if : (es : List EventView) → any_stuck es ≡ false → first_fault es ≡ None → AllWent es
went_if es stuck fault = All-from_recursion (λ e. e.step ≡ Went) es (each_went es stuck fault)

pub no_fault_if : (es : List EventView) → AllWent es → (any_stuck es ≡ false) × (first_fault es ≡ None)
no_fault_if es all = each_fault es (recursion_from_All (λ e. e.step ≡ Went) es all)
