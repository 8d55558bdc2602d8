-- Deliveries, one after another.
use Rattle.std.proofs.Common.{◌≡◌, ℕ, List, [], ◌∷◌, ◌++◌, Option, Result, Ok, Err, refl, sym, ap, subst, ◌∙◌}
use Rattle.std.specs.Prelude.{IfOk, OnOk}
use Rattle.id_check.specs.declared.checked.Checked.{Checked}
use Rattle.id_compile.specs.Programs.{IsProgramOf}
use Rattle.id_source.specs.Inputs.{AreInputsOf}
use Rattle.id_value.specs.declared.Constant.{Constant}
use Rattle.id_core.specs.Machines.{IsQuiet, MachineView, World, delivered, run, start}
use Rattle.id_core.specs.Observed.{answer}
use Rattle.id_record.specs.declared.kept.Keeps.TheVariants.{All}
use Rattle.id_instr.specs.Graph.{Parts}
use Rattle.id_laws.specs.Laws.{QuietIsComplete}
use Rattle.id_build.specs.Schemas.{Schemas}
use Rattle.id_source.specs.declared.SourceValue.{SourceValue}
use Rattle.id_source.specs.Rounds.{IsAnswer}
use Rattle.id_source.specs.Sources.{AreInputs, Source, source}
use Rattle.id_by_hand.specs.ByHand.{IsAnswerOf, IsLater}

-- a delivery more is one at the list's end
run_more : (g : Parts) (count : ℕ) (ks : List ℕ) (k : ℕ) (s : World)
    → run g count (ks ++ (k ∷ [])) s ≡ delivered g count (run g count ks s) k
run_more g count [] k s = refl
run_more g count (j ∷ ks) k s = run_more g count ks k (delivered g count s j)

-- no delivery is one of none
pub IsLater-none : (m : MachineView) → IsLater m m
IsLater-none m = record { positions = []; is = refl }

-- a delivery more
pub IsLater-deliver : (old mid new : MachineView) (k : ℕ) → IsLater old mid
    → new ≡ record mid { world = delivered mid.graph mid.count mid.world k }
    → IsLater old new
IsLater-deliver old mid new k h step = record {
  positions = h.positions ++ (k ∷ []);
  is = step ∙ (ap (λ (m : MachineView). record m { world = delivered m.graph m.count m.world k }) h.is ∙
      ap (λ (w : World). record old { world = w }) (sym (run_more old.graph old.count h.positions k old.world)));
}

-- what a later machine shows as its answer, where it is quiet, is the source's
pub is_answer : (S : Source) (g : Parts) (count : ℕ) (old new : MachineView) (o : Option SourceValue) → QuietIsComplete
    → AreInputs S.checked S.inputs → Schemas S.checked g
    → old ≡ record { graph = g; count = count; keeps = All; world = start g S.inputs count } → IsLater old new
    → IsQuiet new.world → o ≡ answer new.graph new.world → IsAnswer S o
is_answer S g count old new o complete inputs schemas at_start later quiet shown =
    let ks = later.positions in
    let is = later.is ∙ ap (λ (m : MachineView). record m { world = run m.graph m.count ks m.world }) at_start in
    let done = complete S g count ks inputs schemas (subst (λ (m : MachineView). IsQuiet m.world) is quiet) in
    subst (IsAnswer S) (sym (shown ∙ ap (λ (m : MachineView). answer m.graph m.world) is)) done.answer

-- so is the answer that was given, where the machine was found quiet
pub answered : {E : Type 0} (S : Source) (g : Parts) (count : ℕ) (old new : MachineView)
    (r : Result (Option SourceValue) E) → QuietIsComplete → AreInputs S.checked S.inputs → Schemas S.checked g
    → old ≡ record { graph = g; count = count; keeps = All; world = start g S.inputs count } → IsLater old new
    → OnOk r (IsQuiet new.world) → IfOk r (λ o. o ≡ answer new.graph new.world) → IfOk r (IsAnswer S)
answered S g count old new (Ok o) complete inputs schemas at_start later quiet shown =
    is_answer S g count old new o complete inputs schemas at_start later quiet shown
answered S g count old new (Err e) complete inputs schemas at_start later quiet shown = tt

-- and that of the text's program on its inputs
pub answered_of : {E : Type 0} (text : List ℕ) (words : List (List ℕ)) (P : Checked) (vs : List Constant)
    (r : Result (Option SourceValue) E) → IsProgramOf text P → AreInputsOf P words vs → IfOk r (IsAnswer (source P vs))
    → IfOk r (IsAnswerOf text words)
answered_of text words P vs (Ok o) program inputs is =
    record { program = P; is_program = program; inputs = vs; are_inputs = inputs; is = is }
answered_of text words P vs (Err e) program inputs is = tt
