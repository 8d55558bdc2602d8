-- What looks at a text have told.
use Rattle.std.proofs.Common.{◌≡◌, ◌≢◌, ◌<◌, ◌≤◌, arith, length, slice_get, ℕ, Bool, true, Bor, Option, Some, None}
use Rattle.std.proofs.Common.{List, ◌++◌, refl, sym, ap, ◌∙◌, codes, subst}
use Rattle.std.specs.Prelude.{IfNone, IfSome, IsTrue, MatchOption, ◌↔◌}
use Rattle.std.proofs.lemmas.List.{append_cancel_left}
use Rattle.std.proofs.lemmas.Option.{slice_get_within}
use Rattle.id_value.specs.List.{Among}
use Rattle.id_value.proofs.AmongLemmas.{at-from_Among}
use Rattle.id_tag.specs.declared.Message.{Message}
use Rattle.id_value.specs.declared.FaultKind.TheVariants as kind
use Rattle.id_record.specs.declared.step.Fault.TheVariants.{Operator}
use Rattle.id_record.specs.declared.step.Step.{Step}
use Rattle.id_record.specs.declared.step.Step.TheVariants.{Went, Fault, Stuck}
use Rattle.id_trace.specs.Traces.{end_text, payload_text}
use Rattle.id_judge.specs.Lines.{Begins, IsSaid}

-- a look for a front
module _ (text bytes : List ℕ) where
  pub if_past : (r : Option (Bor (List ℕ)))
      → MatchOption r ((rest : List ℕ) → text ≢ bytes ++ rest) (λ x. text ≡ bytes ++ x.now)
      → IfSome r (λ x. text ≡ bytes ++ x.now)
  if_past None h = tt
  if_past (Some x) h = h

  pub if_other : (r : Option (Bor (List ℕ)))
      → MatchOption r ((rest : List ℕ) → text ≢ bytes ++ rest) (λ x. text ≡ bytes ++ x.now)
      → IfNone r (Begins text bytes → ⊥)
  if_other None h = λ b. h b.rest b.is
  if_other (Some x) h = tt

-- a look for one of three ends
abbrev IsEnd : List ℕ → Type 0
IsEnd text = (step : Step) × Begins text (end_text step)

pub one_end : (text : List ℕ) (step : Step) → Begins text (end_text step) → IsTrue true ↔ IsEnd text
one_end text step b = ((λ _. (step, b)), λ _. refl)

-- some fault
pub a_fault : Step
a_fault =
    Fault (Operator kind.Overflow (record { context = record { element = 0; serial = 0 }; iteration = 0; instr = 0 }))

pub fault_end : (text : List ℕ) → Begins text (codes " fault\n") → IsTrue true ↔ IsEnd text
unfolding a_fault
fault_end text b = one_end text a_fault b

pub last_end : (text : List ℕ) (b : Bool) → ¬ Begins text (codes "\n") → ¬ Begins text (codes " fault\n")
    → (IsTrue b ↔ Begins text (codes " stuck\n")) → IsTrue b ↔ IsEnd text
last_end text b went fault h = ((λ t. (Stuck, h.0 t)), λ e. by e.0 e.1)
  where
    by : (step : Step) → Begins text (end_text step) → IsTrue b
    by Went x = absurd (went x)
    by (Fault f) x = absurd (fault x)
    by Stuck x = h.1 x

-- a look for what a message says
module _ (body line : List ℕ) (m : Message) (is : line ≡ payload_text m.payload) where
  pub is_said : (rest : List ℕ) → body ≡ line ++ rest → IsEnd rest → IsSaid body m rest
  is_said rest front end = record { is = front ∙ ap (λ t. t ++ rest) is; end = end }

  pub other_front : (Begins body line → ⊥) → (past : List ℕ) → IsSaid body m past → ⊥
  other_front never past s = never (record { rest = past; is = s.is ∙ ap (λ t. t ++ past) (sym is) })

  pub other_end : (rest : List ℕ) → body ≡ line ++ rest → (IsEnd rest → ⊥) → (past : List ℕ) → IsSaid body m past → ⊥
  other_end rest front never past s =
      let same : past ≡ rest = append_cancel_left line past rest (ap (λ t. t ++ past) is ∙ sym s.is ∙ front) in
      never (subst IsEnd same s.end)

-- a message that is said at none of the first positions, where there are no others
pub none_at_all : (ms : List Message) (body : List ℕ) (k : ℕ) → length ms ≤ k
    → ((j : ℕ) (m : Message) (past : List ℕ) → j < k → slice_get ms j ≡ Some m → IsSaid body m past → ⊥)
    → (m : Message) (past : List ℕ) → Among m ms → IsSaid body m past → ⊥
none_at_all ms body k all before m past a s =
    let f = at-from_Among m ms a in
    let within : f.0 < length ms = slice_get_within ms f.0 m f.1 in
    before f.0 m past (omega (arith, within, all)) f.1 s
