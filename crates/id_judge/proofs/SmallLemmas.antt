-- Messages whose tags are those that a machine has.
use Rattle.std.proofs.Common.{◌≡◌, ◌<◌, ◌==◌, ◌∙◌, arith, Bool, true, false, ℕ, List, [], ◌∷◌, ◌++◌, inl, inr, length}
use Rattle.std.proofs.Common.{get_or, swap_remove, refl, sym, subst}
use Rattle.std.proofs.lemmas.Option.{slice_get_read}
use Rattle.std.proofs.lemmas.Bool.{eqb-true, false≢true}
use Rattle.std.proofs.lemmas.List.{nil_from_length}
use Rattle.id_value.proofs.AmongLemmas.{Among-either}
use Rattle.id_tag.specs.declared.Message.{Message}
use Rattle.id_record.specs.Events.{tag_of}
use Rattle.id_runs.specs.Legal.{InSomeOrder}
use Rattle.id_judge.specs.Lines.{AreSmall, IsSmall}
use Rattle.id_judge.proofs.OrderLemmas.{also_among, other_order, taken_first}

pub small_none : AreSmall []
small_none m a = absurd a

pub small_more : (xs : List Message) (m : Message) → AreSmall xs → IsSmall (tag_of m.payload) → AreSmall (xs ++ m ∷ [])
small_more xs m all one n a = elim (Among-either n xs (m ∷ []) a) [
  | inl old ↦ all n old
  | inr last ↦ elim last [
    | inl is ↦ subst (λ (x : Message). IsSmall (tag_of x.payload)) (sym is) one
    | inr none ↦ absurd none
  ]
]

pub small_less : (xs left : List Message) (k : ℕ) (m : Message) → k < length xs → m ≡ get_or xs k m
    → left ≡ swap_remove xs k m → AreSmall xs → AreSmall left
small_less xs left k m within is out all n a =
    let at = slice_get_read xs (length xs) k m refl within is in
    let order : InSomeOrder xs (m ∷ left) = taken_first xs left k m m is out at in
    all n (also_among n (m ∷ left) xs (other_order xs (m ∷ left) order) (inr a))

-- ---- a text that is empty, or not

pub some_text : (xs : List ℕ) (b : Bool) → b ≡ (length xs == 0) → b ≡ false → 0 < length xs
some_text [] b e f = absurd (false≢true (sym f ∙ e))
some_text (x ∷ xs) b e f = omega arith

pub no_text : (xs : List ℕ) (b : Bool) → b ≡ (length xs == 0) → b ≡ true → xs ≡ []
no_text xs b e t = nil_from_length xs (eqb-true (length xs) 0 (sym e ∙ t))
