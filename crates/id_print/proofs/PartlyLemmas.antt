-- Lemmas on specs/Texts.antt: the lines of structures and cells, of which some are printed.
use Rattle.std.proofs.Common.{◌≡◌, ℕ, List, [], ◌∷◌, ◌++◌}
use Rattle.std.proofs.Common.{Result, Ok, Err, IsErr, append_assoc, sym, ap, subst}
use Rattle.std.proofs.Common.{◌∙◌}
use Rattle.id_print.specs.declared.helds.Held.{Held}
use Rattle.id_sink.specs.declared.sink.PrintError.{PrintError}
use Rattle.id_sink.specs.Told.{SinkView, Prints}
use Rattle.id_print.specs.Texts.{held_text, helds_text}
use Rattle.std.proofs.lemmas.List.{append-nil}
use Rattle.std.proofs.lemmas.List.Concat.{flat_map-append}
use Rattle.id_sink.proofs.SinkLemmas.{Prints-stop, Prints-then}
use Rattle.id_sink.proofs.TextsLemmas.{same_text}

-- of all lines some are printed, and these are left
pub record IsPartly (old new : SinkView) (text : List ℕ) (all rest : List Held) : Type 0 where
  pub front : List Held
  pub parts : all ≡ front ++ rest
  pub printed : Prints old new (helds_text text front) (Ok tt)

helds_text-more : (text : List ℕ) (front : List Held) (x : Held)
    → helds_text text (front ++ x ∷ []) ≡ helds_text text front ++ held_text text x
helds_text-more text front x =
    flat_map-append (held_text text) front (x ∷ [])
    ∙ ap (λ t. helds_text text front ++ t) (append-nil (held_text text x))

pub Partly-more : (old mid new : SinkView) (text : List ℕ) (all rest left : List Held) (x : Held) (u : Unit {0})
    → IsPartly old mid text all rest →
    rest ≡ x ∷ left
    → Prints mid new (held_text text x) (Ok u) → IsPartly old new text all left
Partly-more old mid new text all rest left x u h e p = record {
  front = h.front ++ x ∷ [];
  parts = h.parts ∙ ap (λ l. h.front ++ l) e ∙ sym (append_assoc h.front (x ∷ []) left);
  printed = same_text old new _ _ (Ok tt) (sym (helds_text-more text h.front x))
      (Prints-then old mid new (helds_text text h.front) (held_text text x) tt (Ok tt) h.printed p);
}

pub Partly-stop : (old mid new : SinkView) (text : List ℕ) (all rest left : List Held) (x : Held) (e : PrintError)
    (r : Result (Unit {0}) PrintError) →
    IsPartly old mid text all rest
    → rest ≡ x ∷ left → Prints mid new (held_text text x) (Err e) → IsErr r → Prints old new (helds_text text all) r
Partly-stop old mid new text all rest left x e r h is p fails =
    let cut : helds_text text all ≡ helds_text text h.front ++ (held_text text x ++ helds_text text left) =
    ap (helds_text text) (h.parts ∙ ap (λ l. h.front ++ l) is) ∙ flat_map-append (held_text text) h.front (x ∷ left) in
    same_text old new _ _ r (sym cut)
    (Prints-then old mid new (helds_text text h.front) _ tt r h.printed
    (Prints-stop mid new (held_text text x) (helds_text text left) e r p fails))

-- a line that is told with a cursor that stands for the text
pub Prints-held_at : (k t : List ℕ) (x : Held) (old new : SinkView) (r : Result (Unit {0}) PrintError) → k ≡ t
    → Prints old new (held_text k x) r →
    Prints old new (held_text t x) r
Prints-held_at k t x old new r same one =
    let P : List ℕ → Type 0 = λ z. Prints old new (held_text z x) r in subst P same one
