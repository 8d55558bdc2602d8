-- *Cells*: each cell holds what its history says, by induction over the events.
use Rattle.std.proofs.Common.{◌≡◌, inl, inr, ℕ, Bool, true, false, cond, Option, Some, None, List, [], ◌∷◌, ◌++◌}
use Rattle.std.proofs.Common.{append-nil, refl, sym, ◌∙◌, ap, subst}
use Rattle.id_tag.specs.declared.Tag.{Tag}
use Rattle.id_tag.specs.declared.Cell.{Cell}
use Rattle.id_tag.specs.declared.Value.{Value}
use Rattle.id_tag.specs.Tags.{same_cell}
use Rattle.id_tag.specs.Routes.{route_of}
use Rattle.id_tag.proofs.TagsLemmas.{ties-same_cell}
use Rattle.id_bank.specs.declared.cell.ReadAnswer.{ReadAnswer}
use Rattle.id_bank.specs.declared.cell.ReadAnswer.TheVariants.{Now, Deferred}
use Rattle.id_bank.specs.declared.cell.WriteAnswer.{WriteAnswer}
use Rattle.id_bank.specs.declared.cell.WriteAnswer.TheVariants.{Readers, Second}
use Rattle.id_bank.specs.Cells.{CellState, Present, Deferred as Waiting}
use Rattle.id_value.specs.List.{Among}
use Rattle.id_value.proofs.AmongLemmas.{Among-left, Among-right, Among-either}
use Rattle.id_runs.specs.Events.{Event, Took, Looked, Wrote}
use Rattle.id_runs.specs.Runs.{happens, begin, deliver}
use Rattle.id_runs.specs.Cells.{ReadBy, WrittenBy, held, put_off, Empty, Full, History, CellsExact}
use Rattle.id_runs.proofs.Touching.{Touch, by_read, by_write, elsewhere, cell_tie, cell_itself, touch, nothing_held}

-- ---- the reads that were put off

pub same_itself : (c : Cell) → same_cell c c ≡ true
same_itself c = sym (ties-same_cell c c) ∙ cell_itself c

pub one_from_same : (c d : Cell) → same_cell c d ≡ true → c ≡ d
one_from_same c d e = cell_tie c d (ties-same_cell c d ∙ e)

looked_parts : {n m : ℕ} {c d : Cell} {t u : Tag} {a b : ReadAnswer} → Looked n c t a ≡ Looked m d u b
    → (c ≡ d) × ((t ≡ u) × (a ≡ b))
looked_parts e = (cc, (cc, cc))

-- an event that is no read of the cell that was put off holds nothing
held_none : (c : Cell) (e : Event) → ((n : ℕ) (t : Tag) → e ≡ Looked n c t Deferred → ⊥) → held c e ≡ []
held_none c (Took n t p v a) not = refl
held_none c (Wrote n d v w a) not = refl
held_none c (Looked n d t (Now v)) not = refl
held_none c (Looked n d t Deferred) not = by (same_cell d c) refl
  where
    by : (b : Bool) → same_cell d c ≡ b → cond (same_cell d c) (t ∷ []) [] ≡ []
    by true is = absurd (not n t (ap (λ k. Looked n k t Deferred) (one_from_same d c is)))
    by false is = ap (λ b. cond b (t ∷ []) []) is

held_it : (c : Cell) (e : Event) (n : ℕ) (t : Tag) → e ≡ Looked n c t Deferred → held c e ≡ t ∷ []
held_it c e n t is = ap (held c) is ∙ ap (λ b. cond b (t ∷ []) []) (same_itself c)

-- and what is held is the reply of one
held_back : (c : Cell) (e : Event) (t : Tag) → Among t (held c e) → (n : ℕ) × (e ≡ Looked n c t Deferred)
held_back c (Took n u p v a) t h = absurd h
held_back c (Wrote n d v w a) t h = absurd h
held_back c (Looked n d u (Now v)) t h = absurd h
held_back c (Looked n d u Deferred) t h = by (same_cell d c) refl h
  where
    by : (b : Bool) → same_cell d c ≡ b → Among t (cond b (u ∷ []) [])
        → (m : ℕ) × (Looked n d u Deferred ≡ Looked m c t Deferred)
    by true is (inl same) = (n, (λ j. Looked n (one_from_same d c is j) (sym same j) Deferred))
    by true is (inr none) = absurd none
    by false is none = absurd none

-- what was put off had a read
pub waits_read : (run : List Event) (c : Cell) (t : Tag) → Among t (put_off run c) → ReadBy run c t Deferred
waits_read [] c t h = absurd h
waits_read (e ∷ run) c t h =
    elim (Among-either t (put_off run c) (held c e) h) [
      | inl old ↦ (let z = waits_read run c t old in record { element = z.element; among = inr z.among })
      | inr new ↦ (let z = held_back c e t new in record { element = z.0; among = inl (sym z.1) })
    ]

pub read_waits : (run : List Event) (c : Cell) (t : Tag) → ReadBy run c t Deferred → Among t (put_off run c)
read_waits [] c t x = absurd x.among
read_waits (e ∷ run) c t x =
    elim x.among [
      | inl is ↦ Among-right t (put_off run c) (held c e)
          (subst (Among t) (sym (held_it c e x.element t (sym is))) (inl refl))
      | inr old ↦ Among-left t (put_off run c) (held c e)
          (read_waits run c t (record { element = x.element; among = old }))
    ]

-- ---- one event more

-- an event that puts nothing off
put_off_still : (run : List Event) (c : Cell) (e : Event) → held c e ≡ [] → put_off run c ≡ put_off (e ∷ run) c
put_off_still run c e is = sym (append-nil (put_off run c)) ∙ ap (λ z. put_off run c ++ z) (sym is)

read_later : {run : List Event} {c : Cell} {t : Tag} {a : ReadAnswer} (e : Event) → ((n : ℕ) → Looked n c t a ≡ e → ⊥)
    → ReadBy (e ∷ run) c t a →
    ReadBy run c t a
read_later e not x =
    elim x.among [ inl is ↦ absurd (not x.element is) | inr old ↦ record { element = x.element; among = old } ]

written_later : {run : List Event} {c : Cell} {v : Value} {w : Tag} {a : WriteAnswer} (e : Event)
    → ((n : ℕ) → Wrote n c v w a ≡ e → ⊥) →
    WrittenBy (e ∷ run) c v w a
    → WrittenBy run c v w a
written_later e not x =
    elim x.among [ inl is ↦ absurd (not x.element is) | inr old ↦ record { element = x.element; among = old } ]

-- a read is put off
waits_more : (run : List Event) (e : Event) (c : Cell) (ts : List Tag) (n : ℕ) (t : Tag) → Empty run c ts
    → e ≡ Looked n c t Deferred →
    Empty (e ∷ run) c (ts ++ t ∷ [])
waits_more run e c ts n t x is = record {
  waiting = (λ j. x.waiting j ++ sym (held_it c e n t is) j);
  unwritten = λ v w a y. x.unwritten v w a (written_later e (λ m z. let bad = z ∙ is in cc) y);
  reads = λ u a y. elim y.among [
    | inl z ↦ (looked_parts (z ∙ is)).1.1
    | inr old ↦ x.reads u a (record { element = y.element; among = old })
  ];
}

-- a write fills it
fills_now : (run : List Event) (e : Event) (c : Cell) (ts : List Tag) (n : ℕ) (v : Value) (w : Tag) → Empty run c ts
    → e ≡ Wrote n c v w (Readers ts) →
    Full (e ∷ run) c v w
fills_now run e c ts n v w x is = record {
  replies = ts;
  filled = record { element = n; among = inl (sym is) };
  answered = x.waiting ∙ put_off_still run c e (held_none c e (λ m t z. let bad = sym is ∙ z in cc));
  writes = λ m u y a h. elim h [
    | inl z ↦ inl (z ∙ is)
    | inr old ↦ absurd (x.unwritten u y a (record { element = m; among = old }))
  ];
  reads = λ t a y. inr (x.reads t a (read_later e (λ m z. let bad = z ∙ is in cc) y));
}

-- the event is on something else
empty_on : (run : List Event) (e : Event) (c : Cell) (ts : List Tag) → Empty run c ts
    → ((n : ℕ) (t : Tag) (a : ReadAnswer) → e ≡ Looked n c t a → ⊥)
    → ((n : ℕ) (v : Value) (w : Tag) (a : WriteAnswer) → e ≡ Wrote n c v w a → ⊥) → Empty (e ∷ run) c ts
empty_on run e c ts x no_read no_write = record {
  waiting = x.waiting ∙ put_off_still run c e (held_none c e (λ n t z. no_read n t Deferred z));
  unwritten = λ v w a y. x.unwritten v w a (written_later e (λ n z. no_write n v w a (sym z)) y);
  reads = λ t a y. x.reads t a (read_later e (λ n z. no_read n t a (sym z)) y);
}

-- a full cell stays full: a read gets its value, and a write finds its origin
full_on : (run : List Event) (e : Event) (c : Cell) (v : Value) (w : Tag) → Full run c v w →
    ((n : ℕ) (t : Tag) (a : ReadAnswer) → e ≡ Looked n c t a → a ≡ Now v)
    → ((n : ℕ) (u : Value) (y : Tag) (a : WriteAnswer) → e ≡ Wrote n c u y a → a ≡ Second w) → Full (e ∷ run) c v w
full_on run e c v w x reads writes = record {
  replies = x.replies;
  filled = record { element = (x.filled).element; among = inr (x.filled).among };
  answered = x.answered ∙ put_off_still run c e (held_none c e (λ n t z. let bad = reads n t Deferred z in cc));
  writes = λ n u y a h. elim h [
    | inl z ↦ inr (writes n u y a (sym z))
    | inr old ↦ x.writes n u y a old
  ];
  reads = λ t a y. elim y.among [
    | inl z ↦ inl (reads y.element t a (sym z))
    | inr old ↦ x.reads t a (record { element = y.element; among = old })
  ];
}

no_write : {e : Event} {n m : ℕ} {c d : Cell} {t w : Tag} {v : Value} {a : ReadAnswer} {b : WriteAnswer}
    → e ≡ Looked n c t a → e ≡ Wrote m d v w b → ⊥
no_write x y = let bad = sym x ∙ y in cc

answer_of_read : {e : Event} {n m : ℕ} {c d : Cell} {t u : Tag} {a b : ReadAnswer} → e ≡ Looked n c t a
    → e ≡ Looked m d u b → b ≡ a
answer_of_read x y = (looked_parts (sym y ∙ x)).1.1

answer_of_write : {e : Event} {n m : ℕ} {c d : Cell} {u v : Value} {t w : Tag} {a b : WriteAnswer} → e ≡ Wrote n c u t a
    → e ≡ Wrote m d v w b → b ≡ a
answer_of_write x y = let same = sym y ∙ x in cc

grows : (run : List Event) (e : Event) (c : Cell) (before after : Option CellState) → History run c before
    → Touch e c before after → History (e ∷ run) c after
grows run e c None after h (by_read n t is new) = subst (History (e ∷ run) c) (sym new) (waits_more run e c [] n t h is)
grows run e c (Some (Waiting ts)) after h (by_read n t is new) =
    subst (History (e ∷ run) c) (sym new) (waits_more run e c ts n t h is)
grows run e c (Some (Present v w)) after h (by_read n t is new) =
    subst (History (e ∷ run) c) (sym new)
    (full_on run e c v w h (λ m u a z. answer_of_read is z) (λ m u y a z. absurd (no_write is z)))
grows run e c None after h (by_write n v w is new) =
    subst (History (e ∷ run) c) (sym new) (fills_now run e c [] n v w h is)
grows run e c (Some (Waiting ts)) after h (by_write n v w is new) =
    subst (History (e ∷ run) c) (sym new) (fills_now run e c ts n v w h is)
grows run e c (Some (Present u x)) after h (by_write n v w is new) =
    subst (History (e ∷ run) c) (sym new)
    (full_on run e c u x h (λ m t a z. absurd (no_write z is)) (λ m y z a k. answer_of_write is k))
grows run e c None after h (elsewhere no_look no_put new) =
    subst (History (e ∷ run) c) (sym new) (empty_on run e c [] h no_look no_put)
grows run e c (Some (Waiting ts)) after h (elsewhere no_look no_put new) =
    subst (History (e ∷ run) c) (sym new) (empty_on run e c ts h no_look no_put)
grows run e c (Some (Present v w)) after h (elsewhere no_look no_put new) =
    subst (History (e ∷ run) c) (sym new)
    (full_on run e c v w h (λ n t a z. absurd (no_look n t a z)) (λ n u y a z. absurd (no_put n u y a z)))

-- *Cells*
pub cells_exact : CellsExact
cells_exact g vs count s run begin c =
    subst (History [] c) (sym (nothing_held g vs count c)) (record {
      waiting = refl;
      unwritten = λ v w a x. x.among;
      reads = λ t a x. absurd x.among;
    })
cells_exact g vs count s run (deliver {s = s₀} {run = run₀} k m e r f q) c =
    grows run₀ (happens g (route_of m.payload count) e m.payload) c _ _ (cells_exact g vs count s₀ run₀ r c)
    (touch g count k s₀ m e q c)
