-- What follows of a run whose cells hold what their histories say: fills, answers, what waits, and second stores.
use Rattle.std.proofs.Common.{◌≡◌, ◌⊎◌, inl, inr, ℕ, Option, Some, None, List, refl, sym, ◌∙◌, ap, subst}
use Rattle.id_tag.specs.declared.Tag.{Tag}
use Rattle.id_tag.specs.declared.Cell.{Cell}
use Rattle.id_tag.specs.declared.Value.{Value}
use Rattle.id_bank.specs.declared.cell.ReadAnswer.{ReadAnswer}
use Rattle.id_bank.specs.declared.cell.ReadAnswer.TheVariants.{Now, Deferred}
use Rattle.id_bank.specs.declared.cell.WriteAnswer.{WriteAnswer}
use Rattle.id_bank.specs.declared.cell.WriteAnswer.TheVariants.{Readers, Second}
use Rattle.id_bank.specs.Cells.{CellState, Present, Deferred as Waiting}
use Rattle.id_value.specs.List.{Among}
use Rattle.id_runs.specs.Events.{Event, Looked, Wrote}
use Rattle.id_runs.specs.Keys.{ByFetch, ByStore}
use Rattle.id_runs.specs.OneMessage.{Few}
use Rattle.id_runs.specs.Cells.{ReadBy, WrittenBy, put_off, Empty, Full, History, Replies, at_once, by_fill}
use Rattle.id_runs.proofs.Keys.{one_event}
use Rattle.id_runs.proofs.Cells.{waits_read, read_waits}

-- ---- two events on a cell

pub same_write : {n m : ℕ} {c d : Cell} {u v : Value} {x w : Tag} {a b : WriteAnswer}
    → Wrote n c u x a ≡ Wrote m d v w b → (u ≡ v) × ((x ≡ w) × (a ≡ b))
same_write e = (cc, (cc, cc))

pub same_read : {n m : ℕ} {c d : Cell} {x w : Tag} {a b : ReadAnswer} → Looked n c x a ≡ Looked m d w b
    → (c ≡ d) × (a ≡ b)
same_read e = (cc, cc)

same_readers : {ts us : List Tag} → Readers ts ≡ Readers us → ts ≡ us
same_readers e = cc

same_second : {x w : Tag} → Second x ≡ Second w → x ≡ w
same_second e = cc

fills_not_finds : {ts : List Tag} {x : Tag} → Readers ts ≡ Second x → ⊥
fills_not_finds e = cc

answers_not_defers : {v : Value} → Now v ≡ Deferred → ⊥
answers_not_defers e = cc

same_now : {u v : Value} → Now u ≡ Now v → u ≡ v
same_now e = cc

module _ (run : List Event) where
  -- ---- of a cell that holds a value

  -- what fills it is the one event that its history names
  full_fill : (c : Cell) (v u : Value) (w x : Tag) (ts : List Tag) (f : Full run c v w)
      (y : WrittenBy run c u x (Readers ts))
      → Wrote y.element c u x (Readers ts) ≡ Wrote (f.filled).element c v w (Readers f.replies)
  full_fill c v u w x ts f y =
      elim (f.writes y.element u x (Readers ts) y.among) [
        | inl is ↦ is
        | inr finds ↦ absurd (fills_not_finds finds)
      ]

  -- each read of it was answered at once, or by the fill
  full_reads : (c : Cell) (v : Value) (w t : Tag) (a : ReadAnswer) (f : Full run c v w) → ReadBy run c t a
      → (a ≡ Now v) ⊎ Among t f.replies
  full_reads c v w t a f x =
      elim (f.reads t a x) [
        | inl now ↦ inl now
        | inr later ↦ inr (subst (Among t) (sym f.answered) (read_waits run c t (subst (ReadBy run c t) later x)))
      ]

  -- so the answer to each read of it was sent
  full_answers : (c : Cell) (v : Value) (w t : Tag) (a : ReadAnswer) → Full run c v w → ReadBy run c t a
      → (e : Event) × Replies run t v e
  full_answers c v w t a f x =
      elim (full_reads c v w t a f x) [
        | inl now ↦ (
          Looked x.element c t (Now v),
          at_once x.element c (subst (λ z. Among (Looked x.element c t z) run) now x.among),
        )
        | inr later ↦ (
          Wrote (f.filled).element c v w (Readers f.replies),
          by_fill (f.filled).element c w f.replies (f.filled).among later,
        )
      ]

  module _ (cell : Cell → Option CellState) (exact : (c : Cell) → History run c (cell c)) where
    -- what is to be shown of a written cell may be shown of a full one
    when_written : (A : Type 0) (c : Cell) (u : Value) (x : Tag) (a : WriteAnswer) → WrittenBy run c u x a
        → ((v : Value) (w : Tag) → cell c ≡ Some (Present v w) → Full run c v w → A) → A
    when_written A c u x a y go = by (cell c) refl (exact c)
      where
        by : (st : Option CellState) → cell c ≡ st → History run c st → A
        by None is h = absurd (h.unwritten u x a y)
        by (Some (Waiting ts)) is h = absurd (h.unwritten u x a y)
        by (Some (Present v w)) is h = go v w is h

    -- ---- fills

    -- a cell that holds a value was filled with it, and one that was filled holds it
    pub filled : (c : Cell) (v : Value) (w : Tag) → cell c ≡ Some (Present v w)
        → (ts : List Tag) × WrittenBy run c v w (Readers ts)
    filled c v w is = let f : Full run c v w = subst (History run c) is (exact c) in (f.replies, f.filled)

    pub fills : (c : Cell) (v : Value) (w : Tag) (ts : List Tag) → WrittenBy run c v w (Readers ts)
        → cell c ≡ Some (Present v w)
    fills c v w ts y =
        when_written (cell c ≡ Some (Present v w)) c v w (Readers ts) y
        (λ u x is f. let z = same_write (full_fill c u v x w ts f y) in
        is ∙ (λ j. Some (Present (sym z.0 j) (sym z.1.0 j))))

    -- a cell is filled once
    pub one_fill : (c : Cell) (v v' : Value) (w w' : Tag) (ts ts' : List Tag) (y : WrittenBy run c v w (Readers ts))
        (z : WrittenBy run c v' w' (Readers ts'))
        → Wrote y.element c v w (Readers ts) ≡ Wrote z.element c v' w' (Readers ts')
    one_fill c v v' w w' ts ts' y z =
        when_written (Wrote y.element c v w (Readers ts) ≡ Wrote z.element c v' w' (Readers ts')) c v w (Readers ts) y
        (λ u x is f. full_fill c u v x w ts f y ∙ sym (full_fill c u v' x w' ts' f z))

    -- the list of a fill is that of all reads that were put off, in order of arrival
    pub whole_list : (c : Cell) (v : Value) (w : Tag) (ts : List Tag) → WrittenBy run c v w (Readers ts)
        → ts ≡ put_off run c
    whole_list c v w ts y =
        when_written (ts ≡ put_off run c) c v w (Readers ts) y
        (λ u x is f. same_readers (same_write (full_fill c u v x w ts f y)).1.1 ∙ f.answered)

    pub put_off_by : (c : Cell) (v : Value) (w t : Tag) (ts : List Tag) → WrittenBy run c v w (Readers ts) → Among t ts
        → ReadBy run c t Deferred
    put_off_by c v w t ts y among = waits_read run c t (subst (Among t) (whole_list c v w ts y) among)

    -- a write fills its cell, or finds the origin that it holds
    pub writes : (c : Cell) (v : Value) (w : Tag) (a : WriteAnswer) → WrittenBy run c v w a
        → ((ts : List Tag) × (a ≡ Readers ts) × WrittenBy run c v w (Readers ts))
        ⊎ ((x : Tag) × (u : Value) × (a ≡ Second x) × (cell c ≡ Some (Present u x)))
    writes c v w a y =
        when_written (((ts : List Tag) × (a ≡ Readers ts) × WrittenBy run c v w (Readers ts)) ⊎
        ((x : Tag) × (u : Value) × (a ≡ Second x) × (cell c ≡ Some (Present u x)))) c v w a y
        (λ u x is f. elim (f.writes y.element v w a y.among) [
          | inl same ↦ (let z = (same_write same).1.1 in inl (f.replies, z, subst (WrittenBy run c v w) z y))
          | inr finds ↦ inr (x, u, finds, is)
        ])

    -- a read is answered at once or by the fill, or it waits
    pub reads : (c : Cell) (t : Tag) (a : ReadAnswer) → ReadBy run c t a
        → ((v : Value) × (w : Tag) × (ts : List Tag) × WrittenBy run c v w (Readers ts) × ((a ≡ Now v) ⊎ Among t ts))
        ⊎ ((ts : List Tag) × (cell c ≡ Some (Waiting ts)) × Among t ts × (a ≡ Deferred))
    reads c t a x = by (cell c) refl (exact c)
      where
        off : {ts : List Tag} → Empty run c ts → Among t ts
        off h = subst (Among t) (sym h.waiting) (read_waits run c t (subst (ReadBy run c t) (h.reads t a x) x))

        by : (st : Option CellState) → cell c ≡ st → History run c st
            → ((v : Value) × (w : Tag) × (ts : List Tag) × WrittenBy run c v w (Readers ts)
            × ((a ≡ Now v) ⊎ Among t ts))
            ⊎ ((ts : List Tag) × (cell c ≡ Some (Waiting ts)) × Among t ts × (a ≡ Deferred))
        by None is h = absurd (off h)
        by (Some (Waiting ts)) is h = inr (ts, is, off h, h.reads t a x)
        by (Some (Present v w)) is h = inl (v, w, h.replies, h.filled, full_reads c v w t a h x)

    -- ---- a read and a write of one cell

    -- where the write found no other, the answer to the read was sent, with its value
    pub answered : (c : Cell) (t w : Tag) (v : Value) (a : ReadAnswer) (b : WriteAnswer) → ReadBy run c t a
        → WrittenBy run c v w b →
        ((x : Tag) → b ≡ Second x → ⊥)
        → (e : Event) × Replies run t v e
    answered c t w v a b x y quiet =
        when_written ((e : Event) × Replies run t v e) c v w b y
        (λ u z is f. elim (f.writes y.element v w b y.among) [
          | inl same ↦ (let k = full_answers c u z t a f x in
              (k.0, subst (λ q. Replies run t q k.0) (sym (same_write same).0) k.1))
          | inr finds ↦ absurd (quiet z finds)
        ])

    -- ---- what waits at the end

    pub waits_unfilled : (c : Cell) (t : Tag) (ts : List Tag) → cell c ≡ Some (Waiting ts) → Among t ts
        → ReadBy run c t Deferred × ((v : Value) (w : Tag) (a : WriteAnswer) → WrittenBy run c v w a → ⊥)
    waits_unfilled c t ts is among =
        let h : Empty run c ts = subst (History run c) is (exact c) in
        (waits_read run c t (subst (Among t) h.waiting among), h.unwritten)

    pub unfilled_waits : (c : Cell) (t : Tag) (a : ReadAnswer) → ReadBy run c t a →
        ((v : Value) (w : Tag) (ts : List Tag) → WrittenBy run c v w (Readers ts) → ⊥)
        → (ts : List Tag) × (cell c ≡ Some (Waiting ts)) × Among t ts
    unfilled_waits c t a x none =
        elim (reads c t a x) [
          | inl z ↦ absurd (none z.0 z.1 z.2 z.3)
          | inr z ↦ (z.0, z.1, z.2)
        ]

    -- ---- a second store

    -- a write that is not the fill finds it
    pub finds_fill : (c : Cell) (v v' : Value) (w w' : Tag) (ts : List Tag) (a : WriteAnswer)
        → WrittenBy run c v w (Readers ts) → WrittenBy run c v' w' a →
        (w ≡ w' → ⊥)
        → a ≡ Second w
    finds_fill c v v' w w' ts a y z differ =
        when_written (a ≡ Second w) c v' w' a z
        (λ u x is f.
        let k = same_write (full_fill c u v x w ts f y) in
        elim (f.writes z.element v' w' a z.among) [
          | inl same ↦ absurd (differ (k.1.0 ∙ sym (same_write same).1.0))
          | inr finds ↦ finds ∙ ap Second (sym k.1.0)
        ])

    -- what a write finds is the origin of the fill
    pub finds_put : (c : Cell) (v : Value) (w x : Tag) → WrittenBy run c v w (Second x)
        → (u : Value) × (ts : List Tag) × WrittenBy run c u x (Readers ts)
    finds_put c v w x y =
        elim (writes c v w (Second x) y) [
          | inl z ↦ absurd (fills_not_finds (sym z.1))
          | inr z ↦
              let is = sym (same_second z.2) in
              let k = filled c z.1 z.0 z.3 in
              (z.1, k.0, subst (λ q. WrittenBy run c z.1 q (Readers k.0)) is k.1)
        ]

    -- of two writes with two origins one found the other's, or both found a third one's
    pub second_store : (c : Cell) (v v' : Value) (w w' : Tag) (a a' : WriteAnswer) → WrittenBy run c v w a
        → WrittenBy run c v' w' a' → (w ≡ w' → ⊥)
        → (a' ≡ Second w) ⊎ ((a ≡ Second w') ⊎ ((x : Tag) × (a ≡ Second x) × (a' ≡ Second x)))
    second_store c v v' w w' a a' y z differ =
        when_written ((a' ≡ Second w) ⊎ ((a ≡ Second w') ⊎ ((x : Tag) × (a ≡ Second x) × (a' ≡ Second x)))) c v w a y
        (λ u x is f.
        elim (f.writes y.element v w a y.among) [
          | inl same ↦
              let k = same_write same in
              inl (finds_fill c v v' w w' f.replies a' (subst (WrittenBy run c v w) k.1.1 y) z differ)
          | inr finds ↦ elim (f.writes z.element v' w' a' z.among) [
            | inl same ↦ inr (inl (finds ∙ ap Second (sym (same_write same).1.0)))
            | inr finds' ↦ inr (inr (x, finds, finds'))
          ]
        ])

    -- where each key was handled once, a store finds another's origin: `Stuck` does not come
    pub finds_other : Few run → (c : Cell) (v : Value) (w x : Tag) → WrittenBy run c v w (Second x) → w ≡ x → ⊥
    finds_other few c v w x y is =
        let z = finds_put c v w x y in
        let same : Wrote y.element c v w (Second x) ≡ Wrote (z.2).element c z.0 x (Readers z.1) =
        one_event (ByStore w) _ _ run (few (ByStore w)) y.among (z.2).among refl (ap ByStore (sym is)) in
        fills_not_finds (sym (same_write same).1.1)

    -- ---- where no write found another, a cell has one write

    pub one_put : ((c : Cell) (v : Value) (w x : Tag) → WrittenBy run c v w (Second x) → ⊥)
        → (c : Cell) (v v' : Value) (w w' : Tag) (a a' : WriteAnswer)
        (y : WrittenBy run c v w a) (z : WrittenBy run c v' w' a')
        → Wrote y.element c v w a ≡ Wrote z.element c v' w' a'
    one_put quiet c v v' w w' a a' y z =
        when_written (Wrote y.element c v w a ≡ Wrote z.element c v' w' a') c v w a y
        (λ u x is f.
        elim (f.writes y.element v w a y.among) [
          | inl k ↦ elim (f.writes z.element v' w' a' z.among) [
            | inl l ↦ k ∙ sym l
            | inr finds ↦ absurd (quiet c v' w' x (subst (WrittenBy run c v' w') finds z))
          ]
          | inr finds ↦ absurd (quiet c v w x (subst (WrittenBy run c v w) finds y))
        ])

    -- ---- an answer's value was put into the cell that was asked for

    answers_put : (c : Cell) (t : Tag) (v : Value) → ReadBy run c t (Now v)
        → (w : Tag) × (ts : List Tag) × WrittenBy run c v w (Readers ts)
    answers_put c t v x = by (cell c) (exact c)
      where
        by : (st : Option CellState) → History run c st → (w : Tag) × (ts : List Tag) × WrittenBy run c v w (Readers ts)
        by None h = absurd (answers_not_defers (h.reads t (Now v) x))
        by (Some (Waiting ts)) h = absurd (answers_not_defers (h.reads t (Now v) x))
        by (Some (Present u w)) h =
            elim (h.reads t (Now v) x) [
              | inl is ↦ (
                w,
                h.replies,
                subst (λ z. WrittenBy run c z w (Readers h.replies)) (sym (same_now is)) h.filled,
              )
              | inr later ↦ absurd (answers_not_defers later)
            ]

    -- so each reply is that of a read, with the value of the fill of its cell
    pub reply_sound : (t : Tag) (v : Value) (e : Event) → Replies run t v e
        → (c : Cell) × ((a : ReadAnswer) × ReadBy run c t a)
        × ((w : Tag) × (ts : List Tag) × WrittenBy run c v w (Readers ts))
    reply_sound t v e (at_once n c among) =
        let x : ReadBy run c t (Now v) = record { element = n; among = among } in
        (c, (Now v, x), answers_put c t v x)
    reply_sound t v e (by_fill n c w ts among there) =
        let y : WrittenBy run c v w (Readers ts) = record { element = n; among = among } in
        (c, (Deferred, put_off_by c v w t ts y there), (w, ts, y))

    -- ---- one answer for each read, where each key was handled once

    pub one_read : Few run → (c c' : Cell) (t : Tag) (a a' : ReadAnswer) (x : ReadBy run c t a) (y : ReadBy run c' t a')
        →
        Looked x.element c t a ≡ Looked y.element c' t a'
    one_read few c c' t a a' x y = one_event (ByFetch t) _ _ run (few (ByFetch t)) x.among y.among refl refl

    pub one_reply : Few run → (t : Tag) (v v' : Value) (e e' : Event) → Replies run t v e → Replies run t v' e' → e ≡ e'
    one_reply few t v v' e e' (at_once n c among) (at_once n' c' among') =
        one_read few c c' t (Now v) (Now v') (record { element = n; among = among })
        (record { element = n'; among = among' })
    one_reply few t v v' e e' (at_once n c among) (by_fill n' c' w ts among' there) =
        let z = put_off_by c' v' w t ts (record { element = n'; among = among' }) there in
        absurd (answers_not_defers
        (same_read (one_read few c c' t (Now v) Deferred (record { element = n; among = among }) z)).1)
    one_reply few t v v' e e' (by_fill n c w ts among there) (at_once n' c' among') =
        let z = put_off_by c v w t ts (record { element = n; among = among }) there in
        absurd (answers_not_defers
        (same_read (one_read few c' c t (Now v') Deferred (record { element = n'; among = among' }) z)).1)
    one_reply few t v v' e e' (by_fill n c w ts among there) (by_fill n' c' w' ts' among' there') =
        let y : WrittenBy run c v w (Readers ts) = record { element = n; among = among } in
        let y' : WrittenBy run c' v' w' (Readers ts') = record { element = n'; among = among' } in
        let k = (same_read
        (one_read few c c' t Deferred Deferred (put_off_by c v w t ts y there) (put_off_by c' v' w' t ts' y' there'))).0
        in
        let y'' : WrittenBy run c v' w' (Readers ts') = record {
          element = n';
          among = subst (λ d. Among (Wrote n' d v' w' (Readers ts')) run) (sym k) among';
        } in
        one_fill c v v' w w' ts ts' y y'' ∙ ap (λ d. Wrote n' d v' w' (Readers ts')) k
