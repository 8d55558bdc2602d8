-- Lemmas on specs/AtOnce.antt: the numbers of the instructions that the rows of a program make are those of its graph,
-- each once, so that what is summed over the rows is what is summed over the graph.
use Rattle.std.proofs.Common.{◌≡◌, inl, inr, ℕ, zero, suc, ◌<◌, ◌≤◌, List, [], ◌∷◌, ◌++◌, length, map, Option, Some}
use Rattle.std.proofs.Common.{refl, sym, ap, subst, ◌∙◌, arith}
use Rattle.std.specs.Prelude.{slice_get, sum_by}
use Rattle.std.specs.Option.{option_map_or}
use Rattle.std.proofs.lemmas.List.Sums.{sum_by-append, sum_by-cons}
use Rattle.std.proofs.lemmas.Bool.{cases_lt}
use Rattle.std.proofs.lemmas.Option.{slice_get_within}
use Rattle.id_value.specs.List.{AllDiffer, Among}
use Rattle.id_value.proofs.AmongLemmas.{Among-either, Among-from_map, Among-left, Among-map, Among-right}
use Rattle.id_value.proofs.DifferLemmas.{AllDiffer-append}
use Rattle.id_check.specs.declared.checked.Checked.{Checked}
use Rattle.id_check.specs.Programs.{rows}
use Rattle.id_instr.specs.Graph.{Parts}
use Rattle.id_instr.specs.declared.instr.Instr.{Instr}
use Rattle.id_build.specs.Rows.{made, op_by, piece}
use Rattle.id_build.specs.Schemas.{Numbered, Schemas}
use Rattle.id_build.specs.declared.arc.Form.{Form}
use Rattle.id_build.specs.declared.arc.Form.TheVariants.{EnterAt, FetchAt, Plain, SendTo}
use Rattle.id_build.specs.declared.arc.Piece.{Piece}
use Rattle.id_laws.specs.Bounded.{messages_at_once, messages_for}
use Rattle.id_laws.specs.ByBlock.{messages_in_row, messages_of}
use Rattle.id_promises.specs.AtOnce.{messages_below, messages_of_program}

-- ---- sums of what differs

split : {A : Type 0} (x : A) (ys : List A) → Among x ys → (front : List A) × (rest : List A) × (ys ≡ front ++ x ∷ rest)
split x [] h = absurd h
split x (y ∷ ys) (inl e) = ([], ys, ap (λ z. z ∷ ys) (sym e))
split x (y ∷ ys) (inr h) = let r = split x ys h in (y ∷ r.0, r.1, ap (λ zs. y ∷ zs) r.2)

-- where all differ, their sum is no more than that of a list that has each of them
sum_few : {A : Type 0} (f : A → ℕ) (xs ys : List A) → AllDiffer xs → ((x : A) → Among x xs → Among x ys)
    → sum_by f xs ≤ sum_by f ys
sum_few f [] ys d each = omega arith
sum_few {A = A} f (x ∷ xs) ys d each =
    let s = split x ys (each x (inl refl)) in
    let rest =
    sum_few f xs (s.0 ++ s.1) d.1
    (λ y h. keep s.0 s.1 y h (subst (λ (zs : List A). Among y zs) s.2 (each y (inr h)))) in
    omega (
      arith,
      rest,
      sum_by-cons f x xs,
      ap (sum_by f) s.2,
      sum_by-append f s.0 (x ∷ s.1),
      sum_by-cons f x s.1,
      sum_by-append f s.0 s.1,
    )
  where
    keep : (front rest : List A) (y : A) → Among y xs → Among y (front ++ x ∷ rest) → Among y (front ++ rest)
    keep front rest y h k = elim (Among-either y front (x ∷ rest) k) [
      | inl l ↦ Among-left y front rest l
      | inr (inl e) ↦ absurd (d.0 (subst (λ z. Among z xs) e h))
      | inr (inr l) ↦ Among-right y front rest l
    ]

-- ---- the numbers of a list's items

numbers : {A : Type 0} → List A → List ℕ
numbers [] = []
numbers (x ∷ xs) = 0 ∷ map suc (numbers xs)

sum_by_map : {A B : Type 0} (f : B → ℕ) (h : A → B) (xs : List A) → sum_by f (map h xs) ≡ sum_by (λ x. f (h x)) xs
sum_by_map f h [] = refl
sum_by_map f h (x ∷ xs) =
    omega (arith, sum_by-cons f (h x) (map h xs), sum_by-cons (λ z. f (h z)) x xs, sum_by_map f h xs)

-- what is said of each item is summed over the items
sum_numbers : {A : Type 0} (f : ℕ → ℕ) (w : A → ℕ) (xs : List A)
    → ((k : ℕ) (x : A) → slice_get xs k ≡ Some x → f k ≡ w x) → sum_by f (numbers xs) ≡ sum_by w xs
unfolding numbers
sum_numbers f w [] each = refl
sum_numbers f w (x ∷ xs) each =
    let rest = sum_numbers (λ k. f (suc k)) w xs (λ k y e. each (suc k) y e) in
    omega (
      arith,
      sum_by-cons f 0 (map suc (numbers xs)),
      sum_by_map f suc (numbers xs),
      rest,
      sum_by-cons w x xs,
      each 0 x refl,
    )

numbers_all : {A : Type 0} (xs : List A) (k : ℕ) → k < length xs → Among k (numbers xs)
unfolding numbers
numbers_all [] k l = absurd (omega (arith, l))
numbers_all (x ∷ xs) zero l = inl refl
numbers_all (x ∷ xs) (suc k) l = inr (Among-map suc k (numbers xs) (numbers_all xs k (omega (arith, l))))

numbers_only : {A : Type 0} (xs : List A) (k : ℕ) → Among k (numbers xs) → (x : A) × (slice_get xs k ≡ Some x)
unfolding numbers
numbers_only [] k h = absurd h
numbers_only {A = A} (x ∷ xs) k (inl e) = (x, subst (λ j. slice_get (x ∷ xs) j ≡ Some x) (sym e) refl)
numbers_only {A = A} (x ∷ xs) k (inr h) =
    let y = Among-from_map suc k (numbers xs) h in
    let z = numbers_only xs y.0 y.1 in
    (z.0, subst (λ j. slice_get (x ∷ xs) j ≡ Some z.0) (sym y.2) z.1)

-- images differ where no two things have one
pub differ_map : {A B : Type 0} (f : A → B) (xs : List A) → AllDiffer xs
    → ((x y : A) → Among x xs → Among y xs → f x ≡ f y → x ≡ y) → AllDiffer (map f xs)
differ_map f [] d one = tt
differ_map f (x ∷ xs) d one = (
  λ h.
      let y = Among-from_map f (f x) xs h in
      d.0 (subst (λ z. Among z xs) (sym (one x y.0 (inl refl) (inr y.1) y.2)) y.1),
  differ_map f xs d.1 (λ y z a b. one y z (inr a) (inr b)),
)

numbers_differ : {A : Type 0} (xs : List A) → AllDiffer (numbers xs)
unfolding numbers
numbers_differ [] = tt
numbers_differ (x ∷ xs) = (
  λ h. let y = Among-from_map suc 0 (numbers xs) h in omega (arith, y.2),
  differ_map suc (numbers xs) (numbers_differ xs) (λ a b h k e. omega (arith, e)),
)

-- ---- the graph and the rows

-- how many messages an instruction may have does not hang on numbers
form_for : (number : ℕ → ℕ → ℕ) (f : Form) → messages_for (op_by number f) ≡ messages_of f
form_for number (Plain o) = refl
form_for number (EnterAt h c) = refl
form_for number (SendTo k n j) = refl
form_for number (FetchAt nested n) = refl

module _ (P : Checked) (g : Parts) (number : ℕ → ℕ → ℕ) (ok : Numbered P g number) where
  abbrev weight : Instr → ℕ
  weight i = messages_for i.op

  weight_at : ℕ → ℕ
  weight_at m = option_map_or weight (slice_get g.instrs m) 0

  weight_is : (m : ℕ) (i : Instr) → slice_get g.instrs m ≡ Some i → weight_at m ≡ weight i
  unfolding weight_at
  weight_is m i e = ap (λ (o : Option Instr). option_map_or weight o 0) e

  -- the numbers of a row's parts, and those of the first rows
  of_row : ℕ → List ℕ
  of_row n = map (number n) (numbers (made P n))

  of_rows : ℕ → List ℕ
  of_rows zero = []
  of_rows (suc n) = of_rows n ++ of_row n

  -- a number of a row is that of one of its parts
  record IsOfRow (n m : ℕ) : Type 0 where
    part : ℕ
    made_piece : Piece
    at : slice_get (made P n) part ≡ Some made_piece
    is : m ≡ number n part

  of_row_only : (n m : ℕ) → Among m (of_row n) → IsOfRow n m
  unfolding of_row
  of_row_only n m h =
      let y = Among-from_map (number n) m (numbers (made P n)) h in
      let z = numbers_only (made P n) y.0 y.1 in
      record { part = y.0; made_piece = z.0; at = z.1; is = y.2 }

  of_rows_only : (n m : ℕ) → Among m (of_rows n) → (j : ℕ) × (j < n) × IsOfRow j m
  unfolding of_rows
  of_rows_only zero m h = absurd h
  of_rows_only (suc n) m h = elim (Among-either m (of_rows n) (of_row n) h) [
    | inl k ↦ let y = of_rows_only n m k in (y.0, omega (arith, y.1), y.2)
    | inr k ↦ (n, omega arith, of_row_only n m k)
  ]

  of_rows_all : (n j k : ℕ) (q : Piece) → j < n → slice_get (made P j) k ≡ Some q → Among (number j k) (of_rows n)
  unfolding of_rows of_row
  of_rows_all zero j k q l e = absurd (omega (arith, l))
  of_rows_all (suc n) j k q l e = elim (cases_lt j n) [
    | inl less ↦ Among-left (number j k) (of_rows n) (of_row n) (of_rows_all n j k q less e)
    | inr more ↦
        let same : j ≡ n = omega (arith, l, more) in
        let here : Among (number j k) (of_row j) =
        Among-map (number j) k (numbers (made P j)) (numbers_all (made P j) k (slice_get_within (made P j) k q e)) in
        Among-right (number j k) (of_rows n) (of_row n) (subst (λ i. Among (number j k) (of_row i)) same here)
  ]

  -- two parts with one number are one
  one_part : (n k j i : ℕ) (q r : Piece) → n < length (rows P) → j < length (rows P) → slice_get (made P n) k ≡ Some q
      → slice_get (made P j) i ≡ Some r → number n k ≡ number j i → (n ≡ j) × (k ≡ i)
  one_part n k j i q r l m a b e =
      ok.apart n k j i q.form r.form q.place r.place (record { within = l; at = a }) (record { within = m; at = b }) e

  of_row_differ : (n : ℕ) → n < length (rows P) → AllDiffer (of_row n)
  unfolding of_row
  of_row_differ n l =
      differ_map (number n) (numbers (made P n)) (numbers_differ (made P n))
      (λ k i a b e.
      let x = numbers_only (made P n) k a in
      let y = numbers_only (made P n) i b in
      (one_part n k n i x.0 y.0 l l x.1 y.1 e).1)

  of_rows_differ : (n : ℕ) → n ≤ length (rows P) → AllDiffer (of_rows n)
  unfolding of_rows
  of_rows_differ zero l = tt
  of_rows_differ (suc n) l =
      AllDiffer-append (of_rows n) (of_row n) (of_rows_differ n (omega (arith, l))) (of_row_differ n (omega (arith, l)))
      (λ m a b.
      let x = of_rows_only n m a in
      let y = of_row_only n m b in
      let z = x.2 in
      let one =
      one_part x.0 z.part n y.part z.made_piece y.made_piece (omega (arith, x.1, l)) (omega (arith, l)) z.at y.at
      (sym z.is ∙ y.is) in
      omega (arith, x.1, one.0))

  -- the messages of a row's instructions
  sum_row : (n : ℕ) → n < length (rows P) → sum_by weight_at (of_row n) ≡ messages_in_row P n
  unfolding of_row
  sum_row n l =
      sum_by_map weight_at (number n) (numbers (made P n))
      ∙ sum_numbers (λ k. weight_at (number n k)) (λ (q : Piece). messages_of q.form) (made P n)
      (λ k q e.
      let there = ok.made n k q.form q.place (record { within = l; at = e }) in
      weight_is (number n k) there.instr there.at ∙ (ap messages_for there.op ∙ form_for number q.form))

  sum_rows : (n : ℕ) → n ≤ length (rows P) → sum_by weight_at (of_rows n) ≡ messages_below P n
  unfolding of_rows
  sum_rows zero l = refl
  sum_rows (suc n) l =
      omega (
        arith,
        sum_by-append weight_at (of_rows n) (of_row n),
        sum_rows n (omega (arith, l)),
        sum_row n (omega (arith, l)),
      )

  sum_graph : sum_by weight_at (numbers g.instrs) ≡ messages_at_once g
  sum_graph = sum_numbers weight_at weight g.instrs (λ k i e. weight_is k i e)

  -- each number of the rows is one of the graph, and the other way round
  in_graph : (m : ℕ) → Among m (of_rows (length (rows P))) → Among m (numbers g.instrs)
  in_graph m h =
      let x = of_rows_only (length (rows P)) m h in
      let z = x.2 in
      let there = ok.made x.0 z.part (z.made_piece).form (z.made_piece).place (record { within = x.1; at = z.at }) in
      subst (λ j. Among j (numbers g.instrs)) (sym z.is)
      (numbers_all g.instrs (number x.0 z.part) (slice_get_within g.instrs (number x.0 z.part) there.instr there.at))

  in_rows : (m : ℕ) → Among m (numbers g.instrs) → Among m (of_rows (length (rows P)))
  in_rows m h =
      let i = numbers_only g.instrs m h in
      let x = ok.only m i.0 i.1 in
      subst (λ j. Among j (of_rows (length (rows P)))) x.is
      (of_rows_all (length (rows P)) x.row x.part (piece x.form x.place) (x.makes).within (x.makes).at)

  pub one_number : messages_at_once g ≡ messages_of_program P
  one_number =
      let R = length (rows P) in
      omega (
        arith,
        sum_graph,
        sum_rows R (omega arith),
        sum_few weight_at (of_rows R) (numbers g.instrs) (of_rows_differ R (omega arith)) in_graph,
        sum_few weight_at (numbers g.instrs) (of_rows R) (numbers_differ g.instrs) in_rows,
      )

-- all graphs that the schemas give a program may have as many messages at once
pub at_once : (P : Checked) (g : Parts) → Schemas P g → messages_at_once g ≡ messages_of_program P
at_once P g s = one_number P g s.number s.numbered
