-- The keys of the messages that an activation may have, by the rows of its block.
use Rattle.std.proofs.Common.{◌≡◌, ◌⊎◌, inl, inr, ℕ, zero, suc, ◌+◌, ◌<◌, Bool, true, false, Some, List, [], ◌∷◌, ◌++◌}
use Rattle.std.proofs.Common.{length, slice_get}
use Rattle.std.proofs.Common.{refl, sym, ◌∙◌, ap, subst, arith, length-append}
use Rattle.std.specs.Prelude.{flat_map, if◌then◌else◌, sum_by}
use Rattle.std.proofs.lemmas.Bool.{cases_eq}
use Rattle.std.proofs.lemmas.Bool.Decides.{nat_tests}
use Rattle.std.proofs.lemmas.List.Sums.{sum_by-cons}
use Rattle.id_value.specs.List.{Among}
use Rattle.id_value.proofs.AmongLemmas.{Among-left, Among-right}
use Rattle.id_table.specs.declared.row.Node.TheVariants.{Program}
use Rattle.id_check.specs.declared.checked.Checked.{Checked}
use Rattle.id_check.specs.Programs.{rows}
use Rattle.id_desugar.specs.Regions.{in_block, those}
use Rattle.id_build.specs.declared.arc.Form.{Form}
use Rattle.id_build.specs.declared.arc.Form.TheVariants.{Plain, EnterAt, SendTo, FetchAt}
use Rattle.id_build.specs.declared.arc.Piece.{Piece}
use Rattle.id_build.specs.Rows.{answer_row, block, made, node, op_by, piece}
use Rattle.id_build.specs.Schemas.{Makes}
use Rattle.id_build.proofs.EndsLemmas.{not_last}
use Rattle.id_runs.specs.Activations.{Activation}
use Rattle.id_runs.specs.Keys.{Key}
use Rattle.id_laws.proofs.Rows.Assumed.{IsKnown}
use Rattle.id_laws.specs.ByBlock.{messages_in_block, messages_in_row, messages_of}
use Rattle.id_laws.proofs.Bounding.DifferCounts.{Among-flat_map, length-flat_map}
use Rattle.id_laws.proofs.Bounding.Keys.{keys_for, keys_long}

-- sums of what is one number each time are one
pub sum_by_alike : {A : Type 0} (f h : A → ℕ) (xs : List A) → ((x : A) → f x ≡ h x) → sum_by f xs ≡ sum_by h xs
sum_by_alike f h [] same = refl
sum_by_alike f h (x ∷ xs) same = omega (arith, sum_by-cons f x xs, sum_by-cons h x xs, same x, sum_by_alike f h xs same)

-- what the test is true of is among those
those_among : (f : ℕ → Bool) (n i : ℕ) → i < n → f i ≡ true → Among i (those f n)
those_among f zero i less passes = absurd (omega arith)
those_among f (suc n) i less passes = by (cases_eq i n) (f n) refl (λ low. those_among f n i low passes)
  where
    there : (i ≡ n) ⊎ (i < n) → (b : Bool) → f n ≡ b → (i < n → Among i (those f n))
        → Among i (if b then those f n ++ n ∷ [] else those f n)
    there (inl is) true e rest = Among-right i (those f n) (n ∷ []) (inl is)
    there (inl is) false e rest = let bad : true ≡ false = sym passes ∙ ap f is ∙ e in cc
    there (inr low) true e rest = Among-left i (those f n) (n ∷ []) (rest low)
    there (inr low) false e rest = rest low

    by : (i ≡ n) ⊎ (i ≡ n → ⊥) → (b : Bool) → f n ≡ b → (i < n → Among i (those f n))
        → Among i (if f n then those f n ++ n ∷ [] else those f n)
    by (inl is) b e rest =
        subst (λ c. Among i (if c then those f n ++ n ∷ [] else those f n)) (sym e) (there (inl is) b e rest)
    by (inr other) b e rest =
        let low : i < n = omega arith in
        subst (λ c. Among i (if c then those f n ++ n ∷ [] else those f n)) (sym e) (there (inr low) b e rest)

module _ (number : ℕ → ℕ → ℕ) (a : Activation) where
  -- the operator's number does not tell how many there are
  form_long : (m : ℕ) (f : Form) → length (keys_for a m (op_by number f)) ≡ messages_of f
  form_long m (Plain o) = keys_long a m o
  form_long m (EnterAt h c) = refl
  form_long m (SendTo k n j) = refl
  form_long m (FetchAt nested n) = refl

  -- those of the parts of the row n from the k-th on
  abbrev parts_keys : ℕ → ℕ → List Piece → List Key
  parts_keys n k [] = []
  parts_keys n k (q ∷ qs) = keys_for a (number n k) (op_by number q.form) ++ parts_keys n (suc k) qs

  parts_long : (n k : ℕ) (qs : List Piece) → length (parts_keys n k qs) ≡ sum_by (λ (q : Piece). messages_of q.form) qs
  parts_long n k [] = refl
  parts_long n k (q ∷ qs) =
      omega (
        arith,
        length-append (keys_for a (number n k) (op_by number q.form)) (parts_keys n (suc k) qs),
        form_long (number n k) q.form,
        parts_long n (suc k) qs,
        sum_by-cons (λ (p : Piece). messages_of p.form) q qs,
      )

  part_among : (n k : ℕ) (qs : List Piece) (m : ℕ) (q : Piece) (key : Key) → slice_get qs m ≡ Some q
      → Among key (keys_for a (number n (m + k)) (op_by number q.form)) → Among key (parts_keys n k qs)
  part_among n k [] m q key at h = cc
  part_among n k (p ∷ qs) zero q key at h =
      let same : p ≡ q = cc in
      let start : 0 + k ≡ k = omega arith in
      Among-left key (keys_for a (number n k) (op_by number p.form)) (parts_keys n (suc k) qs)
      (subst (λ (z : ℕ × Piece). Among key (keys_for a (number n z.0) (op_by number z.1.form))) {x = (0 + k, q)} {y =
      (k, p)} (λ d. (start d, sym same d)) h)
  part_among n k (p ∷ qs) (suc m) q key at h =
      let next : suc m + k ≡ m + suc k = omega arith in
      Among-right key (keys_for a (number n k) (op_by number p.form)) (parts_keys n (suc k) qs)
      (part_among n (suc k) qs m q key at
      (subst (λ z. Among key (keys_for a (number n z) (op_by number q.form))) next h))

  module _ (P : Checked) where
    -- those of a row
    abbrev pub row_keys : ℕ → List Key
    row_keys n = parts_keys n 0 (made P n)

    -- and of the rows of the block with this head
    abbrev pub block_keys : ℕ → List Key
    block_keys h = flat_map row_keys (those (in_block P h) (answer_row P))

    pub block_long : (h : ℕ) → length (block_keys h) ≡ messages_in_block P h
    block_long h =
        length-flat_map row_keys (those (in_block P h) (answer_row P))
        ∙ sum_by_alike (λ n. length (row_keys n)) (messages_in_row P) (those (in_block P h) (answer_row P))
        (λ n. parts_long n 0 (made P n))

    -- a row stands in its block
    pub stands_in : (n h : ℕ) → block P n ≡ h → in_block P h n ≡ true
    stands_in n h e = grind (arith, nat_tests)

    pub row_long : (n : ℕ) → length (row_keys n) ≡ messages_in_row P n
    row_long n = parts_long n 0 (made P n)

    -- a key of a part of a row is among those of the row
    pub row_key : {n part e : ℕ} {f : Form} (key : Key) → Makes P n part f e
        → Among key (keys_for a (number n part) (op_by number f))
        → Among key (row_keys n)
    row_key {n} {part} {e} {f} key makes among =
        let start : part ≡ part + 0 = omega arith in
        part_among n 0 (made P n) part (piece f e) key makes.at
        (subst (λ z. Among key (keys_for a (number n z) (op_by number f))) start among)

    -- and of those of the row's block
    pub block_key : IsKnown P → {n part e : ℕ} {f : Form} (h : ℕ) (key : Key) → Makes P n part f e
        → (node P n ≡ Program → ⊥) → block P n ≡ h → Among key (keys_for a (number n part) (op_by number f))
        → Among key (block_keys h)
    block_key known {n} h key makes other stands among =
        let before : n + 1 < length (rows P) = not_last P known.table n makes.within other in
        Among-flat_map row_keys key n (those (in_block P h) (answer_row P))
        (those_among (in_block P h) (answer_row P) n (omega (arith, before)) (stands_in n h stands))
        (row_key key makes among)
