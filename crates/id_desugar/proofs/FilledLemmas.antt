-- The lists of what constructs use, filled one after another, and those of imports in their place.
use Rattle.std.proofs.Common.{◌≡◌, ◌≢◌, inl, inr, ℕ, zero, suc, ◌+◌, ◌-◌, ◌<◌, Bool, true, false, List, [], ◌∷◌, ◌++◌}
use Rattle.std.proofs.Common.{Option, Some, None}
use Rattle.std.proofs.Common.{refl, ap, sym, ◌∙◌, subst, arith, length, length-append, get_or, replicate, slice_set}
use Rattle.std.specs.Prelude.{◌==◌, if◌then◌else◌, nat_lt, unwrap_or}
use Rattle.std.proofs.lemmas.Bool.{cases_lt, eqb-true, false≢true}
use Rattle.std.proofs.lemmas.Bool.Decides.{nat_tests}
use Rattle.std.proofs.lemmas.Grind.{common_steps}
use Rattle.std.proofs.lemmas.List.{ext_get_or, get_or-set_same, get_or-set_other, replicate_more}
use Rattle.id_table.specs.declared.row.Node.{Node}
use Rattle.id_table.specs.declared.row.Node.TheVariants.{Split, LoopHead, Switches}
use Rattle.id_table.specs.Rows.{at}
use Rattle.id_table.specs.Tables.{is_switches}
use Rattle.id_check.specs.declared.checked.Checked.{Checked}
use Rattle.id_check.specs.Programs.{rows}
use Rattle.id_desugar.specs.Ends.{end_of, end_row}
use Rattle.id_desugar.specs.Regions.{all_imports, bound_of, handed, imports, imports_below, imports_by, imports_of}
use Rattle.id_desugar.specs.Regions.{is_loop_head, nexts_of, taken, used}
use Rattle.id_desugar.specs.Gathering.{AreFilled, AreGathered, AreTurned, EndsNothing, IsInner, is_before, is_opening}
use Rattle.id_desugar.specs.Gathering.{may_import, used_in, uses_of}
use Rattle.id_desugar.proofs.EndsLemmas.{end_begins, end_behind}
use Rattle.id_desugar.proofs.NotesLemmas.{uses-are}
use Rattle.id_desugar.proofs.UsesLemmas.{imports-same}
use Rattle.id_desugar.proofs.OwnLemmas.{split_counts}

-- the list that stands for a row, where what begins there ends at this one, or has not ended
abbrev list_by : ℕ → List ℕ → Option ℕ → List ℕ
list_by n xs o = if is_before n o then xs else []

-- one more row ends nothing new
same_list : (n : ℕ) (xs : List ℕ) (o : Option ℕ) → (o ≡ Some n → xs ≡ []) → list_by n xs o ≡ list_by (n + 1) xs o
same_list n xs None f = refl
same_list n xs (Some e) f = at (e == n) refl
  where
    at : (t : Bool) → (e == n) ≡ t → (if nat_lt e n then xs else []) ≡ (if nat_lt e (n + 1) then xs else [])
    at true i =
        let none : xs ≡ [] = f (ap (λ z. Some z) (eqb-true e n i)) in
        either (nat_lt e n) none ∙ sym (either (nat_lt e (n + 1)) none)
      where
        either : (t : Bool) → xs ≡ [] → (if t then xs else []) ≡ []
        either true h = h
        either false h = refl
    at false i = ap (λ t. if t then xs else []) same
      where
        same : nat_lt e n ≡ nat_lt e (n + 1)
        same = grind (arith, nat_tests)

-- before the first row nothing has ended
pub AreFilled-none : (P : Checked) (L : List (List ℕ)) → length L ≡ length (rows P) → ((h : ℕ) → get_or L h [] ≡ [])
    → AreFilled P 0 L
AreFilled-none P L long none = record { many = long; each = λ h l. none h ∙ sym (by (uses_of P h) (end_row P h)) }
  where
    by : (xs : List ℕ) (o : Option ℕ) → list_by 0 xs o ≡ []
    by xs None = refl
    by xs (Some e) = ap (λ t. if t then xs else []) not_before
      where
        not_before : nat_lt e 0 ≡ false
        not_before = grind (arith, nat_tests)

-- nothing ends at the row n
pub AreFilled-same : (P : Checked) (n : ℕ) (L : List (List ℕ)) → AreFilled P n L → EndsNothing P n
    → AreFilled P (n + 1) L
AreFilled-same P n L f never = record {
  many = f.many;
  each = λ h l. f.each h l ∙ same_list n (uses_of P h) (end_row P h)
      (λ e. ap (λ t. if t then imports (used_in P None) (h + 1) (end_of P h) else []) (never h e));
}

-- the construct ends there that begins at the row s
pub AreFilled-set : (P : Checked) (n s : ℕ) (L : List (List ℕ)) (xs : List ℕ) → AreFilled P n L → s < length (rows P)
    → end_row P s ≡ Some n → is_opening (at (rows P) s).node ≡ true → xs ≡ imports (used_in P None) (s + 1) n
    → AreFilled P (n + 1) (slice_set L s xs)
AreFilled-set P n s L xs f less ends opening is = record { many = long ∙ f.many; each = λ h l. by h l (h == s) refl }
  where
    long : length (slice_set L s xs) ≡ length L
    long = grind (arith, common_steps)

    within : s < length L
    within = omega (arith, less, f.many)

    own : xs ≡ uses_of P s
    own = is ∙ sym (uses-are P s n ends opening)

    now : nat_lt n (n + 1) ≡ true
    now = grind (arith, nat_tests)

    one : (a b : ℕ) → Some a ≡ Some b → a ≡ b
    one a b e = cc

    other : (h : ℕ) → h ≢ s → end_row P h ≡ Some n → ⊥
    other h apart e = apart (one h s (sym (end_begins P h n e).1 ∙ (end_begins P s n ends).1))

    unlike : (h : ℕ) → (h == s) ≡ false → h ≢ s
    unlike h e same = grind (arith, nat_tests)

    by : (h : ℕ) → h < length (rows P) → (t : Bool) → (h == s) ≡ t
        → get_or (slice_set L s xs) h [] ≡ list_by (n + 1) (uses_of P h) (end_row P h)
    by h l true e =
        let same : h ≡ s = eqb-true h s e in
        ap (λ z. get_or (slice_set L s xs) z []) same ∙ get_or-set_same L s xs [] within ∙ own
        ∙ sym (ap (λ z. list_by (n + 1) (uses_of P z) (end_row P z)) same ∙ ap (list_by (n + 1) (uses_of P s)) ends
        ∙ ap (λ t. if t then uses_of P s else []) now)
    by h l false e =
        get_or-set_other L s h xs [] (unlike h e) ∙ f.each h l
        ∙ same_list n (uses_of P h) (end_row P h) (λ i. absurd (other h (unlike h e) i))

-- an inner construct begins at a row
inner_within : (P : Checked) (lo hi s e : ℕ) → IsInner P lo hi s e → s < length (rows P)
inner_within P lo hi s e n = let w = end_begins P s e n.ends in let l = end_behind P s e n.ends in omega (arith, w.0, l)

-- what has ended before is there
pub AreFilled-gathered : (P : Checked) (lo hi : ℕ) (L : List (List ℕ)) → AreFilled P hi L → AreGathered P lo hi L
AreFilled-gathered P lo hi L f = record {
  many = f.many;
  each = λ s e n. f.each s (inner_within P lo hi s e n) ∙ ap (list_by hi (uses_of P s)) n.ends
      ∙ ap (λ t. if t then uses_of P s else []) (less e n.high);
}
  where
    less : (e : ℕ) → e < hi → nat_lt e hi ≡ true
    less e h = grind (arith, nat_tests)

-- once all rows have ended, the lists are those of all uses
pub AreTurned-none : (P : Checked) (n : ℕ) (L : List (List ℕ)) → n ≡ length (rows P) → AreFilled P n L → AreTurned P 0 L
AreTurned-none P n L end f = record {
  many = f.many;
  imported = λ h l m. absurd (omega (arith, l));
  used = λ h l m. f.each h m ∙ by h (end_row P h) refl;
}
  where
    endless : (h : ℕ) → end_row P h ≡ None → (t : Bool)
        → (if t then imports (used_in P None) (h + 1) (end_of P h) else []) ≡ []
    endless h e true =
        let none : 0 - (h + 1) ≡ 0 = omega arith in
        ap (imports (used_in P None) (h + 1)) (ap (λ o. unwrap_or o 0) e)
        ∙ ap (imports_by (used_in P None) (h + 1) 0) none
    endless h e false = refl

    by : (h : ℕ) (o : Option ℕ) → end_row P h ≡ o → list_by n (uses_of P h) o ≡ uses_of P h
    by h None e = sym (endless h e (is_opening (at (rows P) h).node))
    by h (Some g) e = ap (λ t. if t then uses_of P h else []) (before (end_begins P h g e).0)
      where
        before : g < length (rows P) → nat_lt g n ≡ true
        before l = grind (arith, nat_tests)

-- those behind the row n are there still
pub AreTurned-gathered : (P : Checked) (n hi : ℕ) (L : List (List ℕ)) → AreTurned P n L → AreGathered P (n + 1) hi L
AreTurned-gathered P n hi L f =
    record { many = f.many; each = λ s e i. f.used s (omega (arith, i.low)) (inner_within P (n + 1) hi s e i) }

-- of a conditional all uses are imports
split_imports : (P : Checked) (s : ℕ) (n : Node) → (at (rows P) s).node ≡ n → is_loop_head n ≡ false
    → is_switches n ≡ false
    → handed P s n ≡ (if is_opening n then imports (used_in P None) (s + 1) (end_of P s) else [])
split_imports P s (Split t) is a b =
    imports-same (used P s) (used_in P None) (s + 1) (end_of P s) (end_of P s - (s + 1))
    (λ i l m. split_counts P s t i is)
split_imports P s (LoopHead t) is a b = cc
split_imports P s (Switches t) is a b = cc
split_imports P s _ is a b = refl

-- the switches of a loop hand on the bound of its index, its variables and its imports
pub switches_hand : (P : Checked) (w g : ℕ) → is_switches (at (rows P) w).node ≡ true → g ≡ (at (rows P) w).block
    → is_loop_head (at (rows P) g).node ≡ true → bound_of P g ++ (nexts_of P g ++ imports_of P g) ≡ imports_of P w
switches_hand P w g e is f =
    ap (λ z. bound_of P g ++ (nexts_of P g ++ z)) (head (at (rows P) g).node f)
    ∙ ap (λ z. bound_of P z ++ (nexts_of P z ++ taken P z)) is
    ∙ by (at (rows P) w).node e
  where
    head : (n : Node) → is_loop_head n ≡ true → handed P g n ≡ taken P g
    head (LoopHead s) h = refl
    head _ h = absurd (false≢true h)

    by : (n : Node) → is_switches n ≡ true
        → (let b = (at (rows P) w).block in bound_of P b ++ (nexts_of P b ++ taken P b)) ≡ handed P w n
    by (Switches t) h = refl
    by _ h = absurd (false≢true h)

-- a row that may import nothing has no imports
no_imports : (P : Checked) (h : ℕ) (n : Node) → may_import n ≡ false → handed P h n ≡ []
no_imports P h (Split t) e = cc
no_imports P h (LoopHead s) e = cc
no_imports P h (Switches t) e = cc
no_imports P h _ e = refl

-- one more of the rows that import nothing
pub imports_below-none : (P : Checked) (n : ℕ) → imports_below P n ≡ replicate n []
    → may_import (at (rows P) n).node ≡ false → imports_below P (n + 1) ≡ replicate (n + 1) []
imports_below-none P n rest e =
    let next : n + 1 ≡ suc n = omega arith in
    ap (imports_below P) next ∙ ap (λ z. z ++ imports_of P n ∷ []) rest
    ∙ ap (λ z. replicate n [] ++ z ∷ []) (no_imports P n (at (rows P) n).node e)
    ∙ replicate_more n []

-- what a loop's head imports
pub loop_imports : (P : Checked) (h s : ℕ) → (at (rows P) h).node ≡ LoopHead s → taken P h ≡ imports_of P h
loop_imports P h s is = sym (ap (handed P h) is)

-- one more row needs no turning
pub AreTurned-same : (P : Checked) (n : ℕ) (L : List (List ℕ)) → AreTurned P n L
    → is_loop_head (at (rows P) n).node ≡ false → is_switches (at (rows P) n).node ≡ false
    → AreTurned P (n + 1) L
AreTurned-same P n L f a b = record {
  many = f.many;
  imported = λ h l m. elim (cases_lt h n) [
    | inl i ↦ f.imported h i m
    | inr i ↦ let is : n ≡ h = omega (arith, i, l) in
        subst (λ z. get_or L z [] ≡ imports_of P z) is (f.used n (omega arith) (omega (arith, is, m))
        ∙ sym (split_imports P n (at (rows P) n).node refl a b))
  ];
  used = λ h l m. f.used h (omega (arith, l)) m;
}

-- or gets its imports
pub AreTurned-set : (P : Checked) (n : ℕ) (L : List (List ℕ)) (xs : List ℕ) → AreTurned P n L → n < length (rows P)
    → xs ≡ imports_of P n → AreTurned P (n + 1) (slice_set L n xs)
AreTurned-set P n L xs f less is = record {
  many = long ∙ f.many;
  imported = λ h l m. elim (cases_lt h n) [
    | inl i ↦ get_or-set_other L n h xs [] (λ e. omega (arith, e, i)) ∙ f.imported h i m
    | inr i ↦ let same : n ≡ h = omega (arith, i, l) in
        subst (λ z. get_or (slice_set L n xs) z [] ≡ imports_of P z) same
        (get_or-set_same L n xs [] (omega (arith, less, f.many)) ∙ is)
  ];
  used = λ h l m. get_or-set_other L n h xs [] (λ e. omega (arith, e, l)) ∙ f.used h (omega (arith, l)) m;
}
  where
    long : length (slice_set L n xs) ≡ length L
    long = grind (arith, common_steps)

length-imports_below : (P : Checked) (n : ℕ) → length (imports_below P n) ≡ n
length-imports_below P zero = refl
length-imports_below P (suc n) =
    let rest = length-imports_below P n in length-append (imports_below P n) (imports_of P n ∷ []) ∙ omega (arith, rest)

get_or-front : (xs : List (List ℕ)) (y : List ℕ) (i : ℕ) → i < length xs → get_or (xs ++ y ∷ []) i [] ≡ get_or xs i []
get_or-front [] y i l = absurd (omega arith)
get_or-front (x ∷ xs) y zero l = refl
get_or-front (x ∷ xs) y (suc i) l = get_or-front xs y i (omega (arith, l))

get_or-last : (xs : List (List ℕ)) (y : List ℕ) (i : ℕ) → i ≡ length xs → get_or (xs ++ y ∷ []) i [] ≡ y
get_or-last [] y i e = ap (λ z. get_or (y ∷ []) z []) e
get_or-last (x ∷ xs) y zero e = absurd (omega arith)
get_or-last (x ∷ xs) y (suc i) e = get_or-last xs y i (omega (arith, e))

-- the imports of a row stand at its number
pub imports_below-at : (P : Checked) (n h : ℕ) → h < n → get_or (imports_below P n) h [] ≡ imports_of P h
imports_below-at P zero h l = absurd (omega arith)
imports_below-at P (suc n) h l = elim (cases_lt h n) [
  | inl i ↦ get_or-front (imports_below P n) (imports_of P n) h (omega (arith, i, length-imports_below P n))
      ∙ imports_below-at P n h i
  | inr i ↦
      let is : h ≡ n = omega (arith, i, l) in
      get_or-last (imports_below P n) (imports_of P n) h (omega (arith, is, length-imports_below P n))
      ∙ ap (imports_of P) (sym is)
]

pub all_imports-at : (P : Checked) (h : ℕ) → h < length (rows P) → get_or (all_imports P) h [] ≡ imports_of P h
all_imports-at P h l = imports_below-at P (length (rows P)) h l

pub length-all_imports : (P : Checked) → length (all_imports P) ≡ length (rows P)
length-all_imports P = length-imports_below P (length (rows P))

-- once all rows have their imports, the lists are those
pub turned_all : (P : Checked) (n : ℕ) (L : List (List ℕ)) → n ≡ length (rows P) → AreTurned P n L → L ≡ all_imports P
turned_all P n L end f =
    ext_get_or [] L (all_imports P) (f.many ∙ sym (length-all_imports P)) (λ h l. (
    let low : h < length (rows P) = omega (arith, l, f.many) in
    f.imported h (omega (arith, low, end)) low ∙ sym (all_imports-at P h low)
    ))

-- one more empty list
pub none_more : (L : List (List ℕ)) → ((h : ℕ) → get_or L h [] ≡ []) → (h : ℕ) → get_or (L ++ [] ∷ []) h [] ≡ []
none_more [] none zero = refl
none_more [] none (suc h) = refl
none_more (xs ∷ L) none zero = none 0
none_more (xs ∷ L) none (suc h) = none_more L (λ i. none (suc i)) h
