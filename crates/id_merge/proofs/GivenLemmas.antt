-- What merged logs give (specs/Merging.antt, specs/Heads.antt).
use Rattle.std.proofs.Common.{◌≡◌, ◌∙◌, ◌≤◌, ◌<◌, ◌+◌, ◌-◌, ◌⊎◌, ℕ, Bool, true, false, suc, zero, List, [], ◌∷◌, ◌++◌, length, map, set, Option, Some, None, option_map, refl, sym, ap, subst, arith, inl, inr}
use Rattle.std.specs.Prelude.{slice_get, get_or, drop, take, if◌then◌else◌}
use Rattle.std.specs.List.{All}
use Rattle.std.proofs.lemmas.List.{length-append, map-set}
use Rattle.std.proofs.lemmas.List.Elements.{All-head, All-tail}
use Rattle.std.proofs.lemmas.Option.{get_or_from_slice_get, slice_get-map}
use Rattle.id_log.specs.Logs.{Ahead, End, Gives, IsLost, IsOver, MayEnd}
use Rattle.id_log.specs.declared.log.LogFault.{LogFault}
use Rattle.id_log.specs.Logs.End.{ends, fails, may_fail}
use Rattle.id_merge.specs.Lines.{line_length, rank}
use Rattle.id_merge.specs.Heads.{IsStill, IsWithin, are_enough, behind, told_behind}
use Rattle.id_merge.specs.Merging.{all_known, end_with, first_least, inside, least_from, merged_ahead, merged_end, merged_logs, merged_text, or_else, source, text_at, total}
use Rattle.id_merge.proofs.KnownLemmas.{IsLost-merged, all_known-each, all_known-set, known_at, merged_end-set, none_some, some_is, still_all, still_merged}
use Rattle.id_merge.proofs.LinesLemmas.{line_longer, rank_enough}
use Rattle.id_merge.proofs.MergingLemmas.{least_over, merged_none, merged_piece}

abbrev told : {X : Type 0} → (X → Option Ahead) → (X → List ℕ) → (X → Bool) → X → Option Ahead
told ahead rest over x = told_behind (ahead x) (rest x) (over x)

abbrev knows : {X : Type 0} → (X → Option Ahead) → (X → List ℕ) → (X → Bool) → List X → List Ahead → Type 0
knows ahead rest over xs ls = map (told ahead rest over) xs ≡ map (λ a. Some a) ls

abbrev bytes_of : List Ahead → List (List ℕ)
bytes_of ls = map (λ a. a.bytes) ls

abbrev more_of : Bool → Ahead → List ℕ
more_of over b = if over then [] else b.bytes

-- what is known of a log that has bytes that were read
told_is : (o : Option Ahead) (bytes : List ℕ) (over : Bool) (a : Ahead) → told_behind o bytes over ≡ Some a
    → (b : Ahead) × (o ≡ Some b) × (a ≡ behind bytes over b)
told_is None bytes over a is = absurd (none_some is)
told_is (Some b) bytes over a is = (b, refl, sym (some_is is))

knows_head : {X : Type 0} (ahead : X → Option Ahead) (rest : X → List ℕ) (over : X → Bool) (x : X) (xs : List X) (a : Ahead) (ls : List Ahead)
    → knows ahead rest over (x ∷ xs) (a ∷ ls) → told ahead rest over x ≡ Some a
knows_head ahead rest over x xs a ls h = ap (λ l. get_or l 0 None) h

knows_tail : {X : Type 0} (ahead : X → Option Ahead) (rest : X → List ℕ) (over : X → Bool) (x : X) (xs : List X) (a : Ahead) (ls : List Ahead)
    → knows ahead rest over (x ∷ xs) (a ∷ ls) → knows ahead rest over xs ls
knows_tail ahead rest over x xs a ls h = ap (drop 1) h

-- ranks of what was read are those of all
ranks_known : {X : Type 0} (ahead : X → Option Ahead) (rest : X → List ℕ) (over : X → Bool) (xs : List X) (ls : List Ahead)
    → knows ahead rest over xs ls → All (λ x. are_enough (rest x) (over x) ≡ true) xs → map rank (bytes_of ls) ≡ map rank (map rest xs)
ranks_known ahead rest over [] [] h all = refl
ranks_known ahead rest over [] (a ∷ ls) h all = absurd cc
ranks_known ahead rest over (x ∷ xs) [] h all = absurd cc
ranks_known ahead rest over (x ∷ xs) (a ∷ ls) h all =
    let one = told_is (ahead x) (rest x) (over x) a (knows_head ahead rest over x xs a ls h) in
    let here : rank a.bytes ≡ rank (rest x) =
    ap (λ (y : Ahead). rank y.bytes) one.2 ∙ rank_enough (rest x) one.0.bytes (over x) (All-head (λ x. are_enough (rest x) (over x) ≡ true) x xs all) in
    ap (λ r. r ∷ map rank (bytes_of ls)) here
    ∙ ap (λ rs. rank (rest x) ∷ rs) (ranks_known ahead rest over xs ls (knows_tail ahead rest over x xs a ls h)
    (All-tail (λ x. are_enough (rest x) (over x) ≡ true) x xs all))

-- a log of which no bytes were read is over where they are enough
ended : (bytes : List ℕ) (over : Bool) (b : Ahead) → are_enough bytes over ≡ true → bytes ≡ [] → more_of over b ≡ []
ended bytes true b enough none = refl
ended bytes false b enough none = let no : are_enough [] false ≡ true = ap (λ t. are_enough t false) (sym none) ∙ enough in cc

-- the text at a place goes on behind what was read of it, and not where that is enough and has no bytes
text_known : {X : Type 0} (ahead : X → Option Ahead) (rest : X → List ℕ) (over : X → Bool) (xs : List X) (ls : List Ahead) (i : ℕ)
    → knows ahead rest over xs ls
    → (more : List ℕ) × (text_at (bytes_of ls) i ≡ text_at (map rest xs) i ++ more)
    × (All (λ x. are_enough (rest x) (over x) ≡ true) xs → text_at (map rest xs) i ≡ [] → more ≡ [])
text_known ahead rest over [] [] i h = ([], refl, λ all none. refl)
text_known ahead rest over [] (a ∷ ls) i h = absurd cc
text_known ahead rest over (x ∷ xs) [] i h = absurd cc
text_known ahead rest over (x ∷ xs) (a ∷ ls) zero h =
    let one = told_is (ahead x) (rest x) (over x) a (knows_head ahead rest over x xs a ls h) in (
      more_of (over x) one.0,
      ap (λ (y : Ahead). y.bytes) one.2,
      λ all none. ended (rest x) (over x) one.0 (All-head (λ x. are_enough (rest x) (over x) ≡ true) x xs all) none,
    )
text_known ahead rest over (x ∷ xs) (a ∷ ls) (suc i) h =
    let on = text_known ahead rest over xs ls i (knows_tail ahead rest over x xs a ls h) in
    (on.0, on.1, λ all none. on.2 (All-tail (λ x. are_enough (rest x) (over x) ≡ true) x xs all) none)

or_else_known : (i : ℕ) (text bytes more : List ℕ) (a b : ℕ) → text ≡ bytes ++ more → (bytes ≡ [] → (more ≡ []) × (a ≡ b)) → or_else i text a ≡ or_else i bytes b
or_else_known i text [] more a b is none =
    let end = none refl in
    ap (λ t. or_else i t a) (is ∙ end.0) ∙ end.1
or_else_known i text (c ∷ bytes) more a b is none = ap (λ t. or_else i t a) is

-- the source is that of what was read
source_known : {X : Type 0} (ahead : X → Option Ahead) (rest : X → List ℕ) (over : X → Bool) (at : Option ℕ) (xs : List X) (ls : List Ahead)
    → knows ahead rest over xs ls → IsWithin at (map rest xs) ⊎ All (λ x. are_enough (rest x) (over x) ≡ true) xs
    → source at (bytes_of ls) ≡ source at (map rest xs)
source_known ahead rest over None xs ls h (inl within) = absurd within
source_known ahead rest over None xs ls h (inr all) =
    ap (least_from 0 0 79228162514264337593543950338) (ranks_known ahead rest over xs ls h all)
source_known ahead rest over (Some i) xs ls h (inl within) =
    let text = text_known ahead rest over xs ls i h in
    or_else_known i (text_at (bytes_of ls) i) (text_at (map rest xs) i) text.0 _ _ text.1
    (λ none. absurd (omega (arith, within, ap length none)))
source_known ahead rest over (Some i) xs ls h (inr all) =
    let text = text_known ahead rest over xs ls i h in
    or_else_known i (text_at (bytes_of ls) i) (text_at (map rest xs) i) text.0 _ _ text.1
    (λ none. (text.2 all none, ap (least_from 0 0 79228162514264337593543950338) (ranks_known ahead rest over xs ls h all)))

-- ---- bytes that are given

take_front : (n : ℕ) (xs ys : List ℕ) → n ≤ length xs → take n (xs ++ ys) ≡ take n xs
take_front zero xs ys h = refl
take_front (suc n) [] ys h = absurd (omega (arith, h))
take_front (suc n) (x ∷ xs) ys h = ap (λ t. x ∷ t) (take_front n xs ys (omega (arith, h)))

drop_front : (n : ℕ) (xs ys : List ℕ) → n ≤ length xs → drop n (xs ++ ys) ≡ drop n xs ++ ys
drop_front zero xs ys h = refl
drop_front (suc n) [] ys h = absurd (omega (arith, h))
drop_front (suc n) (x ∷ xs) ys h = drop_front n xs ys (omega (arith, h))

get_front : (n : ℕ) (xs ys : List ℕ) → n < length xs → get_or (xs ++ ys) n 0 ≡ get_or xs n 0
get_front n [] ys h = absurd (omega (arith, h))
get_front zero (x ∷ xs) ys h = refl
get_front (suc n) (x ∷ xs) ys h = get_front n xs ys (omega (arith, h))

text_at-get : {X : Type 0} (rest : X → List ℕ) (xs : List X) (i : ℕ) (x : X) → slice_get xs i ≡ Some x → text_at (map rest xs) i ≡ rest x
text_at-get rest xs i x at = get_or_from_slice_get (map rest xs) i (rest x) [] (slice_get-map rest xs i ∙ ap (option_map rest) at)

-- bytes of the line of the source are given on, of what was read of it
pub given : {X : Type 0} (ahead : X → Option Ahead) (rest : X → List ℕ) (over : X → Bool) (at : Option ℕ) (xs : List X) (i n b : ℕ) (x y : X)
    → slice_get xs i ≡ Some x → i ≡ source at (map rest xs)
    → IsWithin at (map rest xs) ⊎ All (λ x. are_enough (rest x) (over x) ≡ true) xs
    → n < length (rest x) → n ≤ line_length (rest x) → ahead y ≡ ahead x → over y ≡ over x → rest y ≡ drop (suc n) (rest x) → b ≡ get_or (rest x) n 0
    → Gives (merged_ahead at (map (told ahead rest over) xs)) (merged_ahead (inside i b) (map (told ahead rest over) (set xs i y))) (take (suc n) (rest x))
given ahead rest over at xs i n b x y here is ready within line same_ahead same_over left last = by (all_known (map (told ahead rest over) xs)) refl
  where
    here_told : slice_get (map (told ahead rest over) xs) i ≡ Some (told ahead rest over x)
    here_told = slice_get-map (told ahead rest over) xs i ∙ ap (option_map (told ahead rest over)) here

    known : (ls : List Ahead) → all_known (map (told ahead rest over) xs) ≡ Some ls
        → Gives (Some (merged_logs at ls)) (merged_ahead (inside i b) (map (told ahead rest over) (set xs i y))) (take (suc n) (rest x))
    known ls all =
        let h = all_known-each (map (told ahead rest over) xs) ls all in
        let one = known_at (map (told ahead rest over) xs) ls i (told ahead rest over x) h here_told in
        let old = told_is (ahead x) (rest x) (over x) one.0 one.1 in
        let more = more_of (over x) old.0 in
        let new : Ahead = behind (rest y) (over y) old.0 in
        let new_told : told ahead rest over y ≡ Some new = ap (λ o. told_behind o (rest y) (over y)) (same_ahead ∙ old.1) in
        let all_new : all_known (map (told ahead rest over) (set xs i y)) ≡ Some (set ls i new) =
        ap all_known (map-set (told ahead rest over) xs i y ∙ ap (λ o. set (map (told ahead rest over) xs) i o) new_told)
        ∙ all_known-set (map (told ahead rest over) xs) ls i new all in
        let text : text_at (bytes_of ls) i ≡ rest x ++ more =
        get_or_from_slice_get (bytes_of ls) i one.0.bytes [] (slice_get-map (λ (a : Ahead). a.bytes) ls i ∙ ap (option_map (λ (a : Ahead). a.bytes)) one.2)
        ∙ ap (λ (a : Ahead). a.bytes) old.2 in
        let many = length-append (rest x) more in
        let longer = line_longer (rest x) more in
        let piece = merged_piece n at (bytes_of ls) i (rest x ++ more) (source_known ahead rest over at xs ls h ready ∙ sym is) text
        (omega (arith, many, within)) (omega (arith, longer, line)) in
        let rest_is : drop (suc n) (rest x ++ more) ≡ new.bytes =
        drop_front (suc n) (rest x) more (omega (arith, within)) ∙ ap (λ t. t ++ more) (sym left)
        ∙ ap (λ o. rest y ++ more_of o old.0) (sym same_over) in
        let bytes : merged_text at (bytes_of ls) ≡ take (suc n) (rest x) ++ merged_text (inside i b) (bytes_of (set ls i new)) =
        piece ∙ ap (λ t. t ++ merged_text (inside i (get_or (rest x ++ more) n 0)) (set (bytes_of ls) i (drop (suc n) (rest x ++ more))))
        (take_front (suc n) (rest x) more (omega (arith, within)))
        ∙ ap (λ c. take (suc n) (rest x) ++ merged_text (inside i c) (set (bytes_of ls) i (drop (suc n) (rest x ++ more))))
        (get_front n (rest x) more within ∙ sym last)
        ∙ ap (λ t. take (suc n) (rest x) ++ merged_text (inside i b) (set (bytes_of ls) i t)) rest_is
        ∙ ap (λ us. take (suc n) (rest x) ++ merged_text (inside i b) us) (sym (map-set (λ (a : Ahead). a.bytes) ls i new)) in
        let end : merged_end (set ls i new) ≡ merged_end ls =
        merged_end-set ls i one.0 new one.2 (ap (λ (a : Ahead). a.end) (sym old.2)) in
        subst (λ k. Gives (Some (merged_logs at ls)) (option_map (merged_logs (inside i b)) k) (take (suc n) (rest x))) (sym all_new) (bytes, end)

    by : (k : Option (List Ahead)) → all_known (map (told ahead rest over) xs) ≡ k
        → Gives (option_map (merged_logs at) k) (merged_ahead (inside i b) (map (told ahead rest over) (set xs i y))) (take (suc n) (rest x))
    by None all = tt
    by (Some ls) all = known ls all

-- ---- the end

end_with_may : (e rest : End) → MayEnd rest → MayEnd (end_with e rest)
end_with_may ends rest h = h
end_with_may (fails fault) rest h = tt
end_with_may may_fail rest h = tt

-- merged bytes may be all that there are
may_end : (ls : List Ahead) → MayEnd (merged_end ls)
may_end [] = tt
may_end (a ∷ ls) = end_with_may a.end (merged_end ls) (may_end ls)

-- logs have no bytes of which none were read that are enough
none_left : {X : Type 0} (ahead : X → Option Ahead) (rest : X → List ℕ) (over : X → Bool) (xs : List X) (ls : List Ahead)
    → knows ahead rest over xs ls → All (λ x. are_enough (rest x) (over x) ≡ true) xs → All (λ t. t ≡ []) (map rest xs) → total (bytes_of ls) ≡ 0
none_left ahead rest over [] [] h all none = refl
none_left ahead rest over [] (a ∷ ls) h all none = absurd cc
none_left ahead rest over (x ∷ xs) [] h all none = absurd cc
none_left ahead rest over (x ∷ xs) (a ∷ ls) h all none =
    let one = told_is (ahead x) (rest x) (over x) a (knows_head ahead rest over x xs a ls h) in
    let empty : rest x ≡ [] = All-head (λ t. t ≡ []) (rest x) (map rest xs) none in
    let over_so = ended (rest x) (over x) one.0 (All-head (λ x. are_enough (rest x) (over x) ≡ true) x xs all) empty in
    let text : a.bytes ≡ [] = ap (λ (y : Ahead). y.bytes) one.2 ∙ ap (λ t. t ++ more_of (over x) one.0) empty ∙ over_so in
    let many : length a.bytes ≡ 0 = ap length text in
    let on = none_left ahead rest over xs ls (knows_tail ahead rest over x xs a ls h) (All-tail (λ x. are_enough (rest x) (over x) ≡ true) x xs all)
    (All-tail (λ t. t ≡ []) (rest x) (map rest xs) none) in
    omega (arith, many, on)

-- what the source is in a line, and else
source_some : (i : ℕ) (text : List ℕ) (other : ℕ) → 0 < length text → or_else i text other ≡ i
source_some i [] other h = absurd (omega (arith, h))
source_some i (b ∷ bs) other h = refl

-- texts of which the source has no bytes have none, unless it is in a line
texts_over : (at : Option ℕ) (ts : List (List ℕ)) → text_at ts (source at ts) ≡ [] → (IsWithin at ts → ⊥) × All (λ t. t ≡ []) ts
texts_over None ts empty = (λ h. absurd h, least_over ts empty)
texts_over (Some i) ts empty = by (text_at ts i) refl
  where
    by : (text : List ℕ) → text_at ts i ≡ text → (IsWithin (Some i) ts → ⊥) × All (λ t. t ≡ []) ts
    by [] is = (
      λ h. omega (arith, h, ap length is),
      least_over ts (ap (λ t. text_at ts (or_else i t (first_least ts))) (sym is) ∙ empty),
    )
    by (b ∷ bs) is =
        let none : b ∷ bs ≡ [] = sym is ∙ ap (λ t. text_at ts (or_else i t (first_least ts))) (sym is) ∙ empty in
        absurd cc

-- where the source has no bytes that were read all logs are over
pub over_known : {X : Type 0} (ahead : X → Option Ahead) (rest : X → List ℕ) (over : X → Bool) (at : Option ℕ) (xs : List X)
    → IsWithin at (map rest xs) ⊎ All (λ x. are_enough (rest x) (over x) ≡ true) xs → text_at (map rest xs) (source at (map rest xs)) ≡ []
    → IsOver (merged_ahead at (map (told ahead rest over) xs))
over_known ahead rest over at xs (inl within) empty = absurd ((texts_over at (map rest xs) empty).0 within)
over_known ahead rest over at xs (inr all) empty = by (all_known (map (told ahead rest over) xs)) refl
  where
    by : (k : Option (List Ahead)) → all_known (map (told ahead rest over) xs) ≡ k → IsOver (option_map (merged_logs at) k)
    by None is = tt
    by (Some ls) is =
        let none = none_left ahead rest over xs ls (all_known-each (map (told ahead rest over) xs) ls is) all (texts_over at (map rest xs) empty).1 in
        (merged_none at (bytes_of ls) none, may_end ls)

-- what is known is still so where a log is read on in
pub still_read : {X : Type 0} (told : X → Option Ahead) (at : Option ℕ) (xs : List X) (i : ℕ) (x y : X) → slice_get xs i ≡ Some x → IsStill (told x) (told y)
    → IsStill (merged_ahead at (map told xs)) (merged_ahead at (map told (set xs i y)))
still_read told at xs i x y here still =
    let one = still_all (map told xs) i (told x) (told y) (slice_get-map told xs i ∙ ap (option_map told) here) still in
    still_merged at (map told xs) (map told (set xs i y)) (subst (λ os. IsStill (all_known (map told xs)) (all_known os)) (sym (map-set told xs i y)) one)

pub gives_none : (a : Option Ahead) → Gives a a []
gives_none None = tt
gives_none (Some a) = (refl, refl)

-- ---- steps

-- bytes that begin alike have alike bytes there
get_take : (count n : ℕ) (xs : List ℕ) → n < count → get_or (take count xs) n 0 ≡ get_or xs n 0
get_take zero n xs h = absurd (omega (arith, h))
get_take (suc count) n [] h = refl
get_take (suc count) zero (x ∷ xs) h = refl
get_take (suc count) (suc n) (x ∷ xs) h = get_take count n xs (omega (arith, h))

pub same_byte : (count n : ℕ) (xs ys : List ℕ) → n < count → take count xs ≡ take count ys → get_or xs n 0 ≡ get_or ys n 0
same_byte count n xs ys h is = sym (get_take count n xs h) ∙ ap (λ t. get_or t n 0) is ∙ get_take count n ys h

-- so many bytes of the line of the source are given on
pub given_many : {X : Type 0} (ahead : X → Option Ahead) (rest : X → List ℕ) (over : X → Bool) (at : Option ℕ) (xs : List X) (i count b : ℕ) (x y : X)
    → slice_get xs i ≡ Some x → i ≡ source at (map rest xs)
    → IsWithin at (map rest xs) ⊎ All (λ x. are_enough (rest x) (over x) ≡ true) xs
    → 0 < count → count ≤ length (rest x) → count ≤ line_length (rest x) + 1
    → ahead y ≡ ahead x → over y ≡ over x → rest y ≡ drop count (rest x) → b ≡ get_or (rest x) (count - 1) 0
    → Gives (merged_ahead at (map (told ahead rest over) xs)) (merged_ahead (inside i b) (map (told ahead rest over) (set xs i y))) (take count (rest x))
given_many ahead rest over at xs i zero b x y here is ready some within line same_ahead same_over left last = absurd (omega (arith, some))
given_many ahead rest over at xs i (suc n) b x y here is ready some within line same_ahead same_over left last =
    let before : suc n - 1 ≡ n = omega arith in
    given ahead rest over at xs i n b x y here is ready (omega (arith, within)) (omega (arith, line)) same_ahead same_over left
    (last ∙ ap (λ k. get_or (rest x) k 0) before)

-- a read of a log that fails
pub lost_read : {X : Type 0} (ahead : X → Option Ahead) (rest : X → List ℕ) (over : X → Bool) (at : Option ℕ) (xs : List X) (i : ℕ) (x : X)
    (fault : LogFault) → slice_get xs i ≡ Some x → IsLost (ahead x) fault → IsLost (merged_ahead at (map (told ahead rest over) xs)) fault
lost_read ahead rest over at xs i x fault here lost =
    IsLost-merged at (map (told ahead rest over) xs) i (ahead x) (rest x) (over x) fault
    (slice_get-map (told ahead rest over) xs i ∙ ap (option_map (told ahead rest over)) here) lost
