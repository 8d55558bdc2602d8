-- What is known of logs (specs/Merging.antt, specs/Heads.antt).
use Rattle.std.proofs.Common.{◌≡◌, ◌∙◌, ℕ, suc, zero, Bool, true, false, List, [], ◌∷◌, map, set, length, Option, Some, None, option_map, refl, sym, ap, subst, inl, inr, arith, ◌+◌, ◌<◌, ◌≤◌, ◌==◌, min}
use Rattle.std.specs.Prelude.{IsSomeAnd, slice_get, get_or, drop, unwrap_or}
use Rattle.std.specs.List.{All}
use Rattle.std.proofs.lemmas.Bool.{cases_eq}
use Rattle.std.proofs.lemmas.Option.{slice_get_read, slice_get_within}
use Rattle.std.proofs.lemmas.List.{map-set}
use Rattle.std.proofs.lemmas.List.Elements.{All-cons, All-nil}
use Rattle.id_log.specs.declared.log.LogFault.{LogFault}
use Rattle.id_log.specs.declared.log.LogFault.TheVariants.{Memory}
use Rattle.id_log.specs.Logs.{Ahead, End, Gives, IsLost, IsLostAt, MayBreak, MayEndIn}
use Rattle.id_log.specs.Logs.End.{ends, fails, may_fail}
use Rattle.id_merge.specs.Heads.{IsStill, behind, told_behind}
use Rattle.id_merge.specs.Merging.{all_known, end_with, merged_ahead, merged_end, merged_logs}

pub none_some : {X : Type 0} {x : X} → None ≡ Some x → ⊥
none_some e = cc

pub some_is : {X : Type 0} {x y : X} → Some x ≡ Some y → x ≡ y
some_is {x = x} e = ap (λ o. unwrap_or o x) e

-- ---- all of them

-- all are known of which each is
pub all_known-map : {X : Type 0} (xs : List X) → all_known (map (λ x. Some x) xs) ≡ Some xs
all_known-map [] = refl
all_known-map (x ∷ xs) = ap (option_map (λ ys. x ∷ ys)) (all_known-map xs)

-- and where all are, each is
pub all_known-each : {X : Type 0} (os : List (Option X)) (xs : List X) → all_known os ≡ Some xs → os ≡ map (λ x. Some x) xs
all_known-each [] xs e = ap (map (λ x. Some x)) (some_is e)
all_known-each (None ∷ os) xs e = absurd (none_some e)
all_known-each {X = X} (Some x ∷ os) xs e = by (λ ys is. all_known-each os ys is) (all_known os) refl e
  where
    by : ((ys : List X) → all_known os ≡ Some ys → os ≡ map (λ x. Some x) ys) → (k : Option (List X)) → all_known os ≡ k
        → option_map (λ ys. x ∷ ys) k ≡ Some xs → Some x ∷ os ≡ map (λ x. Some x) xs
    by each None is e = absurd (none_some e)
    by each (Some ys) is e = ap (λ t. Some x ∷ t) (each ys is) ∙ ap (map (λ x. Some x)) (some_is e)

-- another one is known in the place of one
pub all_known-set : {X : Type 0} (os : List (Option X)) (xs : List X) (i : ℕ) (x : X) → all_known os ≡ Some xs
    → all_known (set os i (Some x)) ≡ Some (set xs i x)
all_known-set os xs i x e =
    ap (λ t. all_known (set t i (Some x))) (all_known-each os xs e) ∙ ap all_known (sym (map-set (λ y. Some y) xs i x)) ∙ all_known-map (set xs i x)

-- what is known at a place
pub known_at : {X : Type 0} (os : List (Option X)) (xs : List X) (i : ℕ) (o : Option X) → os ≡ map (λ x. Some x) xs → slice_get os i ≡ Some o
    → (x : X) × (o ≡ Some x) × (slice_get xs i ≡ Some x)
known_at [] xs i o e at = absurd (none_some at)
known_at (p ∷ os) [] i o e at = absurd cc
known_at (p ∷ os) (x ∷ xs) zero o e at = (x, sym (some_is at) ∙ ap (λ l. get_or l 0 None) e, refl)
known_at (p ∷ os) (x ∷ xs) (suc i) o e at = known_at os xs i o (ap (drop 1) e) at

-- what stands at a place is what is set there
pub set_same : {X : Type 0} (xs : List X) (i : ℕ) (x : X) → slice_get xs i ≡ Some x → set xs i x ≡ xs
set_same [] i x e = refl
set_same (y ∷ xs) zero x e = ap (λ z. z ∷ xs) (sym (some_is e))
set_same (y ∷ xs) (suc i) x e = ap (λ t. y ∷ t) (set_same xs i x e)

-- all are still known where that at a place is
pub still_all : {X : Type 0} (os : List (Option X)) (i : ℕ) (o p : Option X) → slice_get os i ≡ Some o → IsStill o p
    → IsStill (all_known os) (all_known (set os i p))
still_all {X = X} os i o p at still = by (all_known os) refl
  where
    by : (k : Option (List X)) → all_known os ≡ k → IsStill k (all_known (set os i p))
    by None is = tt
    by (Some xs) is =
        let one = known_at os xs i o (all_known-each os xs is) at in
        let same : p ≡ Some one.0 = subst (λ q. IsStill q p) one.1 still in
        ap (λ q. all_known (set os i q)) same ∙ all_known-set os xs i one.0 is ∙ ap (λ t. Some t) (set_same xs i one.0 one.2)

pub still_same : {X : Type 0} (o : Option X) → IsStill o o
still_same None = tt
still_same (Some x) = refl

pub still_then : {X : Type 0} (o p q : Option X) → IsStill o p → IsStill p q → IsStill o q
still_then None p q a b = tt
still_then (Some x) p q a b = subst (λ r. IsStill r q) a b

-- ---- merged

-- what is so of all logs is so of what they come to
pub still_merged : (at : Option ℕ) (os ps : List (Option Ahead)) → IsStill (all_known os) (all_known ps)
    → IsStill (merged_ahead at os) (merged_ahead at ps)
still_merged at os ps still = by (all_known os) (all_known ps) still
  where
    by : (k l : Option (List Ahead)) → IsStill k l → IsStill (option_map (merged_logs at) k) (option_map (merged_logs at) l)
    by None l still = tt
    by (Some ls) l still = ap (option_map (merged_logs at)) still

-- bytes that are given by what is still so
pub Gives-still : (a b c : Option Ahead) (bytes : List ℕ) → IsStill a b → Gives b c bytes → Gives a c bytes
Gives-still None b c bytes still gives = tt
Gives-still (Some a) b c bytes still gives = subst (λ r. Gives r c bytes) still gives

pub IsLost-still : (a b : Option Ahead) (fault : LogFault) → IsStill a b → IsLost b fault → IsLost a fault
IsLost-still None b fault still lost = tt
IsLost-still (Some a) b fault still lost = subst (λ r. IsLost r fault) still lost

-- merged bytes end alike where that at a place ends alike
pub merged_end-set : (ls : List Ahead) (i : ℕ) (a b : Ahead) → slice_get ls i ≡ Some a → b.end ≡ a.end → merged_end (set ls i b) ≡ merged_end ls
merged_end-set [] i a b at same = refl
merged_end-set (c ∷ ls) zero a b at same = ap (λ e. end_with e (merged_end ls)) (same ∙ ap (λ (x : Ahead). x.end) (sym (some_is at)))
merged_end-set (c ∷ ls) (suc i) a b at same = ap (end_with c.end) (merged_end-set ls i a b at same)

-- where a log may fail, the merged ones may
end_with_may : (e : End) → end_with e may_fail ≡ may_fail
end_with_may ends = refl
end_with_may (fails fault) = refl
end_with_may may_fail = refl

merged_end-may : (ls : List Ahead) (i : ℕ) (a : Ahead) → slice_get ls i ≡ Some a → ((rest : End) → end_with a.end rest ≡ may_fail) → merged_end ls ≡ may_fail
merged_end-may [] i a at may = absurd (none_some at)
merged_end-may (c ∷ ls) zero a at may = subst (λ (x : Ahead). end_with x.end (merged_end ls) ≡ may_fail) (sym (some_is at)) (may (merged_end ls))
merged_end-may (c ∷ ls) (suc i) a at may = ap (end_with c.end) (merged_end-may ls i a at may) ∙ end_with_may c.end

-- a read of a log that fails is one of the merged logs
pub IsLost-merged : (at : Option ℕ) (os : List (Option Ahead)) (i : ℕ) (o : Option Ahead) (bytes : List ℕ) (over : Bool) (fault : LogFault)
    → slice_get os i ≡ Some (told_behind o bytes over) → IsLost o fault → IsLost (merged_ahead at os) fault
IsLost-merged at os i o bytes over fault here lost = by (all_known os) refl
  where
    may : (e : End) (ls : List ℕ) → IsLostAt ls e fault → (rest : End) → end_with e rest ≡ may_fail
    may ends ls l rest = absurd l
    may (fails told) ls l rest = refl
    may may_fail ls l rest = refl

    lost_at : (ls : List Ahead) (p : Option Ahead) (a : Ahead) → told_behind p bytes over ≡ Some a → slice_get ls i ≡ Some a → IsLost p fault
        → IsLost (Some (merged_logs at ls)) fault
    lost_at ls None a is at_i l = absurd (none_some is)
    lost_at ls (Some b) a is at_i (inl memory) = inl memory
    lost_at ls (Some b) a is at_i (inr l) =
        let end_is : a.end ≡ b.end = ap (λ (x : Ahead). x.end) (sym (some_is is)) in
        inr (subst (λ e. IsLostAt (merged_logs at ls).bytes e fault)
        (sym (merged_end-may ls i a at_i (λ rest. ap (λ e. end_with e rest) end_is ∙ may b.end b.bytes l rest))) tt)

    by : (k : Option (List Ahead)) → all_known os ≡ k → IsLost (option_map (merged_logs at) k) fault
    by None is = tt
    by (Some ls) is =
        let one = known_at os ls i (told_behind o bytes over) (all_known-each os ls is) here in
        lost_at ls o one.0 one.1 one.2 lost

-- logs of which one may break off so may
pub MayBreak-merged : (at : Option ℕ) (os : List (Option Ahead)) (i : ℕ) (o : Option Ahead) (fault : LogFault) → slice_get os i ≡ Some o → MayBreak o fault
    → MayBreak (merged_ahead at os) fault
MayBreak-merged at os i o fault here breaks = by (all_known os) refl
  where
    may : (e : End) → MayEndIn e fault → (rest : End) → end_with e rest ≡ may_fail
    may ends l rest = absurd l
    may (fails told) l rest = refl
    may may_fail l rest = refl

    at_one : (ls : List Ahead) (a : Ahead) → slice_get ls i ≡ Some a → MayBreak (Some a) fault → MayBreak (Some (merged_logs at ls)) fault
    at_one ls a at_i (inl memory) = inl memory
    at_one ls a at_i (inr l) = inr (subst (λ e. MayEndIn e fault) (sym (merged_end-may ls i a at_i (may a.end l))) tt)

    by : (k : Option (List Ahead)) → all_known os ≡ k → MayBreak (option_map (merged_logs at) k) fault
    by None is = tt
    by (Some ls) is =
        let one = known_at os ls i o (all_known-each os ls is) here in
        at_one ls one.0 one.2 (subst (λ p. MayBreak p fault) one.1 breaks)

pub memory_breaks : (a : Option Ahead) → MayBreak a Memory
memory_breaks None = tt
memory_breaks (Some a) = inl refl

-- a log of which nothing was read has ahead what it has
pub told_fresh : (o : Option Ahead) (bytes : List ℕ) → bytes ≡ [] → told_behind o bytes false ≡ o
told_fresh None bytes none = refl
told_fresh (Some a) bytes none = ap (λ t. Some (behind t false a)) none

pub memory_lost : (a : Option Ahead) → IsLost a Memory
memory_lost None = tt
memory_lost (Some a) = inl refl

-- ---- each of a list

-- what is so at each place is so of all
pub all_at : {X : Type 0} (P : X → Type 0) (xs : List X) → ((j : ℕ) (x : X) → slice_get xs j ≡ Some x → P x) → All P xs
all_at P [] each = All-nil P
all_at P (x ∷ xs) each = All-cons P x xs (each 0 x refl) (all_at P xs (λ j y at. each (suc j) y at))

-- what is so at the first places is so at one more
pub one_more : {X : Type 0} (P : X → Type 0) (xs : List X) (i : ℕ) (x : X) → ((j : ℕ) (y : X) → j < i → slice_get xs j ≡ Some y → P y)
    → slice_get xs i ≡ Some x → P x → (j : ℕ) (y : X) → j < i + 1 → slice_get xs j ≡ Some y → P y
one_more P xs i x first at is j y below here = elim (cases_eq j i) [
  | inl same ↦ subst P (some_is (sym at ∙ ap (slice_get xs) (sym same) ∙ here)) is
  | inr other ↦ first j y (omega (arith, below, other)) here
]

-- the element at a place stands behind so many that are dropped
pub drop_at : {X : Type 0} (xs : List X) (i : ℕ) (x : X) → slice_get xs i ≡ Some x → drop i xs ≡ x ∷ drop (i + 1) xs
drop_at [] i x at = absurd (none_some at)
drop_at (y ∷ xs) zero x at = ap (λ z. z ∷ xs) (some_is at)
drop_at (y ∷ xs) (suc i) x at =
    let past : suc i + 1 ≡ suc (i + 1) = omega arith in
    drop_at xs i x at ∙ ap (λ k. x ∷ drop k (y ∷ xs)) (sym past)

-- ---- places

pub read_at : {X : Type 0} (xs : List X) (i : ℕ) (x : X) → i < length xs → x ≡ get_or xs i x → slice_get xs i ≡ Some x
read_at xs i x within is = slice_get_read xs (length xs) i x refl within is

pub some_within : {X : Type 0} (xs : List X) (i : ℕ) (P : X → Type 0) → IsSomeAnd (slice_get xs i) P → i < length xs
some_within {X = X} xs i P some = by (slice_get xs i) refl some
  where
    by : (o : Option X) → slice_get xs i ≡ o → IsSomeAnd o P → i < length xs
    by None at h = absurd h
    by (Some x) at h = slice_get_within xs i x at

pub some_has : {X : Type 0} (xs : List X) (i : ℕ) (x : X) (P : X → Type 0) → slice_get xs i ≡ Some x → IsSomeAnd (slice_get xs i) P → P x
some_has xs i x P at some = subst (λ o. IsSomeAnd o P) at some

pub some_room : (n : ℕ) (b : Bool) → b ≡ (n == 0) → b ≡ false → 0 < n
some_room zero b is other = let bad : true ≡ false = sym is ∙ other in cc
some_room (suc n) b is other = omega arith

pub drop_more : (n m : ℕ) (xs : List ℕ) → drop (n + m) xs ≡ drop m (drop n xs)
drop_more zero m xs = let same : 0 + m ≡ m = omega arith in ap (λ k. drop k xs) same
drop_more (suc n) m [] = let past : suc n + m ≡ suc (n + m) = omega arith in ap (λ k. drop k []) past ∙ none m
  where
    none : (m : ℕ) → ◌≡◌ {A = List ℕ} [] (drop m [])
    none zero = refl
    none (suc m) = refl
drop_more (suc n) m (x ∷ xs) =
    let past : suc n + m ≡ suc (n + m) = omega arith in
    ap (λ k. drop k (x ∷ xs)) past ∙ drop_more n m xs

-- how many bytes are given on
pub count_some : (count room line rest : ℕ) → count ≡ min room (min (line + 1) rest) → 0 < room → 0 < rest → 0 < count
count_some count room line rest is some more = grind arith

pub count_line : (count room line rest : ℕ) → count ≡ min room (min (line + 1) rest) → count ≤ line + 1
count_line count room line rest is = grind arith

pub count_rest : (count room line rest : ℕ) → count ≡ min room (min (line + 1) rest) → count ≤ rest
count_rest count room line rest is = grind arith
