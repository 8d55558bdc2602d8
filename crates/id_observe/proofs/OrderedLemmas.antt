-- Lists in strict order: pieces of them, and that one order of the same elements is the only one.
use Rattle.std.proofs.Common.{◌≡◌, ◌⊎◌, List, [], ◌∷◌, ◌++◌, refl, sym, subst, inl, inr}
use Rattle.std.specs.Cmp.{IsTotalOrder}
use Rattle.std.specs.List.{AllByRecursion}
use Rattle.std.specs.List.Sorted.{IsPermutation, IsStrictlySortedBy}
use Rattle.std.specs.declared.cmp.Ordering.{Ordering}
use Rattle.std.specs.declared.cmp.Ordering.TheVariants.{Less}
use Rattle.std.proofs.lemmas.Cmp.{tied_itself}
use Rattle.std.proofs.lemmas.List.Elements.{recursion_from_All, All-from_recursion}
use Rattle.id_record.proofs.EachLemmas.{each-append, each-weaker}
use Rattle.std.proofs.lemmas.List.Sorted.{All-permutation, IsPermutation-sym}

-- what is so of each element of a list is so of each of its front and of its back
pub each-front : {X : Type 0} (P : X → Type 0) (xs ys : List X) → AllByRecursion P (xs ++ ys) → AllByRecursion P xs
each-front P [] ys a = tt
each-front P (x ∷ xs) ys a = (a.0, each-front P xs ys a.1)

pub each-back : {X : Type 0} (P : X → Type 0) (xs ys : List X) → AllByRecursion P (xs ++ ys) → AllByRecursion P ys
each-back P [] ys a = a
each-back P (x ∷ xs) ys a = each-back P xs ys a.1

-- the front of a list in order is in order
pub sorted-front : {X : Type 0} (R : X → X → Ordering) (xs ys : List X) → IsStrictlySortedBy R (xs ++ ys)
    → IsStrictlySortedBy R xs
unfolding IsStrictlySortedBy
sorted-front R [] ys s = tt
sorted-front R (x ∷ xs) ys s = (each-front (λ y. R x y ≡ Less) xs ys s.0, sorted-front R xs ys s.1)

-- an element between a front and a back that are in order
pub sorted-between : {X : Type 0} {R : X → X → Ordering} → IsTotalOrder R → (xs : List X) (x y : X) (ys : List X)
    → IsStrictlySortedBy R (xs ++ x ∷ []) →
    IsStrictlySortedBy R (xs ++ y ∷ ys) → R x y ≡ Less → IsStrictlySortedBy R ((xs ++ x ∷ []) ++ y ∷ ys)
unfolding IsStrictlySortedBy
sorted-between {R = R} o [] x y ys s t less =
    ((less, each-weaker (λ z. R y z ≡ Less) (λ z. R x z ≡ Less) (λ z m. o.trans x y z less m) ys t.0), t)
sorted-between {R = R} o (w ∷ ws) x y ys s t less = (
  each-append (λ z. R w z ≡ Less) (ws ++ x ∷ []) (y ∷ ys) s.0 (each-back (λ z. R w z ≡ Less) ws (y ∷ ys) t.0),
  sorted-between o ws x y ys s.1 t.1 less,
)

-- an element of a list
abbrev pub Among : {X : Type 0} → List X → X → Type 0
Among [] x = ⊥
Among (y ∷ ys) x = (x ≡ y) ⊎ Among ys x

-- each element of a list is one
each-among : {X : Type 0} (xs : List X) → AllByRecursion (Among xs) xs
each-among [] = tt
each-among (x ∷ xs) = (inl refl, each-weaker (Among xs) (Among (x ∷ xs)) (λ y a. inr a) xs (each-among xs))

-- another order has the same elements
among-permutation : {X : Type 0} (xs ys : List X) → IsPermutation xs ys → AllByRecursion (Among xs) ys
among-permutation xs ys h =
    recursion_from_All (Among xs) ys
    (All-permutation (Among xs) xs ys h (All-from_recursion (Among xs) xs (each-among xs)))

-- an element that is one of a list has what each of that list has
pub each-at : {X : Type 0} (P : X → Type 0) (xs : List X) (x : X) → AllByRecursion P xs → Among xs x → P x
each-at P [] x a b = absurd b
each-at P (y ∷ ys) x a (inl e) = subst P (sym e) a.0
each-at P (y ∷ ys) x a (inr b) = each-at P ys x a.1 b

-- no element is below itself, and no two are below each other
pub less-itself : {X : Type 0} {R : X → X → Ordering} → IsTotalOrder R → (x : X) → R x x ≡ Less → ⊥
less-itself o x less = let tied = tied_itself o x in cc

pub less-both : {X : Type 0} {R : X → X → Ordering} → IsTotalOrder R → (x y : X) → R x y ≡ Less → R y x ≡ Less → ⊥
less-both {R = R} o x y less more = less-itself o x (o.trans x y x less more)

-- what is among a list and above its first is among the rest
among-rest : {X : Type 0} {R : X → X → Ordering} → IsTotalOrder R → (x : X) (xs zs : List X)
    → AllByRecursion (λ z. R x z ≡ Less) zs →
    AllByRecursion (Among (x ∷ xs)) zs → AllByRecursion (Among xs) zs
among-rest o x xs [] above among = tt
among-rest {R = R} o x xs (z ∷ zs) above among = (at among.0, among-rest o x xs zs above.1 among.1)
  where
    at : Among (x ∷ xs) z → Among xs z
    at (inl e) = absurd (less-itself o x (subst (λ w. R x w ≡ Less) e above.0))
    at (inr a) = a

-- two lists in order with the same elements are the same list
same-among : {X : Type 0} {R : X → X → Ordering} → IsTotalOrder R → (xs ys : List X) → IsStrictlySortedBy R xs
    → IsStrictlySortedBy R ys →
    AllByRecursion (Among xs) ys → AllByRecursion (Among ys) xs → xs ≡ ys
unfolding IsStrictlySortedBy
same-among o [] [] s t a b = refl
same-among o [] (y ∷ ys) s t a b = absurd a.0
same-among o (x ∷ xs) [] s t a b = absurd b.0
same-among {R = R} o (x ∷ xs) (y ∷ ys) s t a b = at (λ below above. same-among o xs ys s.1 t.1 below above) a.0 b.0
  where
    first : (AllByRecursion (Among xs) ys → AllByRecursion (Among ys) xs → xs ≡ ys) → x ≡ y → x ∷ xs ≡ y ∷ ys
    first same e =
        let ys_of_x = subst (λ w. AllByRecursion (λ z. R w z ≡ Less) ys) (sym e) t.0 in
        let xs_of_y = subst (λ w. AllByRecursion (Among (w ∷ ys)) xs) (sym e) b.1 in
        let rest = same (among-rest o x xs ys ys_of_x a.1) (among-rest o x ys xs s.0 xs_of_y) in
        cc

    at : (AllByRecursion (Among xs) ys → AllByRecursion (Among ys) xs → xs ≡ ys) → Among (x ∷ xs) y → Among (y ∷ ys) x
        → x ∷ xs ≡ y ∷ ys
    at same (inl e) c = first same (sym e)
    at same (inr d) (inl e) = first same e
    at same (inr d) (inr e) =
        absurd (less-both o x y (each-at (λ z. R x z ≡ Less) xs y s.0 d) (each-at (λ z. R y z ≡ Less) ys x t.0 e))

-- what is among one order of a list is among another
among-through : {X : Type 0} (all xs ys : List X) → IsPermutation all xs → IsPermutation all ys
    → AllByRecursion (Among xs) ys
among-through all xs ys p q =
    recursion_from_All (Among xs) ys (All-permutation (Among xs) all ys q
    (All-from_recursion (Among xs) all (among-permutation xs all (IsPermutation-sym all xs p))))

-- a list has one order
pub one_order : {X : Type 0} {R : X → X → Ordering} → IsTotalOrder R → (all xs ys : List X) → IsPermutation all xs
    → IsPermutation all ys →
    IsStrictlySortedBy R xs → IsStrictlySortedBy R ys → xs ≡ ys
one_order o all xs ys p q s t = same-among o xs ys s t (among-through all xs ys p q) (among-through all ys xs q p)

-- one more element, above all others
pub sorted-push : {X : Type 0} (R : X → X → Ordering) (xs : List X) (x : X) → IsStrictlySortedBy R xs
    → AllByRecursion (λ y. R y x ≡ Less) xs →
    IsStrictlySortedBy R (xs ++ x ∷ [])
unfolding IsStrictlySortedBy
sorted-push R [] x s above = (tt, tt)
sorted-push R (y ∷ ys) x s above =
    (each-append (λ z. R y z ≡ Less) ys (x ∷ []) s.0 (above.0, tt), sorted-push R ys x s.1 above.1)
