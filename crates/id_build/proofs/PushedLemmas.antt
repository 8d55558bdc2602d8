-- The arcs to the switches of imports, one import after another.
use Rattle.std.proofs.Common.{◌≡◌, ℕ, zero, suc, ◌+◌, ◌-◌, ◌<◌, ◌≤◌, List, [], ◌∷◌, ◌++◌, length, get_or, drop, map}
use Rattle.std.proofs.Common.{refl, ap, sym, ◌∙◌, arith, append-nil}
use Rattle.std.proofs.lemmas.List.{append_assoc, drop_all, length-map, map-append}
use Rattle.id_desugar.specs.Regions.{carried, imports_of, nexts_of}
use Rattle.id_table.specs.declared.row.Region.{Region}
use Rattle.id_check.specs.declared.checked.Checked.{Checked}
use Rattle.id_instr.specs.declared.dests.Port.{Port}
use Rattle.id_instr.specs.declared.dests.Port.TheVariants.{Zero, One}
use Rattle.id_build.specs.declared.arc.Arc.{Arc}
use Rattle.id_build.specs.declared.arc.Origin.{Origin}
use Rattle.id_build.specs.declared.arc.Feed.{Feed}
use Rattle.id_build.specs.Made.{arc_of, arc_to, arcs_in, number_by}
use Rattle.id_build.specs.Rows.{bounds_feeds, entering, entry_feeds, feed, feeds, first_binder, import_feeds, name_in}
use Rattle.id_build.specs.Rows.{node, output}
use Rattle.id_build.specs.Rows.{part_of, trigger_of, turn_feeds}

-- an arc as it is pushed is that of the feed
pub arc_is : (F G : List ℕ) (n k t : ℕ) (o q : Origin) (p : Port) → G ≡ F → t ≡ number_by F n k → q ≡ o
    → record { from = number_by G q.row q.part; side = q.side; to = t; port = p } ≡ arc_of F n (feed o k p)
arc_is F G n k t o q p e f g =
    ap (λ (z : List ℕ). record { from = number_by z q.row q.part; side = q.side; to = t; port = p }) e
    ∙ ap (λ (z : ℕ). record { from = number_by F q.row q.part; side = q.side; to = z; port = p }) f
    ∙ ap (λ (z : Origin). record { from = number_by F z.row z.part; side = z.side; to = number_by F n k; port = p }) g

-- the first of what is left
pub drop_at : (bs : List ℕ) (i : ℕ) → i < length bs → drop i bs ≡ get_or bs i 0 ∷ drop (suc i) bs
drop_at [] i l = absurd (omega arith)
drop_at (b ∷ bs) zero l = refl
drop_at (b ∷ bs) (suc i) l = drop_at bs i (omega (arith, l))

-- at last nothing is left
pub rest_done : {A B : Type 0} (m : List A → List B) (i : ℕ) (bs : List A) (xs ws : List B) → m [] ≡ [] → length bs ≤ i
    → xs ++ m (drop i bs) ≡ ws → xs ≡ ws
rest_done m i bs xs ws none end so =
    sym (append-nil xs) ∙ ap (λ z. xs ++ z) (sym none) ∙ ap (λ z. xs ++ m z) (sym (drop_all i bs end)) ∙ so

-- the arcs of the rows from the i-th on are its own, and those of the rows behind it
pub arcs_in-at : (P : Checked) (F order : List ℕ) (i : ℕ) → i < length order
    → arcs_in P F (drop i order) ≡ map (arc_of F (get_or order i 0)) (feeds P (get_or order i 0))
    ++ arcs_in P F (drop (i + 1) order)
arcs_in-at P F order i l =
    let next : suc i ≡ i + 1 = omega arith in
    ap (arcs_in P F) (drop_at order i l ∙ ap (λ k. get_or order i 0 ∷ drop k order) next)

-- two more arcs are pushed, or one
two_more : (xs ys ws m : List Arc) (a b : Arc) → xs ++ a ∷ b ∷ m ≡ ws → ys ≡ xs ++ a ∷ b ∷ [] → ys ++ m ≡ ws
two_more xs ys ws m a b so two = ap (λ z. z ++ m) two ∙ append_assoc xs (a ∷ b ∷ []) m ∙ so

one_more : (xs ys ws m : List Arc) (a : Arc) → xs ++ a ∷ m ≡ ws → ys ≡ xs ++ a ∷ [] → ys ++ m ≡ ws
one_more xs ys ws m a so one = ap (λ z. z ++ m) one ∙ append_assoc xs (a ∷ []) m ∙ so

-- the two arcs of an import as they are pushed are those of its feeds
pub two_are : (F G : List ℕ) (n k t : ℕ) (s p o q : Origin) (xs ys : List Arc) → G ≡ F → t ≡ number_by F n k → p ≡ s
    → q ≡ o → ys ≡ xs ++ arc_to G p t Zero ∷ arc_to G q t One ∷ []
    → ys ≡ xs ++ arc_of F n (feed s k Zero) ∷ arc_of F n (feed o k One) ∷ []
two_are F G n k t s p o q xs ys e f h g two =
    two ∙ ap (λ z. xs ++ z ∷ arc_to G q t One ∷ []) (arc_is F G n k t s p Zero e f h)
    ∙ ap (λ z. xs ++ arc_of F n (feed s k Zero) ∷ z ∷ []) (arc_is F G n k t o q One e f g)

-- the arcs of one more import are pushed
pub import_feeds-next : (P : Checked) (F : List ℕ) (n : ℕ) (s : Origin) (r : Region) (k i : ℕ) (bs : List ℕ)
    (xs ys ws : List Arc) → i < length bs → xs ++ map (arc_of F n) (import_feeds P s r (k + i) (drop i bs)) ≡ ws
    → ys ≡ xs ++ arc_of F n (feed s (k + i) Zero) ∷ arc_of F n (feed (name_in P r (get_or bs i 0)) (k + i) One) ∷ []
    → ys ++ map (arc_of F n) (import_feeds P s r (k + (i + 1)) (drop (i + 1) bs)) ≡ ws
import_feeds-next P F n s r k i bs xs ys ws l so two =
    let next : suc i ≡ i + 1 = omega arith in
    let up : k + i + 1 ≡ k + (i + 1) = omega arith in
    let rest = drop_at bs i l ∙ ap (λ j. get_or bs i 0 ∷ drop j bs) next in
    let old = sym (ap (λ z. xs ++ map (arc_of F n) (import_feeds P s r (k + i) z)) rest) ∙ so in
    ap (λ j. ys ++ map (arc_of F n) (import_feeds P s r j (drop (i + 1) bs))) (sym up) ∙ two_more xs ys ws _ _ _ old two

-- and those of the first value of one more variable
pub first_feeds-next : (P : Checked) (F : List ℕ) (n : ℕ) (s : Origin) (r : Region) (k i : ℕ) (ms : List ℕ)
    (xs ys ws : List Arc) → i < length ms
    → xs ++ map (arc_of F n) (import_feeds P s r (k + i) (map (first_binder P) (drop i ms))) ≡ ws
    → ys ≡ xs ++ arc_of F n (feed s (k + i) Zero)
    ∷ arc_of F n (feed (name_in P r (first_binder P (get_or ms i 0))) (k + i) One) ∷ []
    → ys ++ map (arc_of F n) (import_feeds P s r (k + (i + 1)) (map (first_binder P) (drop (i + 1) ms))) ≡ ws
first_feeds-next P F n s r k i ms xs ys ws l so two =
    let next : suc i ≡ i + 1 = omega arith in
    let up : k + i + 1 ≡ k + (i + 1) = omega arith in
    let rest = drop_at ms i l ∙ ap (λ j. get_or ms i 0 ∷ drop j ms) next in
    let old = sym (ap (λ z. xs ++ map (arc_of F n) (import_feeds P s r (k + i) (map (first_binder P) z))) rest) ∙ so in
    ap (λ j. ys ++ map (arc_of F n) (import_feeds P s r j (map (first_binder P) (drop (i + 1) ms)))) (sym up)
    ∙ two_more xs ys ws _ _ _ old two

-- and those of one more entry of an import, or of what hands one on
pub entry_feeds-next : (F : List ℕ) (n m j k : ℕ) (bs : List ℕ) (xs ys ws : List Arc) → k < length bs
    → xs ++ map (arc_of F n) (entry_feeds m (j + k) k (drop k bs)) ≡ ws
    → ys ≡ xs ++ arc_of F n (feed (part_of m (j + k)) k Zero) ∷ []
    → ys ++ map (arc_of F n) (entry_feeds m (j + (k + 1)) (k + 1) (drop (k + 1) bs)) ≡ ws
entry_feeds-next F n m j k bs xs ys ws l so one =
    let next : suc k ≡ k + 1 = omega arith in
    let up : j + k + 1 ≡ j + (k + 1) = omega arith in
    let rest = drop_at bs k l ∙ ap (λ i. get_or bs k 0 ∷ drop i bs) next in
    let old = sym (ap (λ z. xs ++ map (arc_of F n) (entry_feeds m (j + k) k z)) rest) ∙ so in
    ap (λ i. ys ++ map (arc_of F n) (entry_feeds m i (k + 1) (drop (k + 1) bs))) (sym up)
    ∙ one_more xs ys ws _ _ old one

pub turn_feeds-next : (P : Checked) (F : List ℕ) (n : ℕ) (r : Region) (k i : ℕ) (bs : List ℕ) (xs ys ws : List Arc)
    → i < length bs → xs ++ map (arc_of F n) (turn_feeds P r (k + i) (drop i bs)) ≡ ws
    → ys ≡ xs ++ arc_of F n (feed (name_in P r (get_or bs i 0)) (k + i) Zero) ∷ []
    → ys ++ map (arc_of F n) (turn_feeds P r (k + (i + 1)) (drop (i + 1) bs)) ≡ ws
turn_feeds-next P F n r k i bs xs ys ws l so one =
    let next : suc i ≡ i + 1 = omega arith in
    let up : k + i + 1 ≡ k + (i + 1) = omega arith in
    let rest = drop_at bs i l ∙ ap (λ j. get_or bs i 0 ∷ drop j bs) next in
    let old = sym (ap (λ z. xs ++ map (arc_of F n) (turn_feeds P r (k + i) z)) rest) ∙ so in
    ap (λ j. ys ++ map (arc_of F n) (turn_feeds P r j (drop (i + 1) bs))) (sym up) ∙ one_more xs ys ws _ _ old one

-- the feeds of two lists of imports, one behind another
pub import_feeds-both : (P : Checked) (s : Origin) (r : Region) (k j : ℕ) (bs cs : List ℕ) → j ≡ k + length bs
    → import_feeds P s r k (bs ++ cs) ≡ import_feeds P s r k bs ++ import_feeds P s r j cs
import_feeds-both P s r k j [] cs e = let z : k ≡ j = omega (arith, e) in ap (λ i. import_feeds P s r i cs) z
import_feeds-both P s r k j (b ∷ bs) cs e =
    ap (λ z. feed s k Zero ∷ feed (name_in P r b) k One ∷ z)
    (import_feeds-both P s r (k + 1) j bs cs (omega (arith, e)))

-- what is added one after another
pub added : {A : Type 0} (xs ys us zs ws : List A) (a : A) (B C D : List A) → ys ≡ xs ++ a ∷ [] → us ≡ ys ++ B
    → zs ≡ us ++ C → ws ≡ zs ++ D → ws ≡ xs ++ a ∷ (B ++ (C ++ D))
added xs ys us zs ws a B C D one two three four =
    four ∙ ap (λ z. z ++ D) (three ∙ ap (λ z. z ++ C) (two ∙ ap (λ z. z ++ B) one ∙ append_assoc xs (a ∷ []) B)
    ∙ append_assoc xs (a ∷ B) C)
    ∙ append_assoc xs (a ∷ (B ++ C)) D ∙ ap (λ z. xs ++ a ∷ z) (append_assoc B C D)

-- the arcs to the `enter`, to the sends of what is carried on, to those of the variables and to those of the imports of
-- a
-- loop are those of its `Start`
pub start_arcs : (P : Checked) (F G H K : List ℕ) (n i j t : ℕ) (r : Region) (o s : Origin) (ms bs : List ℕ)
    (xs ys us zs ws : List Arc) → G ≡ F → H ≡ F → K ≡ F
    → t ≡ number_by F n 0 → o ≡ trigger_of r → s ≡ output n → i ≡ 1 + length (carried P (n + 1)) → j ≡ i + length ms
    → bs ≡ imports_of P (n + 1) → ms ≡ nexts_of P (n + 1)
    → ys ≡ xs ++ arc_to F o t Zero ∷ []
    → us ≡ ys ++ map (arc_of G n) (bounds_feeds P n (node P (n - 1)))
    → zs ≡ us ++ map (arc_of H n) (import_feeds P (output n) r i (map (first_binder P) ms))
    → ws ≡ zs ++ map (arc_of K n) (import_feeds P s r j bs)
    → ws ≡ xs ++ map (arc_of F n) (feed (trigger_of r) 0 Zero ∷ bounds_feeds P n (node P (n - 1))
    ++ import_feeds P (output n) r (1 + length (carried P (n + 1))) (entering P (n + 1)))
start_arcs P F G H K n i j t r o s ms bs xs ys us zs ws g h k tt' oo ss ii jj bb mm one two three four =
    let k0 = 1 + length (carried P (n + 1)) in
    let Z : List Arc = map (arc_of F n) (bounds_feeds P n (node P (n - 1))) in
    let A : List Arc = map (arc_of F n) (import_feeds P (output n) r k0 (map (first_binder P) ms)) in
    let B : List Arc = map (arc_of F n) (import_feeds P (output n) r j (imports_of P (n + 1))) in
    let first = one ∙ ap (λ z. xs ++ z ∷ []) (arc_is F F n 0 t (trigger_of r) o Zero refl tt' oo) in
    let second : us ≡ ys ++ Z =
    two ∙ ap (λ (f : List ℕ). ys ++ map (arc_of f n) (bounds_feeds P n (node P (n - 1)))) g in
    let third : zs ≡ us ++ A =
    three ∙ ap (λ (f : List ℕ). us ++ map (arc_of f n) (import_feeds P (output n) r i (map (first_binder P) ms))) h
    ∙ ap (λ (q : ℕ). us ++ map (arc_of F n) (import_feeds P (output n) r q (map (first_binder P) ms))) ii in
    let fourth : ws ≡ zs ++ B =
    four ∙ ap (λ (f : List ℕ). zs ++ map (arc_of f n) (import_feeds P s r j bs)) k
    ∙ ap (λ (z : Origin). zs ++ map (arc_of F n) (import_feeds P z r j bs)) ss
    ∙ ap (λ (z : List ℕ). zs ++ map (arc_of F n) (import_feeds P (output n) r j z)) bb in
    let both : map (arc_of F n) (import_feeds P (output n) r k0 (map (first_binder P) ms ++ imports_of P (n + 1))) ≡ A
    ++ B =
    ap (map (arc_of F n)) (import_feeds-both P (output n) r k0 j (map (first_binder P) ms) (imports_of P (n + 1))
    (omega (arith, ii, jj, length-map ms (first_binder P))))
    ∙ map-append (arc_of F n) (import_feeds P (output n) r k0 (map (first_binder P) ms))
    (import_feeds P (output n) r j (imports_of P (n + 1))) in
    let here : map (arc_of F n) (import_feeds P (output n) r k0 (entering P (n + 1))) ≡ A ++ B =
    ap (λ z. map (arc_of F n) (import_feeds P (output n) r k0 (map (first_binder P) z ++ imports_of P (n + 1))))
    (sym mm) ∙ both in
    let all : map (arc_of F n)
    (bounds_feeds P n (node P (n - 1)) ++ import_feeds P (output n) r k0 (entering P (n + 1))) ≡ Z ++ (A ++ B) =
    map-append (arc_of F n) (bounds_feeds P n (node P (n - 1))) (import_feeds P (output n) r k0 (entering P (n + 1)))
    ∙ ap (λ z. Z ++ z) here in
    added xs ys us zs ws (arc_of F n (feed (trigger_of r) 0 Zero)) Z A B first second third fourth
    ∙ ap (λ z. xs ++ arc_of F n (feed (trigger_of r) 0 Zero) ∷ z) (sym all)

-- an arc that is pushed is that of its feed
pub one_arc : (F G : List ℕ) (n k t : ℕ) (o q : Origin) (a : Port) (xs ys : List Arc) → G ≡ F → t ≡ number_by F n k
    → q ≡ o → ys ≡ xs ++ arc_to G q t a ∷ [] → ys ≡ xs ++ arc_of F n (feed o k a) ∷ []
one_arc F G n k t o q a xs ys g tt' oo one = one ∙ ap (λ z. xs ++ z ∷ []) (arc_is F G n k t o q a g tt' oo)

-- what is added to two
pub third : {A : Type 0} (xs ys zs : List A) (a b c : A) → ys ≡ xs ++ a ∷ b ∷ [] → zs ≡ ys ++ c ∷ []
    → zs ≡ xs ++ a ∷ b ∷ c ∷ []
third xs ys zs a b c two one = one ∙ ap (λ z. z ++ c ∷ []) two ∙ append_assoc xs (a ∷ b ∷ []) (c ∷ [])

-- two arcs that are pushed one after another are those of their feeds
pub two_arcs : (F G H : List ℕ) (n j k t u : ℕ) (o p q r : Origin) (a b : Port) (xs ys zs : List Arc) → G ≡ F → H ≡ F
    → t ≡ number_by F n j → u ≡ number_by F n k
    → q ≡ o → r ≡ p → ys ≡ xs ++ arc_to G q t a ∷ [] → zs ≡ ys ++ arc_to H r u b ∷ []
    → zs ≡ xs ++ arc_of F n (feed o j a) ∷ arc_of F n (feed p k b) ∷ []
two_arcs F G H n j k t u o p q r a b xs ys zs g h tt' uu oo pp one two =
    two ∙ ap (λ z. ys ++ z ∷ []) (arc_is F H n k u p r b h uu pp)
    ∙ ap (λ z. z ++ arc_of F n (feed p k b) ∷ []) (one ∙ ap (λ z. xs ++ z ∷ []) (arc_is F G n j t o q a g tt' oo))
    ∙ append_assoc xs (arc_of F n (feed o j a) ∷ []) (arc_of F n (feed p k b) ∷ [])

-- one more arc, or two, are pushed behind those of some feeds
pub then_one : (F G : List ℕ) (n k t : ℕ) (o q : Origin) (a : Port) (fs : List Feed) (xs ys zs : List Arc) → G ≡ F
    → t ≡ number_by F n k → q ≡ o → ys ≡ xs ++ map (arc_of F n) fs → zs ≡ ys ++ arc_to G q t a ∷ []
    → zs ≡ xs ++ map (arc_of F n) (fs ++ feed o k a ∷ [])
then_one F G n k t o q a fs xs ys zs g tt' oo so one =
    one_arc F G n k t o q a ys zs g tt' oo one ∙ ap (λ z. z ++ arc_of F n (feed o k a) ∷ []) so
    ∙ append_assoc xs (map (arc_of F n) fs) (arc_of F n (feed o k a) ∷ [])
    ∙ ap (λ z. xs ++ z) (sym (map-append (arc_of F n) fs (feed o k a ∷ [])))

pub then_two : (F G : List ℕ) (n k t : ℕ) (s p o q : Origin) (fs : List Feed) (xs ys zs : List Arc) → G ≡ F
    → t ≡ number_by F n k → p ≡ s → q ≡ o → ys ≡ xs ++ map (arc_of F n) fs
    → zs ≡ ys ++ arc_to G p t Zero ∷ arc_to G q t One ∷ []
    → zs ≡ xs ++ map (arc_of F n) (fs ++ feed s k Zero ∷ feed o k One ∷ [])
then_two F G n k t s p o q fs xs ys zs g tt' ss oo so two =
    let both : List Arc = arc_of F n (feed s k Zero) ∷ arc_of F n (feed o k One) ∷ [] in
    two_are F G n k t s p o q ys zs g tt' ss oo two ∙ ap (λ z. z ++ both) so
    ∙ append_assoc xs (map (arc_of F n) fs) both
    ∙ ap (λ z. xs ++ z) (sym (map-append (arc_of F n) fs (feed s k Zero ∷ feed o k One ∷ [])))
