-- The arcs of a table: for any rows, whatever feeds each.
use Rattle.std.proofs.Common.{◌≡◌, inl, inr, ℕ, Bool, true, false, cond, eqb, List, [], ◌∷◌, refl, ap, sym, subst, ◌∙◌}
use Rattle.std.specs.Prelude.{map, ◌&&◌}
use Rattle.std.proofs.lemmas.Bool.{eqb-true}
use Rattle.id_build.proofs.JoinedLemmas.{is_from, is_from-here}
use Rattle.id_check.specs.declared.checked.Checked.{Checked}
use Rattle.id_instr.specs.declared.dests.Dest.{Dest}
use Rattle.id_build.specs.declared.arc.Arc.{Arc}
use Rattle.id_build.specs.declared.arc.Feed.{Feed}
use Rattle.id_build.specs.Made.{arc_of, arcs_in, dest_of, dests_from}
use Rattle.id_build.specs.Rows.{feeds}
use Rattle.id_value.proofs.DifferLemmas.{AllDiffer-append}
use Rattle.id_value.proofs.AmongLemmas.{Among-either, Among-from_map, Among-left, Among-map, Among-right}
use Rattle.id_value.specs.List.{AllDiffer, Among}
use Rattle.std.specs.Bool.{beq}

beq-refl : (s : Bool) → beq s s ≡ true
beq-refl true = refl
beq-refl false = refl

beq-true : (s t : Bool) → beq s t ≡ true → s ≡ t
beq-true true true e = refl
beq-true true false e = cc
beq-true false true e = cc
beq-true false false e = refl

and-true : (a b : Bool) → (a && b) ≡ true → (a ≡ true) × (b ≡ true)
and-true true b e = (refl, e)
and-true false b e = cc

-- where an arc from the side of the instruction goes is among its destinations
pub dests_from-among : (a : Arc) (ws : List Arc) → Among a ws → Among (dest_of a) (dests_from a.from a.side ws)
dests_from-among a [] h = absurd h
dests_from-among a (v ∷ ws) (inl i) =
    let test : is_from a.from a.side v ≡ true =
    is_from-here a.from a.side v (sym (ap (λ z. z.from) i)) ∙ ap (λ z. beq z a.side) (sym (ap (λ z. z.side) i)) ∙
    beq-refl a.side in
    rw test (inl (ap dest_of i))
dests_from-among a (v ∷ ws) (inr h) =
    let m = a.from in
    let s = a.side in
    elim (is_from m s v) as (λ b. Among (dest_of a) (cond b (dest_of v ∷ dests_from m s ws) (dests_from m s ws)))
    [ true ↦ inr (dests_from-among a ws h) | false ↦ dests_from-among a ws h ]

-- each destination of the instruction is where an arc of it goes
pub dests_from-from : (m : ℕ) (s : Bool) (d : Dest) (ws : List Arc) → Among d (dests_from m s ws) →
    Among (record { from = m; side = s; to = d.instr; port = d.port }) ws
dests_from-from m s d [] h = absurd h
dests_from-from m s d (v ∷ ws) h = at (is_from m s v) refl (dests_from-from m s d ws) h
  where
    at : (b : Bool) → is_from m s v ≡ b
        → (Among d (dests_from m s ws) → Among (record { from = m; side = s; to = d.instr; port = d.port }) ws) →
        Among d (cond b (dest_of v ∷ dests_from m s ws) (dests_from m s ws))
        → Among (record { from = m; side = s; to = d.instr; port = d.port }) (v ∷ ws)
    at true e f (inl i) =
        let both = and-true (eqb v.from m) (beq v.side s) e in
        let from = eqb-true v.from m both.0 in
        let side = beq-true v.side s both.1 in
        inl (ap (λ x. record { from = x; side = s; to = d.instr; port = d.port }) (sym from) ∙
        ap (λ x. record { from = v.from; side = x; to = d.instr; port = d.port }) (sym side) ∙
        ap (λ x. record { from = v.from; side = v.side; to = x.instr; port = x.port }) i)
    at true e f (inr i) = inr (f i)
    at false e f i = inr (f i)

-- where no arc stands twice, no destination does
pub AllDiffer-dests : (m : ℕ) (s : Bool) (ws : List Arc) → AllDiffer ws → AllDiffer (dests_from m s ws)
AllDiffer-dests m s [] d = tt
AllDiffer-dests m s (v ∷ ws) d = at (is_from m s v) refl (AllDiffer-dests m s ws d.1)
  where
    at : (b : Bool) → is_from m s v ≡ b → AllDiffer (dests_from m s ws)
        → AllDiffer (cond b (dest_of v ∷ dests_from m s ws) (dests_from m s ws))
    at true e f = (
      λ i. (
          let both = and-true (eqb v.from m) (beq v.side s) e in
          let from = eqb-true v.from m both.0 in
          let side = beq-true v.side s both.1 in
          let A : Arc → Type 0 = λ x. Among x ws in
          d.0 (subst A (ap (λ x. record { from = x; side = s; to = v.to; port = v.port }) (sym from) ∙
          ap (λ x. record { from = v.from; side = x; to = v.to; port = v.port }) (sym side))
          (dests_from-from m s (dest_of v) ws i))
          ),
      f,
    )
    at false e f = f

-- the arcs that a row is fed by are among all
pub arcs_in-among : (P : Checked) (F ns : List ℕ) (n : ℕ) (f : Feed) → Among n ns → Among f (feeds P n)
    → Among (arc_of F n f) (arcs_in P F ns)
arcs_in-among P F [] n f h i = absurd h
arcs_in-among P F (x ∷ xs) n f (inl e) i =
    let Z : ℕ → Type 0 = λ z. Among (arc_of F n f) (arcs_in P F (z ∷ xs)) in
    subst Z e
    (Among-left (arc_of F n f) (map (arc_of F n) (feeds P n)) (arcs_in P F xs) (Among-map (arc_of F n) f (feeds P n) i))
arcs_in-among P F (x ∷ xs) n f (inr h) i =
    Among-right (arc_of F n f) (map (arc_of F x) (feeds P x)) (arcs_in P F xs) (arcs_in-among P F xs n f h i)

-- an arc is what feeds a row
pub record IsFed (P : Checked) (F ns : List ℕ) (a : Arc) : Type 0 where
  pub n : ℕ
  pub fed : Feed
  pub at : Among n ns
  pub among : Among fed (feeds P n)
  pub is : a ≡ arc_of F n fed

pub arcs_in-from : (P : Checked) (F ns : List ℕ) (a : Arc) → Among a (arcs_in P F ns) → IsFed P F ns a
arcs_in-from P F [] a h = absurd h
arcs_in-from P F (x ∷ xs) a h =
    elim (Among-either a (map (arc_of F x) (feeds P x)) (arcs_in P F xs) h) [
      | inl i ↦ (let from = Among-from_map (arc_of F x) a (feeds P x) i in
          record { n = x; fed = from.0; at = inl refl; among = from.1; is = from.2 })
      | inr i ↦ (let rest = arcs_in-from P F xs a i in
          record { n = rest.n; fed = rest.fed; at = inr rest.at; among = rest.among; is = rest.is })
    ]

-- what two rows are fed by are two arcs, and so are two feeds of one
abbrev pub Tells : (P : Checked) (F os : List ℕ) → Type 0
Tells P F os =
    (n n' : ℕ) (f f' : Feed) → Among n os → Among n' os → Among f (feeds P n) → Among f' (feeds P n')
    → arc_of F n f ≡ arc_of F n' f' →
    (n ≡ n') × (f ≡ f')

AllDiffer-map : {A B : Type 0} (g : A → B) (xs : List A) → ((x y : A) → Among x xs → Among y xs → g x ≡ g y → x ≡ y)
    → AllDiffer xs → AllDiffer (map g xs)
AllDiffer-map g [] f d = tt
AllDiffer-map {A = A} g (x ∷ xs) f d = (
  λ h. (let from = Among-from_map g (g x) xs h in let Z : A →
      Type 0 = λ z. Among z xs in d.0 (subst Z (sym (f x from.0 (inl refl) (inr from.1) from.2)) from.1)),
  AllDiffer-map g xs (λ y z i j e. f y z (inr i) (inr j) e) d.1,
)

-- no arc stands twice
pub AllDiffer-arcs_in : (P : Checked) (F os : List ℕ) → Tells P F os → ((n : ℕ) → Among n os → AllDiffer (feeds P n))
    → (ns : List ℕ) →
    ((n : ℕ) → Among n ns → Among n os) → AllDiffer ns → AllDiffer (arcs_in P F ns)
AllDiffer-arcs_in P F os tells once [] sub d = tt
AllDiffer-arcs_in P F os tells once (x ∷ xs) sub d =
    let here = sub x (inl refl) in
    AllDiffer-append (map (arc_of F x) (feeds P x)) (arcs_in P F xs)
    (AllDiffer-map (arc_of F x) (feeds P x) (λ f f' i i' e. (tells x x f f' here here i i' e).1) (once x here))
    (AllDiffer-arcs_in P F os tells once xs (λ n i. sub n (inr i)) d.1)
    (λ a i j. (
    let from = Among-from_map (arc_of F x) a (feeds P x) i in
    let fed = arcs_in-from P F xs a j in
    let A : ℕ → Type 0 = λ z. Among z xs in
    d.0 (subst A
    (sym (tells x fed.n from.0 fed.fed here (sub fed.n (inr fed.at)) from.1 fed.among (sym from.2 ∙ fed.is)).0) fed.at)
    ))
