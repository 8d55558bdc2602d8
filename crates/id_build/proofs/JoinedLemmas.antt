-- Lemmas on instructions with their arcs.
use Rattle.std.proofs.Common.{◌≡◌, ◌≢◌, ℕ, zero, suc, ◌+◌, ◌<◌, Bool, true, false, cond, eqb, List, [], ◌∷◌, ◌++◌}
use Rattle.std.proofs.Common.{length, get_or, refl, ap, append-nil, sym, ◌∙◌, arith, eq-eqb, inl, inr}
use Rattle.std.specs.Prelude.{◌&&◌}
use Rattle.std.proofs.Math.ListN.{set}
use Rattle.std.proofs.lemmas.List.{append_assoc}
use Rattle.std.specs.Prelude.{All, fold}
use Rattle.std.proofs.lemmas.Bool.Decides.{eqb_tells}
use Rattle.id_build.specs.declared.arc.Piece.{Piece}
use Rattle.id_build.specs.declared.arc.Arc.{Arc}
use Rattle.id_build.specs.Made.{connected, connected_at, dest_of, dests_from, instrs_from, joined, IsBetween, with_dest}
use Rattle.std.specs.Bool.{beq}
use Rattle.id_instr.specs.declared.dests.Dest.{Dest}
use Rattle.id_instr.specs.declared.instr.Instr.{Instr}

-- whether an arc comes from this side of this instruction
abbrev pub is_from : ℕ → Bool → Arc → Bool
is_from m s a = eqb a.from m && beq a.side s

-- one more arc from the side of the instruction comes last
pub dests_from-push_same : (m : ℕ) (s : Bool) (ws : List Arc) (w : Arc) → is_from m s w ≡ true →
    dests_from m s (ws ++ w ∷ []) ≡ dests_from m s ws ++ dest_of w ∷ []
dests_from-push_same m s [] w e = rw e refl
dests_from-push_same m s (v ∷ ws) w e =
    elim (is_from m s v) as (λ b. cond b (dest_of v ∷ dests_from m s (ws ++ w ∷ [])) (dests_from m s (ws ++ w ∷ [])) ≡
    cond b (dest_of v ∷ dests_from m s ws) (dests_from m s ws) ++ dest_of w ∷ [])
    [ true ↦ ap (λ l. dest_of v ∷ l) (dests_from-push_same m s ws w e) | false ↦ dests_from-push_same m s ws w e ]

-- one more arc from elsewhere changes nothing
pub dests_from-push_other : (m : ℕ) (s : Bool) (ws : List Arc) (w : Arc) → is_from m s w ≡ false
    → dests_from m s (ws ++ w ∷ []) ≡ dests_from m s ws
dests_from-push_other m s [] w e = rw e refl
dests_from-push_other m s (v ∷ ws) w e =
    elim (is_from m s v) as (λ b. cond b (dest_of v ∷ dests_from m s (ws ++ w ∷ [])) (dests_from m s (ws ++ w ∷ [])) ≡
    cond b (dest_of v ∷ dests_from m s ws) (dests_from m s ws))
    [ true ↦ ap (λ l. dest_of v ∷ l) (dests_from-push_other m s ws w e) | false ↦ dests_from-push_other m s ws w e ]

-- numbers that differ are not equal by the test
eqb-false : (a b : ℕ) → a ≢ b → eqb a b ≡ false
eqb-false a b ne = elim (eqb_tells a b) [ inl h ↦ absurd (ne h.1) | inr h ↦ h.0 ]

is_from-other : (m : ℕ) (s : Bool) (w : Arc) → w.from ≢ m → is_from m s w ≡ false
is_from-other m s w ne = ap (λ b. b && beq w.side s) (eqb-false w.from m ne)

pub is_from-here : (m : ℕ) (s : Bool) (w : Arc) → w.from ≡ m → is_from m s w ≡ beq w.side s
is_from-here m s w e = ap (λ b. b && beq w.side s) (eq-eqb w.from m e)

-- one more arc from an instruction is one more destination on its side
joined-push : (F : List ℕ) (m : ℕ) (p : Piece) (ws : List Arc) (w : Arc) → w.from ≡ m →
    joined F m p (ws ++ w ∷ []) ≡ with_dest w.side (joined F m p ws) (dest_of w)
joined-push F m p ws w e = at w.side refl
  where
    at : (s : Bool) → w.side ≡ s → joined F m p (ws ++ w ∷ []) ≡ with_dest s (joined F m p ws) (dest_of w)
    at true h =
        let same = dests_from-push_same m true ws w (is_from-here m true w e ∙ ap (λ x. beq x true) h) in
        let other = dests_from-push_other m false ws w (is_from-here m false w e ∙ ap (λ x. beq x false) h) in
        rw (same, other) refl
    at false h =
        let same = dests_from-push_same m false ws w (is_from-here m false w e ∙ ap (λ x. beq x false) h) in
        let other = dests_from-push_other m true ws w (is_from-here m true w e ∙ ap (λ x. beq x true) h) in
        rw (same, other) refl

joined-other : (F : List ℕ) (m : ℕ) (p : Piece) (ws : List Arc) (w : Arc) → w.from ≢ m
    → joined F m p (ws ++ w ∷ []) ≡ joined F m p ws
joined-other F m p ws w ne =
    let one = dests_from-push_other m true ws w (is_from-other m true w ne) in
    let two = dests_from-push_other m false ws w (is_from-other m false w ne) in
    rw (one, two) refl

-- one more arc from an instruction before these changes nothing
instrs_from-push_before : (F : List ℕ) (m : ℕ) (ps : List Piece) (ws : List Arc) (w : Arc) → w.from < m →
    instrs_from F m ps (ws ++ w ∷ []) ≡ instrs_from F m ps ws
instrs_from-push_before F m [] ws w h = refl
instrs_from-push_before F m (p ∷ ps) ws w h =
    let other = joined-other F m p ws w (omega arith) in
    let rest = instrs_from-push_before F (m + 1) ps ws w (omega arith) in
    cc

pub instrs_from-push : (F : List ℕ) (ps : List Piece) (m k : ℕ) (ws : List Arc) (w : Arc) → w.from ≡ m + k →
    instrs_from F m ps (ws ++ w ∷ []) ≡ connected_at (instrs_from F m ps ws) k w.side (dest_of w)
instrs_from-push F [] m k ws w e = refl
instrs_from-push F (p ∷ ps) m zero ws w e =
    let same = joined-push F m p ws w (omega arith) in
    let rest = instrs_from-push_before F (m + 1) ps ws w (omega arith) in
    cc
instrs_from-push F (p ∷ ps) m (suc k) ws w e =
    let other = joined-other F m p ws w (omega arith) in
    let rest = instrs_from-push F ps (m + 1) k ws w (omega arith) in
    cc

-- each piece gives one instruction
pub length-instrs_from : (F : List ℕ) (m : ℕ) (ps : List Piece) (ws : List Arc)
    → length (instrs_from F m ps ws) ≡ length ps
length-instrs_from F m [] ws = refl
length-instrs_from F m (p ∷ ps) ws = ap suc (length-instrs_from F (m + 1) ps ws)

-- to change the m-th instruction is to write it again
pub connected_at-set : (is : List Instr) (m : ℕ) (s : Bool) (i : Instr) (d : Dest) → i ≡ get_or is m i → m < length is →
    set is m (with_dest s i d) ≡ connected_at is m s d
connected_at-set [] m s i d e h = absurd (omega arith)
connected_at-set (j ∷ is) zero s i d e h = ap (λ x. with_dest s x d ∷ is) e
connected_at-set (j ∷ is) (suc m) s i d e h = ap (λ l. j ∷ l) (connected_at-set is m s i d e (omega arith))

-- one more arc leaves as many instructions
length-connected_at : (is : List Instr) (m : ℕ) (s : Bool) (d : Dest) → length (connected_at is m s d) ≡ length is
length-connected_at [] m s d = refl
length-connected_at (i ∷ is) zero s d = refl
length-connected_at (i ∷ is) (suc m) s d = ap suc (length-connected_at is m s d)

-- and so do several
pub length-connected : (is : List Instr) (vs : List Arc) → length (fold connected is vs) ≡ length is
length-connected is [] = refl
length-connected is (v ∷ vs) = length-connected (connected is v) vs ∙ length-connected_at is v.from v.side (dest_of v)

-- the instructions of these pieces with some arcs, and then with others, are those with all of them
pub instrs_from-append : (F : List ℕ) (ps : List Piece) (ws vs : List Arc)
    → fold connected (instrs_from F 0 ps ws) vs ≡ instrs_from F 0 ps (ws ++ vs)
instrs_from-append F ps ws [] = ap (instrs_from F 0 ps) (sym (append-nil ws))
instrs_from-append F ps ws (v ∷ vs) =
    ap (λ (is : List Instr). fold connected is vs) (sym (instrs_from-push F ps 0 v.from ws v (omega arith)))
    ∙ instrs_from-append F ps (ws ++ v ∷ []) vs ∙ ap (instrs_from F 0 ps) (append_assoc ws (v ∷ []) vs)

-- of two lists of arcs between the first n instructions each is one
pub AreBetween-left : (n : ℕ) (vs ws : List Arc) → All (IsBetween n) (vs ++ ws) → All (IsBetween n) vs
AreBetween-left n [] ws h k d lt = absurd (omega arith)
AreBetween-left n (v ∷ vs) ws h zero d lt = h zero d (omega arith)
AreBetween-left n (v ∷ vs) ws h (suc k) d lt =
    AreBetween-left n vs ws (λ j e less. h (suc j) e (omega arith)) k d (omega arith)

pub AreBetween-right : (n : ℕ) (vs ws : List Arc) → All (IsBetween n) (vs ++ ws) → All (IsBetween n) ws
AreBetween-right n [] ws h = h
AreBetween-right n (v ∷ vs) ws h = AreBetween-right n vs ws (λ j e less. h (suc j) e (omega arith))

-- without arcs it does not matter which number the first instruction has
pub bare-any : (F : List ℕ) (m k : ℕ) (ps : List Piece) → instrs_from F m ps [] ≡ instrs_from F k ps []
bare-any F m k [] = refl
bare-any F m k (p ∷ ps) = ap (λ l. joined F 0 p [] ∷ l) (bare-any F (m + 1) (k + 1) ps)

-- the instructions of more pieces stand behind those of the first
pub bare-append : (F : List ℕ) (m : ℕ) (ps qs : List Piece)
    → instrs_from F m (ps ++ qs) [] ≡ instrs_from F m ps [] ++ instrs_from F 0 qs []
bare-append F m [] qs = bare-any F m 0 qs
bare-append F m (p ∷ ps) qs = ap (λ l. joined F m p [] ∷ l) (bare-append F (m + 1) ps qs)
