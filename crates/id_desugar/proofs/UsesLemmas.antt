-- The binders that names mean, gathered one after another, or an inner span at a time.
use Rattle.std.proofs.Common.{◌≡◌, ℕ, zero, suc, ◌+◌, ◌≤◌, ◌<◌, Bool, true, false, List, [], ◌∷◌, ◌++◌, Option, Some}
use Rattle.std.proofs.Common.{None, refl, ap, sym, ◌∙◌, subst, arith}
use Rattle.std.specs.Prelude.{◌==◌, ◌-◌, if◌then◌else◌}
use Rattle.std.proofs.lemmas.Bool.{false≢true}
use Rattle.std.proofs.lemmas.Bool.Decides.{nat_tests}
use Rattle.id_desugar.specs.Regions.{has, imports_by, is_outside, with_use}
use Rattle.id_desugar.specs.Gathering.{with_uses}

keep : (t u v : Bool) → (u ≡ true → v ≡ true) → (if t then true else u) ≡ true → (if t then true else v) ≡ true
keep true u v f h = refl
keep false u v f h = f h

-- a list with more behind it has what it had
pub has_behind : (bs cs : List ℕ) (b : ℕ) → has bs b ≡ true → has (bs ++ cs) b ≡ true
has_behind [] cs b h = cc
has_behind (x ∷ xs) cs b h = keep (x == b) (has xs b) (has (xs ++ cs) b) (has_behind xs cs b) h

-- and its last
pub has_last : (bs : List ℕ) (b : ℕ) → has (bs ++ b ∷ []) b ≡ true
has_last [] b = grind (arith, nat_tests)
has_last (x ∷ xs) b = keep (x == b) true (has (xs ++ b ∷ []) b) (λ _. has_last xs b) (anything (x == b))
  where
    anything : (t : Bool) → (if t then true else true) ≡ true
    anything true = refl
    anything false = refl

-- a binder that is noted stays, and one from outside is there once it was noted
pub noted : (lo hi : ℕ) (bs : List ℕ) (b : ℕ) → is_outside lo hi b ≡ true → has (with_use lo hi bs (Some b)) b ≡ true
noted lo hi bs b out = at (is_outside lo hi b) out (has bs b) refl
  where
    at : (o : Bool) → o ≡ true → (h : Bool) → has bs b ≡ h
        → has (if o then (if h then bs else bs ++ b ∷ []) else bs) b ≡ true
    at true e true f = f
    at true e false f = has_last bs b
    at false e h f = cc

stays : (lo hi : ℕ) (bs : List ℕ) (o : Option ℕ) (b : ℕ) → has bs b ≡ true → has (with_use lo hi bs o) b ≡ true
stays lo hi bs None b h = h
stays lo hi bs (Some c) b h = at (is_outside lo hi c) (has bs c)
  where
    at : (o g : Bool) → has (if o then (if g then bs else bs ++ c ∷ []) else bs) b ≡ true
    at true true = h
    at true false = has_behind bs (c ∷ []) b h
    at false g = h

stay : (lo hi : ℕ) (bs cs : List ℕ) (b : ℕ) → has bs b ≡ true → has (with_uses lo hi bs cs) b ≡ true
stay lo hi bs [] b h = h
stay lo hi bs (c ∷ cs) b h = stay lo hi (with_use lo hi bs (Some c)) cs b (stays lo hi bs (Some c) b h)

-- a binder that the one list has needs not be noted again once the list was noted
all_noted : (lo hi : ℕ) (bs cs : List ℕ) (b : ℕ) → has cs b ≡ true → is_outside lo hi b ≡ true
    → has (with_uses lo hi bs cs) b ≡ true
all_noted lo hi bs [] b h out = cc
all_noted lo hi bs (c ∷ cs) b h out =
    either (c == b) refl h (λ g. all_noted lo hi (with_use lo hi bs (Some c)) cs b g out)
  where
    either : (t : Bool) → (c == b) ≡ t → (if t then true else has cs b) ≡ true
        → (has cs b ≡ true → has (with_uses lo hi (with_use lo hi bs (Some c)) cs) b ≡ true)
        → has (with_uses lo hi (with_use lo hi bs (Some c)) cs) b ≡ true
    either true e g f =
        let same : c ≡ b = grind (arith, nat_tests) in
        stay lo hi (with_use lo hi bs (Some c)) cs b
        (subst (λ z. has (with_use lo hi bs (Some z)) b ≡ true) (sym same) (noted lo hi bs b out))
    either false e g f = f g

absorbed : (lo hi : ℕ) (bs : List ℕ) (b : ℕ) → (is_outside lo hi b ≡ true → has bs b ≡ true)
    → with_use lo hi bs (Some b) ≡ bs
absorbed lo hi bs b f = at (is_outside lo hi b) f
  where
    at : (o : Bool) → (o ≡ true → has bs b ≡ true) → (if o then (if has bs b then bs else bs ++ b ∷ []) else bs) ≡ bs
    at true g = ap (λ z. if z then bs else bs ++ b ∷ []) (g refl)
    at false g = refl

with_uses-behind : (lo hi : ℕ) (bs cs : List ℕ) (b : ℕ)
    → with_uses lo hi bs (cs ++ b ∷ []) ≡ with_use lo hi (with_uses lo hi bs cs) (Some b)
with_uses-behind lo hi bs [] b = refl
with_uses-behind lo hi bs (c ∷ cs) b = with_uses-behind lo hi (with_use lo hi bs (Some c)) cs b

inner_is_inside : (lo hi a e b : ℕ) → lo ≤ a → e ≤ hi → is_outside a e b ≡ false → is_outside lo hi b ≡ false
inner_is_inside lo hi a e b l h i = grind (arith, nat_tests)

-- noting what an inner span imports is noting what its rows use
one_more : (lo hi a e : ℕ) (bs cs : List ℕ) (o : Option ℕ) → lo ≤ a → e ≤ hi
    → with_uses lo hi bs (with_use a e cs o) ≡ with_use lo hi (with_uses lo hi bs cs) o
one_more lo hi a e bs cs None l h = refl
one_more lo hi a e bs cs (Some b) l h = at (is_outside a e b) refl (has cs b) refl
  where
    at : (o : Bool) → is_outside a e b ≡ o → (g : Bool) → has cs b ≡ g
        → with_uses lo hi bs (if o then (if g then cs else cs ++ b ∷ []) else cs)
        ≡ with_use lo hi (with_uses lo hi bs cs) (Some b)
    at true i true f = sym (absorbed lo hi (with_uses lo hi bs cs) b (all_noted lo hi bs cs b f))
    at true i false f = with_uses-behind lo hi bs cs b
    at false i g f =
        let inside : is_outside lo hi b ≡ false = inner_is_inside lo hi a e b l h i in
        sym (absorbed lo hi (with_uses lo hi bs cs) b (λ out. absurd (false≢true (sym inside ∙ out))))

-- so the rows from a on, of which k are in the inner span up to e, are noted at once
pub inner_span : (f : ℕ → Option ℕ) (lo hi a e k : ℕ) → lo ≤ a → e ≤ hi
    → imports_by f lo hi ((a - lo) + k) ≡ with_uses lo hi (imports_by f lo hi (a - lo)) (imports_by f a e k)
inner_span f lo hi a e zero l h = ap (imports_by f lo hi) (omega arith)
inner_span f lo hi a e (suc k) l h =
    let there : (a - lo) + suc k ≡ suc ((a - lo) + k) = omega arith in
    let row : lo + ((a - lo) + k) ≡ a + k = omega (arith, l) in
    ap (imports_by f lo hi) there ∙ ap (λ z. with_use lo hi (imports_by f lo hi ((a - lo) + k)) (f z)) row
    ∙ ap (λ z. with_use lo hi z (f (a + k))) (inner_span f lo hi a e k l h)
    ∙ sym (one_more lo hi a e (imports_by f lo hi (a - lo)) (imports_by f a e k) (f (a + k)) l h)

-- what is used alike is imported alike
pub imports-same : (f g : ℕ → Option ℕ) (lo hi k : ℕ) → ((i : ℕ) → lo ≤ i → i < lo + k → f i ≡ g i)
    → imports_by f lo hi k ≡ imports_by g lo hi k
imports-same f g lo hi zero h = refl
imports-same f g lo hi (suc k) h =
    ap (λ z. with_use lo hi z (f (lo + k))) (imports-same f g lo hi k (λ i l m. h i l (omega arith)))
    ∙ ap (with_use lo hi (imports_by g lo hi k)) (h (lo + k) (omega arith) (omega arith))
