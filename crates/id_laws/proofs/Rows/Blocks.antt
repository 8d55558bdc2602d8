-- The heads of a table, those of loops, and the parameters of each: each stands once in its list.
use Rattle.std.proofs.Common.{◌≡◌, ◌⊎◌, inl, inr, ℕ, zero, suc, ◌<◌, ◌&&◌, Bool, true, false, cond, List, [], ◌∷◌, ◌++◌}
use Rattle.std.proofs.Common.{map, nat_eq, refl, sym, ◌∙◌, ap}
use Rattle.std.proofs.Common.{subst, arith, length}
use Rattle.std.specs.Prelude.{filter}
use Rattle.std.proofs.lemmas.Bool.{cases_eq, eqb-true, eq-eqb}
use Rattle.id_value.specs.declared.Kind.{Kind}
use Rattle.id_value.specs.List.{Among, AllDiffer}
use Rattle.id_value.proofs.AmongLemmas.{Among-left, Among-right, Among-either}
use Rattle.id_value.proofs.DifferLemmas.{AllDiffer-append}
use Rattle.id_table.specs.declared.row.Row.{Row}
use Rattle.id_table.specs.declared.row.Node.{Node}
use Rattle.id_table.specs.declared.row.Node.TheVariants.{Head, Param, LoopHead}
use Rattle.id_table.specs.Rows.{at}
use Rattle.id_table.specs.Tables.{begins_block, is_head, is_param}
use Rattle.id_table.specs.Turns.{heads_below, heads_of, params_below}
use Rattle.id_check.specs.declared.checked.Checked.{Checked}
use Rattle.id_check.specs.Programs.{rows}
use Rattle.id_desugar.specs.Regions.{is_loop_head, loop_heads}
use Rattle.id_desugar.proofs.HeadsLemmas.{loop_heads-is, loop_heads-has, loop_heads-differ}
use Rattle.id_build.specs.Rows.{node}
use Rattle.id_build.specs.Schemas.{all_heads}

true_false : true ≡ false → ⊥
true_false h = cc

pub head_is : (m : Node) → is_head m ≡ true → m ≡ Head
head_is Head h = refl
head_is _ h = absurd (true_false (sym h))

-- the name and the kind of a parameter
pub record IsParam (m : Node) : Type 0 where
  pub name : ℕ
  pub kind : Kind
  pub is : m ≡ Param name kind

pub param_is : (m : Node) → is_param m ≡ true → IsParam m
param_is (Param x k) h = record { name = x; kind = k; is = refl }
param_is _ h = absurd (true_false (sym h))

both_true : (a b : Bool) → (a && b) ≡ true → (a ≡ true) × (b ≡ true)
both_true true b e = (refl, e)
both_true false b e = absurd (true_false (sym e))

-- ---- lists of the rows that pass a test

-- those of the first n rows that pass
abbrev passing : (ℕ → Bool) → ℕ → List ℕ
passing f zero = []
passing f (suc i) = cond (f i) (passing f i ++ i ∷ []) (passing f i)

among_if : (b : Bool) (xs : List ℕ) (i x : ℕ) → Among x (cond b (xs ++ i ∷ []) xs) → Among x xs ⊎ ((x ≡ i) × (b ≡ true))
among_if true xs i x h =
    elim (Among-either x xs (i ∷ []) h) [
      | inl k ↦ inl k
      | inr k ↦ elim k [ inl e ↦ inr (e, refl) | inr none ↦ absurd none ]
    ]
among_if false xs i x h = inl h

-- what is in the list is one of the rows, and passes
in_passing : (f : ℕ → Bool) (n x : ℕ) → Among x (passing f n) → (x < n) × (f x ≡ true)
in_passing f zero x h = absurd h
in_passing f (suc i) x h =
    elim (among_if (f i) (passing f i) i x h) [
      | inl k ↦ let z = in_passing f i x k in (omega (arith, z.0), z.1)
      | inr k ↦ (omega (arith, k.0), ap f k.0 ∙ k.1)
    ]

passing_old : (b : Bool) (xs : List ℕ) (i x : ℕ) → Among x xs → Among x (cond b (xs ++ i ∷ []) xs)
passing_old true xs i x h = Among-left x xs (i ∷ []) h
passing_old false xs i x h = h

passing_new : (b : Bool) (xs : List ℕ) (i : ℕ) → b ≡ true → Among i (cond b (xs ++ i ∷ []) xs)
passing_new true xs i e = Among-right i xs (i ∷ []) (inl refl)
passing_new false xs i e = absurd (true_false (sym e))

-- each row that passes is in the list
to_passing : (f : ℕ → Bool) (n x : ℕ) → x < n → f x ≡ true → Among x (passing f n)
to_passing f zero x h e = absurd (omega (arith, h))
to_passing f (suc i) x h e =
    elim (cases_eq x i) [
      | inl is ↦ subst (λ y. Among y (passing f (suc i))) (sym is)
          (passing_new (f i) (passing f i) i (ap f (sym is) ∙ e))
      | inr other ↦ passing_old (f i) (passing f i) i x (to_passing f i x (less x i h other) e)
    ]
  where
    less : (x i : ℕ) → x < suc i → (x ≡ i → ⊥) → x < i
    less x i h other = omega (arith, h, other)

passing_if : (b : Bool) (xs : List ℕ) (i : ℕ) → AllDiffer xs → (Among i xs → ⊥) → AllDiffer (cond b (xs ++ i ∷ []) xs)
passing_if true xs i d apart = AllDiffer-append xs (i ∷ []) d (λ h. h, tt)
    (λ z h k. elim k [ inl e ↦ apart (subst (λ y. Among y xs) e h) | inr none ↦ absurd none ])
passing_if false xs i d apart = d

-- none is there twice
passing_differ : (f : ℕ → Bool) (n : ℕ) → AllDiffer (passing f n)
passing_differ f zero = tt
passing_differ f (suc i) =
    passing_if (f i) (passing f i) i (passing_differ f i) (λ h. let z = in_passing f i i h in
    absurd (omega (arith, z.0)))

-- ---- heads and parameters

heads_pass : (R : List Row) (n : ℕ) → heads_below R n ≡ passing (λ i. is_head (at R i).node) n
heads_pass R zero = refl
heads_pass R (suc i) = ap (λ xs. cond (is_head (at R i).node) (xs ++ i ∷ []) xs) (heads_pass R i)

params_pass : (R : List Row) (h n : ℕ)
    → params_below R h n ≡ passing (λ i. is_param (at R i).node && nat_eq (at R i).block h) n
params_pass R h zero = refl
params_pass R h (suc i) =
    ap (λ xs. cond (is_param (at R i).node && nat_eq (at R i).block h) (xs ++ i ∷ []) xs) (params_pass R h i)

pub a_head : (R : List Row) (n h : ℕ) → Among h (heads_below R n) → (h < n) × ((at R h).node ≡ Head)
a_head R n h among = let z = in_passing _ n h (subst (Among h) (heads_pass R n) among) in (z.0, head_is _ z.1)

pub head_listed : (R : List Row) (n h : ℕ) → h < n → (at R h).node ≡ Head → Among h (heads_below R n)
head_listed R n h less is = subst (Among h) (sym (heads_pass R n)) (to_passing _ n h less (ap is_head is))

pub heads_differ : (R : List Row) (n : ℕ) → AllDiffer (heads_below R n)
heads_differ R n = subst AllDiffer (sym (heads_pass R n)) (passing_differ _ n)

pub params_differ : (R : List Row) (h n : ℕ) → AllDiffer (params_below R h n)
params_differ R h n = subst AllDiffer (sym (params_pass R h n)) (passing_differ _ n)

-- a row of the list is a parameter in the block of the head
pub record ParamIn (R : List Row) (h n b : ℕ) : Type 0 where
  pub within : b < n
  pub param : IsParam (at R b).node
  pub block : (at R b).block ≡ h

pub a_param : (R : List Row) (h n b : ℕ) → Among b (params_below R h n) → ParamIn R h n b
a_param R h n b among =
    let z = in_passing _ n b (subst (Among b) (params_pass R h n) among) in
    let both = both_true (is_param (at R b).node) (nat_eq (at R b).block h) z.1 in
    record { within = z.0; param = param_is _ both.0; block = eqb-true (at R b).block h both.1 }

-- each parameter in the block of the head is in the list
pub param_listed : (R : List Row) (h n b x : ℕ) (k : Kind) → b < n → (at R b).node ≡ Param x k → (at R b).block ≡ h
    → Among b (params_below R h n)
param_listed R h n b x k less is block =
    subst (Among b) (sym (params_pass R h n))
    (to_passing (λ i. is_param (at R i).node && nat_eq (at R i).block h) n b less
    (ap (λ m. is_param m && nat_eq (at R b).block h) is ∙ eq-eqb (at R b).block h block))

-- ---- the heads of all blocks

loop_begins : (m : Node) → is_loop_head m ≡ true → begins_block m ≡ true
loop_begins (LoopHead s) h = refl
loop_begins _ h = absurd (true_false (sym h))

-- a head of a block begins one
pub any_head : (P : Checked) (h : ℕ) → Among h (all_heads P) → (h < length (rows P)) × (begins_block (node P h) ≡ true)
any_head P h among =
    elim (Among-either h (heads_of (rows P)) (loop_heads P) among) [
      | inl k ↦ let z = a_head (rows P) (length (rows P)) h k in (z.0, ap begins_block z.1)
      | inr k ↦ let z = loop_heads-is P h k in (z.0, loop_begins (node P h) z.1)
    ]

-- and each row that begins a block is among them
pub all_listed : (P : Checked) (h : ℕ) → h < length (rows P) → begins_block (node P h) ≡ true → Among h (all_heads P)
all_listed P h within begins = go (node P h) refl begins
  where
    go : (m : Node) → node P h ≡ m → begins_block m ≡ true → Among h (all_heads P)
    go Head is b = Among-left h (heads_of (rows P)) (loop_heads P) (head_listed (rows P) (length (rows P)) h within is)
    go (LoopHead s) is b =
        Among-right h (heads_of (rows P)) (loop_heads P) (loop_heads-has P h within (ap is_loop_head is))
    go _ is b = absurd (true_false (sym b))

-- no two are one
pub all_differ : (P : Checked) → AllDiffer (all_heads P)
all_differ P =
    AllDiffer-append (heads_of (rows P)) (loop_heads P) (heads_differ (rows P) (length (rows P)))
    (loop_heads-differ P)
    (λ h a b.
    let z = a_head (rows P) (length (rows P)) h a in
    let l = loop_heads-is P h b in
    true_false (sym l.1 ∙ ap is_loop_head z.1))

-- ---- where one alone passes

kept : {A : Type 0} (b : Bool) (x : A) (xs : List A) → b ≡ true → cond b (x ∷ xs) xs ≡ x ∷ xs
kept true x xs e = refl
kept false x xs e = absurd (true_false (sym e))

dropped : {A : Type 0} (b : Bool) (x : A) (xs : List A) → (b ≡ true → ⊥) → cond b (x ∷ xs) xs ≡ xs
dropped true x xs e = absurd (e refl)
dropped false x xs e = refl

none_pass : {A B : Type 0} (f : B → Bool) (g : A → B) (xs : List A) → ((y : A) → Among y xs → f (g y) ≡ true → ⊥)
    → filter f (map g xs) ≡ []
none_pass f g [] none = refl
none_pass f g (y ∷ xs) none =
    dropped (f (g y)) (g y) (filter f (map g xs)) (none y (inl refl)) ∙ none_pass f g xs (λ z h e. none z (inr h) e)

-- where one of them alone passes, it is what is left
pub one_passes : {A B : Type 0} (f : B → Bool) (g : A → B) (xs : List A) (x : A) → AllDiffer xs → Among x xs
    → f (g x) ≡ true → ((y : A) → Among y xs → f (g y) ≡ true → y ≡ x) → filter f (map g xs) ≡ g x ∷ []
one_passes f g [] x d h e only = absurd h
one_passes {A = A} f g (y ∷ xs) x d (inl is) e only =
    kept (f (g y)) (g y) (filter f (map g xs)) (ap (λ z. f (g z)) (sym is) ∙ e)
    ∙ ap (λ zs. g y ∷ zs) (none_pass f g xs (λ z h t. d.0 (subst (λ w. Among w xs) (only z (inr h) t ∙ is) h)))
    ∙ ap (λ z. g z ∷ []) (sym is)
one_passes {A = A} f g (y ∷ xs) x d (inr h) e only =
    dropped (f (g y)) (g y) (filter f (map g xs)) (λ t. d.0 (subst (λ w. Among w xs) (sym (only y (inl refl) t)) h))
    ∙ one_passes f g xs x d.1 h e (λ z k t. only z (inr k) t)
