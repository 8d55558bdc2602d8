-- Lemmas on specs/Paths.antt, in the order of its definitions.
use Rattle.std.proofs.Common.{◌≡◌, ◌≢◌, ◌⊎◌, inl, inr, ℕ, zero, suc, ◌+◌, ◌-◌, ◌<◌, ◌≤◌, Option, Some, None, List, []}
use Rattle.std.proofs.Common.{◌∷◌, ◌++◌, reverse, take, map, length, slice_get, refl, sym, ap, ◌∙◌}
use Rattle.std.proofs.Common.{arith}
use Rattle.std.proofs.lemmas.List.{append-nil, append_assoc, reverse-append}
use Rattle.id_observe.proofs.WalksLemmas.{events-next, take-next}
use Rattle.std.specs.List.{cons_option, filter_map}
use Rattle.std.specs.HashMap.{get}
use Rattle.std.specs.Option.{option_map_or, option_or}
use Rattle.id_instr.specs.Graph.{Parts}
use Rattle.id_tag.specs.declared.Context.{Context}
use Rattle.id_tag.specs.declared.Tag.{Tag}
use Rattle.id_tag.specs.declared.Structure.{Structure}
use Rattle.id_tag.specs.Tags.{same_context, same_structure}
use Rattle.id_record.specs.Events.{EventView}
use Rattle.id_step.specs.Replays.{ElementView}
use Rattle.id_value.specs.List.{Among}
use Rattle.id_observe.specs.declared.records.Paths.{Paths}
use Rattle.id_observe.specs.Paths.{events_of, name_by, structure_by}
use Rattle.id_source.specs.declared.PathStep.{PathStep}
use Rattle.id_observe.specs.Paths.{enter_in, enter_of, maker_in, maker_of, path_by, path_of, step_of, steps_to}

some_none : {X : Type 0} {x : X} → Some x ≡ None → ⊥
some_none e = cc

-- one of three
pub or-assoc : {X : Type 0} (x y z : Option X) → option_or (option_or x y) z ≡ option_or x (option_or y z)
or-assoc None y z = refl
or-assoc (Some x) y z = refl

-- nothing or the other
pub or-none : {X : Type 0} (x : Option X) → option_or x None ≡ x
or-none None = refl
or-none (Some x) = refl

-- a walk in which the last element that gives something counts
pub record TakesLast {X Y : Type 0} (walk : List X → Option Y) (h : X → Option Y) : Type 0 where
  pub none : walk [] ≡ None
  pub more : (x : X) (xs : List X) → walk (x ∷ xs) ≡ option_or (walk xs) (h x)

-- the later of two lists counts first
last-append : {X Y : Type 0} {walk : List X → Option Y} {h : X → Option Y} → TakesLast walk h → (xs ys : List X)
    → walk (xs ++ ys) ≡ option_or (walk ys) (walk xs)
last-append {walk = walk} takes [] ys = sym (ap (option_or (walk ys)) takes.none ∙ or-none (walk ys))
last-append {walk = walk} {h = h} takes (x ∷ xs) ys =
    takes.more x (xs ++ ys) ∙ ap (λ o. option_or o (h x)) (last-append takes xs ys) ∙ or-assoc (walk ys) (walk xs) (h x)
    ∙ ap (option_or (walk ys)) (sym (takes.more x xs))

-- so does one more element
pub last-one : {X Y : Type 0} {walk : List X → Option Y} {h : X → Option Y} → TakesLast walk h
    → (xs : List X) (i : ℕ) (x : X) → slice_get xs i ≡ Some x
    → walk (take (i + 1) xs) ≡ option_or (h x) (walk (take i xs))
last-one {walk = walk} {h = h} takes xs i x at =
    ap walk (take-next xs i x at) ∙ last-append takes (take i xs) (x ∷ [])
    ∙ ap (λ o. option_or o (walk (take i xs))) (takes.more x [] ∙ ap (λ o. option_or o (h x)) takes.none)

-- and so do the events of one more record
pub last-next : {Y : Type 0} {walk : List EventView → Option Y} {h : EventView → Option Y} → TakesLast walk h
    → (es : List ElementView) (i : ℕ) (e : ElementView) → slice_get es i ≡ Some e
    → walk (events_of (map (λ x. x.state) (take (i + 1) es)))
    ≡ option_or (walk e.state.events) (walk (events_of (map (λ x. x.state) (take i es))))
last-next {walk = walk} takes es i e at =
    ap walk (events-next es i e at) ∙ last-append takes (events_of (map (λ x. x.state) (take i es))) e.state.events

-- the last of some elements
last_in : {X : Type 0} → List X → Option X
last_in [] = None
last_in (x ∷ xs) = option_or (last_in xs) (Some x)

last-in : {X Y : Type 0} {walk : List X → Option Y} {h : X → Option Y} → TakesLast walk h → (xs : List X)
    → walk xs ≡ last_in (filter_map h xs)
unfolding last_in
last-in takes [] = takes.none
last-in {Y = Y} {h = h} takes (x ∷ xs) = takes.more x xs ∙ ap (λ o. option_or o (h x)) (last-in takes xs) ∙ one (h x)
  where
    one : (o : Option Y) → option_or (last_in (filter_map h xs)) o ≡ last_in (cons_option o (filter_map h xs))
    one None = or-none (last_in (filter_map h xs))
    one (Some y) = refl

-- two walks give the same where their elements do
pub last-same : {X Y Z : Type 0} {v : List X → Option Z} {w : List Y → Option Z} {h : X → Option Z} {k : Y → Option Z}
    → TakesLast v h → TakesLast w k → (xs : List X) (ys : List Y) → filter_map h xs ≡ filter_map k ys → v xs ≡ w ys
last-same one other xs ys same = last-in one xs ∙ ap last_in same ∙ sym (last-in other ys)

-- of events, the last that entered the context counts, and the last that made the structure
pub enter_in-last : (g : Parts) (c : Context) → TakesLast (λ es. enter_in g es c) (λ e. enter_of g e c)
unfolding enter_in
enter_in-last g c = record { none = refl; more = λ e es. refl }

pub maker_in-last : (g : Parts) (s : Structure) → TakesLast (λ es. maker_in g es s) (λ e. maker_of g e s)
unfolding maker_in
maker_in-last g s = record { none = refl; more = λ e es. refl }

-- a tag whose context nothing entered has no steps
pub steps_to-main : (g : Parts) (enter : Context → Option Tag) (n : ℕ) (t : Tag) → enter t.context ≡ None
    → steps_to g enter n t ≡ []
unfolding steps_to
steps_to-main g enter zero t is = refl
steps_to-main g enter (suc n) t is =
    ap (λ o. option_map_or (λ u. steps_to g enter n u ++ step_of g u.instr t.iteration ∷ []) o []) is

-- no steps are taken
pub steps_to-zero : (g : Parts) (enter : Context → Option Tag) (t : Tag) → steps_to g enter 0 t ≡ []
unfolding steps_to
steps_to-zero g enter t = refl

-- the steps to a tag whose context was entered go on from those to the tag of the `enter`
pub steps_to-entered : (g : Parts) (enter : Context → Option Tag) (n : ℕ) (t u : Tag) → enter t.context ≡ Some u
    → steps_to g enter (suc n) t ≡ steps_to g enter n u ++ step_of g u.instr t.iteration ∷ []
unfolding steps_to
steps_to-entered g enter n t u is =
    ap (λ o. option_map_or (λ u. steps_to g enter n u ++ step_of g u.instr t.iteration ∷ []) o []) is

-- the steps are those to where a walk towards main is, and then those that it has passed, the last passed first
abbrev pub Walks : Parts → (Context → Option Tag) → ℕ → Tag → ℕ → Tag → List PathStep → Type 0
Walks g enter most t taken u passed = steps_to g enter most t ≡ steps_to g enter (most - taken) u ++ reverse passed

-- the walk begins at the tag
pub Walks-begin : (g : Parts) (enter : Context → Option Tag) (most : ℕ) (t : Tag) (passed : List PathStep) → passed ≡ []
    → Walks g enter most t 0 t passed
Walks-begin g enter most t passed none =
    let same : most ≡ most - 0 = omega arith in
    ap (λ n. steps_to g enter n t) same ∙ sym (append-nil (steps_to g enter (most - 0) t))
    ∙ ap (λ l. steps_to g enter (most - 0) t ++ reverse l) (sym none)

-- the walk goes on to the tag of the `enter`
pub Walks-goes : (g : Parts) (enter : Context
    → Option Tag) (most : ℕ) (t : Tag) (taken : ℕ) (u v : Tag) (passed : List PathStep) → taken < most
    → enter u.context ≡ Some v → Walks g enter most t taken u passed
    → Walks g enter most t (taken + 1) v (passed ++ step_of g v.instr u.iteration ∷ [])
Walks-goes g enter most t taken u v passed less is walks =
    let x = step_of g v.instr u.iteration in
    let more : most - taken ≡ suc (most - (taken + 1)) = omega (arith, less) in
    let one : steps_to g enter (most - taken) u ≡ steps_to g enter (most - (taken + 1)) v ++ x ∷ [] =
    ap (λ n. steps_to g enter n u) more ∙ steps_to-entered g enter (most - (taken + 1)) u v is in
    walks ∙ ap (λ l. l ++ reverse passed) one
    ∙ append_assoc (steps_to g enter (most - (taken + 1)) v) (x ∷ []) (reverse passed)
    ∙ ap (λ l. steps_to g enter (most - (taken + 1)) v ++ l) (sym (reverse-append passed (x ∷ [])))

-- the walk ends under main's context, or where all steps are taken
pub Walks-ends : (g : Parts) (enter : Context
    → Option Tag) (most : ℕ) (t : Tag) (taken : ℕ) (u : Tag) (passed : List PathStep)
    → (enter u.context ≡ None) ⊎ (most ≤ taken) → Walks g enter most t taken u passed
    → steps_to g enter most t ≡ reverse passed
Walks-ends g enter most t taken u passed (inl none) walks =
    walks ∙ ap (λ l. l ++ reverse passed) (steps_to-main g enter (most - taken) u none)
Walks-ends g enter most t taken u passed (inr all) walks =
    let end : most - taken ≡ 0 = omega (arith, all) in
    walks ∙ ap (λ n. steps_to g enter n u ++ reverse passed) end
    ∙ ap (λ l. l ++ reverse passed) (steps_to-zero g enter u)

-- tables that tell what the events of elements do give each tag its path by these events
pub path_by-same : (g : Parts) (es : List EventView) (p : Paths) → p.graph.now ≡ g
    → ((c : Context) → get same_context p.enters c ≡ enter_in g es c) →
    p.most ≡ length es
    → path_by p ≡ path_of g es
path_by-same g es p graph enters most = λ i t. record { steps = steps_to (graph i) (λ c. enters c i) (most i) t }

-- tables that tell what the events of elements do give each structure its name by these events
pub structure_by-same : (g : Parts) (es : List EventView) (p : Paths) → p.graph.now ≡ g → path_by p ≡ path_of g es →
    ((s : Structure) → get same_structure p.makers s ≡ maker_in g es s)
    → structure_by p ≡ (λ s. name_by g (path_of g es) (maker_in g es s))
structure_by-same g es p graph paths makers = λ i s. name_by (graph i) (paths i) (makers s i)

-- these steps lead to a tag, so many: none under a context that nothing entered, and one more than to the tag of the
-- `enter`
pub data Leads (g : Parts) (enter : Context → Option Tag) : Tag → ℕ → List PathStep → Type 0 where
  under_main : (t : Tag) → enter t.context ≡ None → Leads g enter t 0 []
  under_enter : (t u : Tag) (n : ℕ) (p : List PathStep) → enter t.context ≡ Some u → Leads g enter u n p →
      Leads g enter t (suc n) (p ++ step_of g u.instr t.iteration ∷ [])

-- the steps that lead to a tag are found where no fewer are allowed
pub Leads-steps : (g : Parts) (enter : Context → Option Tag) (t : Tag) (n : ℕ) (p : List PathStep) (most : ℕ)
    → Leads g enter t n p → n ≤ most →
    steps_to g enter most t ≡ p
Leads-steps g enter t n p most (under_main _ none) less = steps_to-main g enter most t none
Leads-steps g enter t n p zero (under_enter _ u k q is leads) less = absurd (omega (arith, less))
Leads-steps g enter t n p (suc most) (under_enter _ u k q is leads) less =
    steps_to-entered g enter most t u is
    ∙ ap (λ l. l ++ step_of g u.instr t.iteration ∷ []) (Leads-steps g enter u k q most leads (omega (arith, less)))

-- the path of a tag to which the steps lead, where there are no more of them than events
pub path_of-leads : (g : Parts) (es : List EventView) (t : Tag) (n : ℕ) (p : List PathStep)
    → Leads g (enter_in g es) t n p → n ≤ length es →
    path_of g es t ≡ record { steps = p }
path_of-leads g es t n p leads few = λ i. record { steps = Leads-steps g (enter_in g es) t n p (length es) leads few i }

-- what entered a context under one tag alone did so under that tag
pub enter_in-only : (g : Parts) (es : List EventView) (c : Context) (t : Tag) →
    ((e : EventView) → Among e es → (enter_of g e c ≡ None) ⊎ (enter_of g e c ≡ Some t))
    → (enter_in g es c ≡ None) ⊎ (enter_in g es c ≡ Some t)
unfolding enter_in
enter_in-only g [] c t each = inl refl
enter_in-only g (e ∷ es) c t each = elim (enter_in-only g es c t (λ f h. each f (inr h))) [
  | inl none ↦ elim (each e (inl refl)) [
    | inl not ↦ inl (ap (λ o. option_or o (enter_of g e c)) none ∙ not)
    | inr is ↦ inr (ap (λ o. option_or o (enter_of g e c)) none ∙ is)
  ]
  | inr some ↦ inr (ap (λ o. option_or o (enter_of g e c)) some)
]

-- a context that no event entered
pub enter_in-nothing : (g : Parts) (es : List EventView) (c : Context)
    → ((e : EventView) → Among e es → enter_of g e c ≡ None) → enter_in g es c ≡ None
unfolding enter_in
enter_in-nothing g [] c each = refl
enter_in-nothing g (e ∷ es) c each =
    ap (λ o. option_or o (enter_of g e c)) (enter_in-nothing g es c (λ f h. each f (inr h))) ∙ each e (inl refl)

-- a context that an event entered has been entered
pub enter_in-something : (g : Parts) (es : List EventView) (c : Context) (e : EventView) (t : Tag) → Among e es
    → enter_of g e c ≡ Some t →
    enter_in g es c ≢ None
unfolding enter_in
enter_in-something g [] c e t among is none = absurd among
enter_in-something g (f ∷ es) c e t (inl here) is none = go (enter_in g es c) none
  where
    go : (o : Option Tag) → option_or o (enter_of g f c) ≡ None → ⊥
    go None n = some_none (sym is ∙ ap (λ x. enter_of g x c) here ∙ n)
    go (Some u) n = some_none n
enter_in-something g (f ∷ es) c e t (inr later) is none =
    go (enter_in g es c) (enter_in-something g es c e t later is) none
  where
    go : (o : Option Tag) → o ≢ None → option_or o (enter_of g f c) ≡ None → ⊥
    go None some n = some refl
    go (Some u) some n = some_none n

-- a context that an event entered, and under one tag alone, was entered under that tag
pub enter_in-is : (g : Parts) (es : List EventView) (c : Context) (e : EventView) (t : Tag) → Among e es
    → enter_of g e c ≡ Some t → ((f : EventView) → Among f es → (enter_of g f c ≡ None) ⊎ (enter_of g f c ≡ Some t))
    → enter_in g es c ≡ Some t
enter_in-is g es c e t among is each = elim (enter_in-only g es c t each) [
  | inl none ↦ absurd (enter_in-something g es c e t among is none)
  | inr some ↦ some
]
