-- Lemmas on specs/Ended.antt: facts from which nothing new follows are all facts.
use Rattle.std.proofs.Common.{◌≡◌, ◌⊎◌, inl, inr, ℕ, zero, suc, ◌≤◌, ◌<◌, Bool, true, false, List, [], ◌∷◌, length}
use Rattle.std.proofs.Common.{Ordering, Less, Equal, Greater}
use Rattle.std.proofs.Common.{Option, Some, None, refl, sym, ap, subst, ◌∙◌, arith, length-append}
use Rattle.std.specs.Prelude.{flat_map}
use Rattle.std.specs.Cmp.Lexicographic.{slice_cmp, lists_total}
use Rattle.std.proofs.lemmas.Bool.{cases_eq}
use Rattle.std.proofs.lemmas.Cmp.{tied_itself}
use Rattle.id_value.specs.List.{Among}
use Rattle.id_value.proofs.AmongLemmas.{Among-either, Among-one}
use Rattle.id_value.proofs.DifferLemmas.{AllDiffer-few}
use Rattle.id_table.specs.declared.row.Node.{Node}
use Rattle.id_table.specs.declared.row.Node.TheVariants.{Bounds, Index, Loop}
use Rattle.id_table.specs.Loops.{bounds_row, lower_of}
use Rattle.id_table.specs.Tables.{HasOperand, HasPart, is_thing}
use Rattle.id_check.specs.declared.checked.Checked.{Checked}
use Rattle.id_check.specs.Programs.{Stands, place, rows}
use Rattle.id_source.specs.declared.Path.{Path}
use Rattle.id_source.specs.declared.SourceValue.{SourceValue}
use Rattle.id_source.specs.declared.Fact.{Fact}
use Rattle.id_source.specs.declared.Fact.TheVariants.{On, Has, Shape, Put, Ask}
use Rattle.id_source.specs.Facts.{ForStands, below, lower_on}
use Rattle.id_source.specs.Orders.{step_cmp}
use Rattle.id_source.specs.Sources.{Source}
use Rattle.id_source.specs.Rounds.{Every, Holds, Rounds}
use Rattle.id_source.specs.Computed.{AreFacts}
use Rattle.id_source.proofs.PathOrderLemmas.{same_steps, step_total}
use Rattle.id_source.proofs.RoundsLemmas.{Rounds-follow}
use Rattle.id_build.specs.Rows.{node}
use Rattle.id_laws.proofs.Rows.Assumed.{IsKnown}
use Rattle.id_laws.proofs.Validity.HasKinds.{expression_thing}
use Rattle.id_laws.proofs.Rows.Known.{known}
use Rattle.id_laws.proofs.Rows.Loops.{for_at}
use Rattle.id_laws.proofs.Telling.TurnedOn.{holds_by}
use Rattle.id_laws.specs.Bounded.{IsActiveBy, something_on, index_has, loop_begins}
use Rattle.id_laws.specs.Ended.{EndedFacts}
use Rattle.id_laws.proofs.Bounding.DifferCounts.{Among-flat_map, EachOnce, each_once}

-- ---- paths, each once

-- two paths are one, or they are not
same_or_not : (p q : Path) → (p ≡ q) ⊎ (p ≡ q → ⊥)
same_or_not p q = by (slice_cmp step_cmp p.steps q.steps) refl
  where
    tied : p ≡ q → slice_cmp step_cmp p.steps q.steps ≡ Equal
    tied e = ap (λ (r : Path). slice_cmp step_cmp p.steps r.steps) (sym e)
        ∙ tied_itself (lists_total step_total) p.steps

    by : (o : Ordering) → slice_cmp step_cmp p.steps q.steps ≡ o → (p ≡ q) ⊎ (p ≡ q → ⊥)
    by Less e = inr (λ h. let both : Less ≡ Equal = sym e ∙ tied h in absurd cc)
    by Equal e = let steps = same_steps p.steps q.steps e in inl (λ i. record { steps = steps i })
    by Greater e = inr (λ h. let both : Greater ≡ Equal = sym e ∙ tied h in absurd cc)

-- what passes is found, or nothing below the number passes
find : (F : ℕ → Type 0) (k : ℕ) → ((n : ℕ) → n < k → F n ⊎ (F n → ⊥))
    → ((n : ℕ) × (n < k) × F n) ⊎ ((n : ℕ) → n < k → F n → ⊥)
find F zero test = inr (λ n less. absurd (omega (arith, less)))
find F (suc k) test = by (test k (omega arith)) (find F k (λ n less. test n (omega (arith, less))))
  where
    by : F k ⊎ (F k → ⊥) → ((n : ℕ) × (n < k) × F n) ⊎ ((n : ℕ) → n < k → F n → ⊥)
        → ((n : ℕ) × (n < suc k) × F n) ⊎ ((n : ℕ) → n < suc k → F n → ⊥)
    by (inl here) rest = inl (k, omega arith, here)
    by (inr other) (inl x) = inl (x.0, omega (arith, x.1), x.2)
    by (inr other) (inr none) = inr (λ n less f. elim (cases_eq n k) [
      | inl e ↦ other (subst F e f)
      | inr ne ↦ none n (omega (arith, less, ne)) f
    ])

Among-from_flat_map : {A B : Type 0} (f : A → List B) (y : B) (xs : List A) → Among y (flat_map f xs)
    → (x : A) × Among x xs × Among y (f x)
Among-from_flat_map f y [] h = absurd h
Among-from_flat_map f y (x ∷ xs) h = elim (Among-either y (f x) (flat_map f xs) h) [
  | inl here ↦ (x, inl refl, here)
  | inr rest ↦ let z = Among-from_flat_map f y xs rest in (z.0, inr z.1, z.2)
]

few_in : {A B : Type 0} (f : A → List B) (xs : List A) → ((x : A) → length (f x) ≤ 1)
    → length (flat_map f xs) ≤ length xs
few_in f [] few = omega arith
few_in f (x ∷ xs) few = omega (arith, length-append (f x) (flat_map f xs), few x, few_in f xs few)

some_none : {A : Type 0} {x : A} → Some x ≡ None → ⊥
some_none e = cc

true_false : true ≡ false → ⊥
true_false h = cc

abbrev head_in : Node → Option ℕ
head_in (Loop h w l) = Some h
head_in _ = None

module _ (P : Checked) (known : IsKnown P) where
  -- ---- what stands at a place

  -- a `for` stands at the row
  record ForRow (n : ℕ) : Type 0 where
    switches : ℕ
    index : ℕ
    low : ℕ
    high : ℕ
    last : ℕ
    stands : ForStands P n switches index low high last

  for_row : (n : ℕ) → n < length (rows P) → (m : Node) → node P n ≡ m → ForRow n ⊎ (ForRow n → ⊥)
  for_row n within (Loop h w l) is = by (node P (bounds_row h)) refl
    where
      by : (m : Node) → node P (bounds_row h) ≡ m → ForRow n ⊎ (ForRow n → ⊥)
      by (Bounds a b) at =
          inl (record { switches = _; index = _; low = _; high = _; last = _; stands = for_at known within is at })
      by _ at = inr (λ f.
          let head : Some (f.stands).head ≡ Some h = sym (ap head_in ((f.stands).loop).node) ∙ ap head_in is in
          let same : (f.stands).head ≡ h = cc in
          some_none (sym (ap lower_of ((f.stands).bounds).node) ∙ ap (λ g. lower_of (node P (bounds_row g))) same
          ∙ ap lower_of at))
  for_row n within _ is = inr (λ f. some_none (sym (ap head_in ((f.stands).loop).node) ∙ ap head_in is))

  -- an index stands at the row
  record IndexRow (n : ℕ) : Type 0 where
    name : ℕ
    stands : Stands P n (Index name)

  abbrev is_it : Node → Bool
  is_it (Index x) = true
  is_it _ = false

  index_at_row : (n : ℕ) → n < length (rows P) → (m : Node) → node P n ≡ m → IndexRow n ⊎ (IndexRow n → ⊥)
  index_at_row n within (Index x) is = inl (record { name = x; stands = record { within = within; node = is } })
  index_at_row n within _ is = inr (λ f. true_false (sym (ap is_it (f.stands).node) ∙ ap is_it is))

  -- one stands at the place
  record At (F : ℕ → Type 0) (e : ℕ) : Type 0 where
    row : ℕ
    has : F row
    place : place P row ≡ e

  at_place : (F : ℕ → Type 0) → ((n : ℕ) → n < length (rows P) → F n ⊎ (F n → ⊥))
      → ((n : ℕ) → F n → n < length (rows P)) → (e : ℕ) → At F e ⊎ (At F e → ⊥)
  at_place F test within e = by (find (λ n. F n × (place P n ≡ e)) (length (rows P)) both)
    where
      both : (n : ℕ) → n < length (rows P) → (F n × (place P n ≡ e)) ⊎ (F n × (place P n ≡ e) → ⊥)
      both n less = elim (cases_eq (place P n) e) [
        | inl same ↦ elim (test n less) [ inl f ↦ inl (f, same) | inr none ↦ inr (λ x. none x.0) ]
        | inr other ↦ inr (λ x. other x.1)
      ]

      by : ((n : ℕ) × (n < length (rows P)) × (F n × (place P n ≡ e)))
          ⊎ ((n : ℕ) → n < length (rows P) → (F n × (place P n ≡ e)) → ⊥) → At F e ⊎ (At F e → ⊥)
      by (inl x) = inl (record { row = x.0; has = (x.2).0; place = (x.2).1 })
      by (inr none) = inr (λ x. none x.row (within x.row x.has) (x.has, x.place))

  for_or_not : (e : ℕ) → At ForRow e ⊎ (At ForRow e → ⊥)
  for_or_not = at_place ForRow (λ n less. for_row n less (node P n) refl) (λ n f. ((f.stands).loop).within)

  index_or_not : (e : ℕ) → At IndexRow e ⊎ (At IndexRow e → ⊥)
  index_or_not = at_place IndexRow (λ n less. index_at_row n less (node P n) refl) (λ n f. (f.stands).within)

  -- ---- the paths of facts

  -- the path that a fact makes active: that of an On `for` its first iteration
  abbrev on_path : (p : Path) (e : ℕ) → At ForRow e ⊎ (At ForRow e → ⊥) → List Path
  on_path p e (inl f) = below p e 0 ∷ []
  on_path p e (inr other) = p ∷ []

  abbrev has_path : (p : Path) (e : ℕ) → At IndexRow e ⊎ (At IndexRow e → ⊥) → List Path
  has_path p e (inl x) = p ∷ []
  has_path p e (inr other) = []

  abbrev path_of_fact : Fact → List Path
  path_of_fact (On p e) = on_path p e (for_or_not e)
  path_of_fact (Has p e v) = has_path p e (index_or_not e)
  path_of_fact (Shape s) = []
  path_of_fact (Put x) = []
  path_of_fact (Ask x) = []

  on_few : (p : Path) (e : ℕ) (d : At ForRow e ⊎ (At ForRow e → ⊥)) → length (on_path p e d) ≤ 1
  on_few p e (inl f) = omega arith
  on_few p e (inr other) = omega arith

  has_few : (p : Path) (e : ℕ) (d : At IndexRow e ⊎ (At IndexRow e → ⊥)) → length (has_path p e d) ≤ 1
  has_few p e (inl x) = omega arith
  has_few p e (inr other) = omega arith

  fact_few : (f : Fact) → length (path_of_fact f) ≤ 1
  fact_few (On p e) = on_few p e (for_or_not e)
  fact_few (Has p e v) = has_few p e (index_or_not e)
  fact_few (Shape s) = omega arith
  fact_few (Put x) = omega arith
  fact_few (Ask x) = omega arith

  module _ (fs : List Fact) where
    abbrev In : Fact → Type 0
    In f = Among f fs

    all_paths : EachOnce Path (flat_map path_of_fact fs)
    all_paths = each_once Path same_or_not (flat_map path_of_fact fs)

    by_on : (p q : Path) (e : ℕ) (d : At ForRow e ⊎ (At ForRow e → ⊥)) → In (On p e) → Among q (on_path p e d)
        → IsActiveBy P In q
    by_on p q e (inl f) on h =
        loop_begins ((f.has).stands) (subst (λ i. In (On p i)) (sym f.place) on) (Among-one q (below p e 0) h
        ∙ ap (λ i. below p i 0) (sym f.place))
    by_on p q e (inr other) on h = subst (IsActiveBy P In) (sym (Among-one q p h)) (something_on e on)

    by_has : (p q : Path) (e : ℕ) (v : SourceValue) (d : At IndexRow e ⊎ (At IndexRow e → ⊥)) → In (Has p e v)
        → Among q (has_path p e d) → IsActiveBy P In q
    by_has p q e v (inl x) has h =
        subst (IsActiveBy P In) (sym (Among-one q p h))
        (index_has ((x.has).stands) (subst (λ i. In (Has p i v)) (sym x.place) has))
    by_has p q e v (inr other) has h = absurd h

    fact_active : (q : Path) (f : Fact) → In f → Among q (path_of_fact f) → IsActiveBy P In q
    fact_active q (On p e) there h = by_on p q e (for_or_not e) there h
    fact_active q (Has p e v) there h = by_has p q e v (index_or_not e) there h
    fact_active q (Shape s) there h = absurd h
    fact_active q (Put x) there h = absurd h
    fact_active q (Ask x) there h = absurd h

    only_active : (q : Path) → Among q all_paths.list → IsActiveBy P In q
    only_active q h = let z = Among-from_flat_map path_of_fact q fs (all_paths.only q h) in fact_active q z.0 z.1 z.2

    of_fact : (q : Path) (f : Fact) → In f → Among q (path_of_fact f) → Among q all_paths.list
    of_fact q f there h = all_paths.all q (Among-flat_map path_of_fact q f fs there h)

    few_paths : length all_paths.list ≤ length fs
    few_paths =
        omega (
          arith,
          AllDiffer-few all_paths.list (flat_map path_of_fact fs) all_paths.differ all_paths.only,
          few_in path_of_fact fs fact_few,
        )

    -- ---- where an On `for` has its lower bound On

    module _ (lower : (n w x a b l : ℕ) (p : Path) → ForStands P n w x a b l → In (On p (place P n))
        → In (On p (place P a))) where
      first_among : (p : Path) (e : ℕ) → In (On p e) → (d : At ForRow e ⊎ (At ForRow e → ⊥)) → At ForRow e
          → Among (below p e 0) (on_path p e d)
      first_among p e on (inl f) at = inl refl
      first_among p e on (inr other) at = absurd (other at)

      other_among : (p : Path) (e : ℕ) (d : At ForRow e ⊎ (At ForRow e → ⊥)) → (At ForRow e → ⊥)
          → Among p (on_path p e d)
      other_among p e (inl f) none = absurd (none f)
      other_among p e (inr other) none = inl refl

      index_among : (p : Path) (e : ℕ) (d : At IndexRow e ⊎ (At IndexRow e → ⊥)) → At IndexRow e
          → Among p (has_path p e d)
      index_among p e (inl x) at = inl refl
      index_among p e (inr other) at = absurd (other at)

      -- the lower bound of a `for` stands before it
      lower_row : {n : ℕ} (f : ForRow n) → (f.low < n) × (is_thing (node P f.low) ≡ true)
      lower_row {n} f =
          let s = f.stands in
          let head =
          (((known.table).formed).each n (s.loop).within).parts s.head
          (subst (λ m. HasPart m s.head) (sym (s.loop).node) (inl refl)) in
          let low = (((known.table).formed).each (bounds_row s.head) (s.bounds).within).parts f.low
          (subst (λ m. HasPart m f.low) (sym (s.bounds).node) (inl refl)) in
          let expression = known.operands (bounds_row s.head) f.low (s.bounds).within
          (subst (λ m. HasOperand m f.low) (sym (s.bounds).node) (inl refl)) in
          (omega (arith, head.1, low.1), expression_thing (node P f.low) expression)

      on_among : (p : Path) (k n : ℕ) → n < k → n < length (rows P) → is_thing (node P n) ≡ true → In (On p (place P n))
          → Among p all_paths.list
      on_among p zero n less within thing on = absurd (omega (arith, less))
      on_among p (suc k) n less within thing on = by (for_or_not (place P n)) (on_among p k)
        where
          by : At ForRow (place P n) ⊎ (At ForRow (place P n) → ⊥)
              → ((i : ℕ) → i < k → i < length (rows P) → is_thing (node P i) ≡ true → In (On p (place P i))
              → Among p all_paths.list) → Among p all_paths.list
          by (inr other) before =
              of_fact p (On p (place P n)) on (other_among p (place P n) (for_or_not (place P n)) other)
          by (inl f) before =
              let s = (f.has).stands in
              let row : f.row ≡ n =
              (known.apart).apart f.row n (s.loop).within within (ap is_thing (s.loop).node) thing f.place in
              let low = lower_row f.has in
              before (f.has).low (omega (arith, low.0, row, less)) (omega (arith, low.0, row, within)) low.1
              (lower _ _ _ _ _ _ p s (subst (λ i. In (On p i)) (sym f.place) on))

      all_active : (q : Path) → IsActiveBy P In q → Among q all_paths.list
      all_active q (something_on e on) = by (for_or_not e)
        where
          by : At ForRow e ⊎ (At ForRow e → ⊥) → Among q all_paths.list
          by (inr other) = of_fact q (On q e) on (other_among q e (for_or_not e) other)
          by (inl f) =
              let s = (f.has).stands in
              on_among q (suc f.row) f.row (omega arith) (s.loop).within (ap is_thing (s.loop).node)
              (subst (λ i. In (On q i)) (sym f.place) on)
      all_active q (index_has {x = x} {name = name} {v = v} stands has) =
          of_fact q (Has q (place P x) v) has
          (index_among q (place P x) (index_or_not (place P x))
          (record { row = x; has = record { name = name; stands = stands }; place = refl }))
      all_active q (loop_begins {n = n} {q = p} stands on path) =
          subst (λ z. Among z all_paths.list) (sym path)
          (of_fact (below p (place P n) 0) (On p (place P n)) on
          (first_among p (place P n) on (for_or_not (place P n)) (record {
            row = n;
            has = record { switches = _; index = _; low = _; high = _; last = _; stands = stands };
            place = refl;
          })))

-- ---- rounds

Every-each : {F G : Fact → Type 0} → ((f : Fact) → F f → G f) → (fs : List Fact) → Every F fs → Every G fs
Every-each more [] h = tt
Every-each more (f ∷ fs) h = (more f h.0, Every-each more fs h.1)

-- the facts of every round are among those of the round from which nothing new follows
in_round : (S : Source) (n : ℕ) (fs : List Fact) → AreFacts S n fs → AreFacts S (suc n) fs → (m : ℕ) (f : Fact)
    → Rounds S m f → Among f fs
in_round S n fs round next zero f h = absurd h
in_round S n fs round next (suc m) f h =
    let r = Rounds-follow S m f h in
    next.all f (inr (r.0, r.1, Every-each (λ g k. round.only g (in_round S n fs round next m g k)) r.0 r.2))

-- what is active by the source's facts is so by these
active_in : (P : Checked) {F G : Fact → Type 0} → ((f : Fact) → F f → G f) → {p : Path} → IsActiveBy P F p
    → IsActiveBy P G p
active_in P more (something_on e on) = something_on e (more _ on)
active_in P more (index_has stands has) = index_has stands (more _ has)
active_in P more (loop_begins stands on path) = loop_begins stands (more _ on) path

-- an On `for` has its lower bound On, where the facts are those of the source
has_lower : (S : Source) (fs : List Fact) → ((f : Fact) → Holds S f → Among f fs)
    → ((f : Fact) → Among f fs → Holds S f) → (n w x a b l : ℕ) (p : Path) → ForStands S.checked n w x a b l
    → Among (On p (place S.checked n)) fs → Among (On p (place S.checked a)) fs
has_lower S fs all held n w x a b l p stands on =
    all (On p (place S.checked a)) (holds_by S _ _ (lower_on stands) (held (On p (place S.checked n)) on, tt))

pub ended_facts : EndedFacts
ended_facts = λ S n fs round next.
    let all : (f : Fact) → Holds S f → Among f fs = λ f h. in_round S n fs round next h.round f h.there in
    let held : (f : Fact) → Among f fs → Holds S f = λ f h. record { round = n; there = round.only f h } in
    let k = known S.checked in
    record {
      all = all;
      paths = (all_paths S.checked k fs).list;
      at = record {
        each = all_active S.checked k fs (has_lower S fs all held);
        only = only_active S.checked k fs;
        once = (all_paths S.checked k fs).differ;
      };
      active = λ p a. all_active S.checked k fs (has_lower S fs all held) p (active_in S.checked all a);
      few = few_paths S.checked k fs;
    }
