-- Facts of a source stand at paths and places of its program.
use Rattle.std.proofs.Common.{Bool as Truth, true, false, inl, inr, ℕ, zero, suc, List, [], ◌∷◌, ◌++◌, length, refl}
use Rattle.std.specs.Prelude.{All}
use Rattle.std.proofs.lemmas.List.Elements.{All-append, All-cons, All-head, All-nil, All-tail}
use Rattle.id_value.proofs.AmongLemmas.{Among-from_at}
use Rattle.id_tree.specs.Distinct.{HasPlace}
use Rattle.id_table.specs.Rows.{at}
use Rattle.id_table.specs.Turns.{params_at}
use Rattle.id_table.specs.declared.row.Node.TheVariants.{Unary, Binary, Split, If, Arg, Block, Binding, Def, Next, Loop}
use Rattle.id_table.specs.declared.row.Node.TheVariants.{Array, Fetch, Address, Store, Bounds, Index}
use Rattle.id_table.specs.Loops.{bounds_row}
use Rattle.id_check.specs.declared.checked.Checked.{Checked}
use Rattle.id_check.specs.Programs.{place, rows, tree}
use Rattle.id_source.specs.declared.Path.{Path}
use Rattle.id_source.specs.declared.PathStep.{PathStep}
use Rattle.id_source.specs.declared.Fact.{Fact}
use Rattle.id_source.specs.declared.Fact.TheVariants.{On, Has, Shape, Put, Ask}
use Rattle.id_source.specs.declared.Site.{Site}
use Rattle.id_source.specs.declared.SourceValue.{SourceValue}
use Rattle.id_source.specs.declared.SourceValue.TheVariants.{Name}
use Rattle.id_value.specs.declared.Constant.{Constant}
use Rattle.id_value.specs.declared.Constant.TheVariants as constant
use Rattle.id_source.specs.declared.SourceFault.{SourceFault}
use Rattle.id_source.specs.declared.SourceFault.TheVariants.{Operator, SecondStore}
use Rattle.id_source.specs.Sources.{Source, value_of}
use Rattle.id_source.specs.Facts.{GoesOn, by_predicate, by_bounds, by_index, lower_on, upper_on, index_begins}
use Rattle.id_source.specs.Facts.{index_counts}
use Rattle.id_source.specs.Facts.{loop_test_on, first_has, turn_on, loop_statement_on, next_on, next_has, last_on}
use Rattle.id_source.specs.Facts.{loop_has, below, outermost, Rule, main_on}
use Rattle.id_source.specs.Facts.{literal_has, operand_on, left_on, right_on, unary_has, binary_has, name_has, test_on}
use Rattle.id_source.specs.Facts.{arm_on, conditional_has, argument_on}
use Rattle.id_source.specs.Facts.{callee_on, argument_has, call_has, statement_on, body_on, block_has, binding_has}
use Rattle.id_source.specs.Facts.{param_has, FaultRule, unary_fails}
use Rattle.id_source.specs.Facts.{binary_fails, bad_bounds, out_of_fetch, out_of_store, second_store}
use Rattle.id_source.specs.Facts.{loop_store_on, store_on, bounds_low_on, bounds_high_on, shape_made, array_has}
use Rattle.id_source.specs.Facts.{fetch_target_on, fetch_index_on, asks}
use Rattle.id_source.specs.Facts.{fetch_has, store_target_on, store_index_on, store_value_on, puts}
use Rattle.id_source.specs.Rounds.{Rounds, Every, Holds, Faulty}
use Rattle.id_source.specs.Things.{IsThing}
use Rattle.id_source.proofs.CheckedLemmas.{placed_of, thing-param}
use Rattle.id_source.proofs.ParamsLemmas.{input_param, params-among}
use Rattle.id_source.proofs.HasLemmas.{arm-among, choice}
use Rattle.id_source.proofs.ThingsLemmas.{main-thing, node-thing, part-thing, test-thing}

-- the places of the path's steps are those of the program, and so is the place
pub record IsPoint (P : Checked) (p : Path) (e : ℕ) : Type 0 where
  pub path : All (λ s. HasPlace (tree P) s.place) p.steps
  pub place : HasPlace (tree P) e

abbrev pub IsSite : Checked → Site → Type 0
IsSite P s = IsPoint P s.path s.place

abbrev pub PlacedValue : Checked → SourceValue → Type 0
PlacedValue P (Name s) = IsSite P s
PlacedValue P _ = Unit {0}

abbrev pub Placed : Checked → Fact → Type 0
Placed P (On p e) = IsPoint P p e
Placed P (Has p e v) = IsPoint P p e × PlacedValue P v
Placed P (Shape s) = IsSite P s.name
Placed P (Put p) = IsSite P p.name × PlacedValue P p.value × IsSite P p.store
Placed P (Ask a) = IsSite P a.fetch × IsSite P a.name

abbrev pub PlacedFault : Checked → SourceFault → Type 0
PlacedFault P (Operator k s) = IsSite P s
PlacedFault P (SecondStore s i a b) = IsSite P s × IsSite P a × IsSite P b

-- a constant names nothing
constant-placed : (P : Checked) (c : Constant) → PlacedValue P (value_of c)
constant-placed P (constant.Int n) = tt
constant-placed P (constant.Bool b) = tt

thing-place : (S : Source) (n : ℕ) → IsThing S n → HasPlace (tree S.checked) (place S.checked n)
thing-place S n t = placed_of S.checked n t.within t.thing

-- the empty path has no steps, and that of a call one more, at the place of the call
abbrev InTree : Checked → PathStep → Type 0
InTree P s = HasPlace (tree P) s.place

no_steps : (S : Source) → All (λ s. HasPlace (tree S.checked) s.place) outermost.steps
no_steps S = All-nil (InTree S.checked)

below_steps : (S : Source) (p : Path) (e k : ℕ) → IsPoint S.checked p e
    → All (λ s. HasPlace (tree S.checked) s.place) (below p e k).steps
below_steps S p e k h =
    let s : PathStep = record { place = e; number = k } in
    All-append (InTree S.checked) p.steps (s ∷ []) h.path
    (All-cons (InTree S.checked) s [] h.place (All-nil (InTree S.checked)))

-- the path with a step is placed where its front is and the step is
front_placed : (S : Source) (p : Path) (e k f : ℕ) → IsPoint S.checked (below p e k) f
    → All (λ s. HasPlace (tree S.checked) s.place) p.steps
front_placed S p e k f h = go p.steps h.path
  where
    go : (ss : List PathStep)
        → All (λ s. HasPlace (tree S.checked) s.place) (ss ++ record { place = e; number = k } ∷ [])
        → All (λ s. HasPlace (tree S.checked) s.place) ss
    go [] h = All-nil (InTree S.checked)
    go (s ∷ ss) h =
        let more = ss ++ record { place = e; number = k } ∷ [] in
        All-cons (InTree S.checked) s ss (All-head (InTree S.checked) s more h)
        (go ss (All-tail (InTree S.checked) s more h))

-- and so is that of another iteration
iteration_placed : (S : Source) (p : Path) (n f a k j : ℕ) → IsThing S n → IsThing S a
    → IsPoint S.checked (below p (place S.checked n) k) f
    → IsPoint S.checked (below p (place S.checked n) j) (place S.checked a)
iteration_placed S p n f a k j t u h =
    let q = front_placed S p (place S.checked n) k f h in
    record {
      path = below_steps S p (place S.checked n) j (record { path = q; place = thing-place S n t });
      place =
          thing-place S a u;
    }

-- where placed facts say that a loop goes on or not, its iteration is placed
goes_placed : (S : Source) (n w : ℕ) (p : Path) (k : ℕ) (c : Truth) {fs : List Fact} → GoesOn S n w p k c fs
    → Every (Placed S.checked) fs → All (λ s. HasPlace (tree S.checked) s.place) (below p (place S.checked n) k).steps
goes_placed S n w p k c (by_predicate j s) h = let q = h.0.0 in q.path
goes_placed S n w p k c (by_bounds s e) h = below_steps S p (place S.checked n) 0 h.0
goes_placed S n w p k c (by_index {x = x} {l = l} j s e) h =
    let q = iteration_placed S p n (place S.checked x) x j (suc j) (node-thing S n (Loop s.head w l) s.loop refl)
    (node-thing S x (Index s.name) s.index refl)
    h.0.0 in
    q.path

-- what follows from placed facts is placed
rule_placed : {S : Source} {fs : List Fact} {f : Fact} → Rule S fs f → Every (Placed S.checked) fs → Placed S.checked f
rule_placed {S} main_on h = record { path = no_steps S; place = thing-place S _ (main-thing S) }
rule_placed {S} (param_has {b = b} {c = c} i) h =
    let q = input_param i in (
      record {
        path = no_steps S;
        place =
            thing-place S b (record { within = q.0; thing = thing-param (at (rows S.checked) b).node q.1 });
      },
      constant-placed S.checked c,
    )
rule_placed {S} (literal_has {c = c} s) h = (h.0, constant-placed S.checked c)
rule_placed {S} (operand_on {n = n} {a = a} {o = o} s) h = let p = h.0 in
    record { path = p.path; place = thing-place S a (part-thing S n a (Unary o a) s refl) }
rule_placed {S} (left_on {n = n} {a = a} {b = b} {o = o} s) h = let p = h.0 in
    record { path = p.path; place = thing-place S a (part-thing S n a (Binary o a b) s (inl refl)) }
rule_placed {S} (right_on {n = n} {a = a} {b = b} {o = o} s) h = let p = h.0 in
    record { path = p.path; place = thing-place S b (part-thing S n b (Binary o a b) s (inr refl)) }
rule_placed {S} (unary_has {x = x} c s e) h = (h.0, constant-placed S.checked x)
rule_placed {S} (binary_has {x = x} c d s e) h = (h.0, constant-placed S.checked x)
rule_placed (name_has s e) h = (h.0, h.1.0.1)
rule_placed {S} (test_on {t = t} c) h =
    let p = h.0 in
    let d = choice c in
    record { path = p.path; place = thing-place S t (part-thing S d.split t (Split t) d.splits refl) }
rule_placed {S} (arm_on {n = n} {a = a} {b = b} c) h =
    let p = h.0 in
    let d = choice c in
    record {
      path = p.path;
      place =
          thing-place S a
          (part-thing S n a (If d.split d.then d.otherwise) d.stands (arm-among d.then d.otherwise b a d.arm));
    }
rule_placed (conditional_has c) h = (h.0, h.1.1.0.1)
rule_placed {S} (argument_on {e = e} {m = m} {k = k} {v = v} s t) h = let p = h.0 in
    record { path = p.path; place = thing-place S v (part-thing S m v (Arg e k v) t refl) }
rule_placed {S} (callee_on {n = n} {d = d} {x = x} {h = g} {b = b} {k = k} {p = p} s is def) h =
    record {
      path = below_steps S p (place S.checked n) 0 h.0;
      place =
          thing-place S b (part-thing S d b (Def x g k b) def refl);
    }
rule_placed {S} (argument_has {n = n} {h = g} {i = i} {q = q} {p = p} s t is def there) h =
    let R = rows S.checked in
    let w = params-among R g (length R) q (Among-from_at q (params_at R g) i there) in (
      record {
        path = below_steps S p (place S.checked n) 0 h.0;
        place =
            thing-place S q (record { within = w.0; thing = thing-param (at R q).node w.1 });
      },
      h.1.0.1,
    )
rule_placed {S} (call_has s is def) h = (h.0, h.1.0.1)
rule_placed {S} (loop_test_on {n = n} {h = g} {w = w} {t = t} {l = l} {p = p} s) h =
    record { path = below_steps S p (place S.checked n) 0 h.0; place = thing-place S t (test-thing S n g w t l s) }
rule_placed {S} (first_has {n = n} {m = m} {o = o} {v = v} {p = p} s x e) h = (
  record {
    path = below_steps S p (place S.checked n) 0 h.0;
    place =
        thing-place S m (node-thing S m (Next x.name x.index o v) x.next refl);
  },
  h.1.0.1,
)
rule_placed {S} (turn_on {n = n} {h = g} {w = w} {t = t} {l = l} p k s) h =
    iteration_placed S p n (place S.checked t) t k (suc k) (node-thing S n (Loop g w l) s.loop refl)
    (test-thing S n g w t l s) h.0.0
rule_placed {S} (lower_on {a = a} {b = b} s) h = let p = h.0 in
    record {
      path = p.path;
      place =
          thing-place S a (part-thing S (bounds_row s.head) a (Bounds a b) s.bounds (inl refl));
    }
rule_placed {S} (upper_on {a = a} {b = b} s) h = let p = h.0 in
    record {
      path = p.path;
      place =
          thing-place S b (part-thing S (bounds_row s.head) b (Bounds a b) s.bounds (inr refl));
    }
rule_placed {S} (index_begins {n = n} {x = x} {p = p} s e) h = (
  record {
    path = below_steps S p (place S.checked n) 0 h.0;
    place =
        thing-place S x (node-thing S x (Index s.name) s.index refl);
  },
  tt,
)
rule_placed {S} (index_counts {n = n} {w = w} {x = x} {l = l} p k s e) h = (
  iteration_placed S p n (place S.checked x) x k (suc k) (node-thing S n (Loop s.head w l) s.loop refl)
      (node-thing S x (Index s.name) s.index refl) h.0.0,
  tt,
)
rule_placed {S} (loop_store_on {n = n} {w = w} {m = m} p k s o b) h =
    record {
      path = goes_placed S n w p k true o h;
      place =
          thing-place S m (node-thing S m (Store b.address b.value) b.store refl);
    }
rule_placed {S} (loop_statement_on {n = n} {w = w} {m = m} {a = a} p k s o b) h =
    record {
      path = goes_placed S n w p k true o h;
      place =
          thing-place S a (part-thing S m a (Binding b.name a) b.binding refl);
    }
rule_placed {S} (next_on {n = n} {w = w} {m = m} {o = u} {v = v} p k s o x) h =
    record {
      path = goes_placed S n w p k true o h;
      place =
          thing-place S v (part-thing S m v (Next x.name x.index u v) x.next refl);
    }
rule_placed {S} (next_has {n = n} {h = g} {w = w} {l = l} {m = m} {o = o} {v = v} p k s x) h = (
  iteration_placed S p n (place S.checked v) m k (suc k) (node-thing S n (Loop g w l) s refl)
      (node-thing S m (Next x.name x.index o v) x.next refl)
      h.0.0,
  h.0.1,
)
rule_placed {S} (last_on {n = n} {h = g} {w = w} {l = l} p k s o) h =
    record { path = goes_placed S n w p k false o h; place = thing-place S l (part-thing S n l (Loop g w l) s refl) }
rule_placed {S} (loop_has {n = n} {h = g} {w = w} {l = l} p k s) h = (
  record {
    path = front_placed S p (place S.checked n) k (place S.checked l) h.0.0;
    place =
        thing-place S n (node-thing S n (Loop g w l) s refl);
  },
  h.0.1,
)
rule_placed {S} (statement_on {m = m} {x = x} {a = a} s i t) h = let p = h.0 in
    record { path = p.path; place = thing-place S a (part-thing S m a (Binding x a) t refl) }
rule_placed {S} (body_on {n = n} {b = b} s) h =
    let p = h.0 in record { path = p.path; place = thing-place S b (part-thing S n b (Block b) s refl) }
rule_placed (block_has s) h = (h.0, h.1.0.1)
rule_placed {S} (binding_has {n = n} {x = x} {a = a} s) h =
    let p = h.0.0 in (record { path = p.path; place = thing-place S n (node-thing S n (Binding x a) s refl) }, h.0.1)
rule_placed {S} (store_on {m = m} {a = a} {x = x} st i t) h =
    let p = h.0 in record { path = p.path; place = thing-place S m (node-thing S m (Store a x) t refl) }
rule_placed {S} (bounds_low_on {n = n} {a = a} {b = b} {nested = nested} s) h =
    let p = h.0 in record { path = p.path; place = thing-place S a (part-thing S n a (Array nested a b) s (inl refl)) }
rule_placed {S} (bounds_high_on {n = n} {a = a} {b = b} {nested = nested} s) h =
    let p = h.0 in record { path = p.path; place = thing-place S b (part-thing S n b (Array nested a b) s (inr refl)) }
rule_placed (shape_made s e) h = h.0
rule_placed (array_has s e) h = (h.0, h.0)
rule_placed {S} (fetch_target_on {n = n} {t = t} {i = i} s) h =
    let p = h.0 in record { path = p.path; place = thing-place S t (part-thing S n t (Fetch t i) s (inl refl)) }
rule_placed {S} (fetch_index_on {n = n} {t = t} {i = i} s) h =
    let p = h.0 in record { path = p.path; place = thing-place S i (part-thing S n i (Fetch t i) s (inr refl)) }
rule_placed (asks s e) h = (h.0, h.1.0.1)
rule_placed fetch_has h = (h.0.0, h.1.0.1)
rule_placed {S} (store_target_on {t = t} {i = i} s) h =
    let p = h.0 in
    record { path = p.path; place = thing-place S t (part-thing S s.address t (Address t i) s.parts (inl refl)) }
rule_placed {S} (store_index_on {t = t} {i = i} s) h =
    let p = h.0 in
    record { path = p.path; place = thing-place S i (part-thing S s.address i (Address t i) s.parts (inr refl)) }
rule_placed {S} (store_value_on {m = m} {x = x} s) h =
    let p = h.0 in record { path = p.path; place = thing-place S x (part-thing S m x (Store s.address x) s.store refl) }
rule_placed (puts s e) h = (h.1.0.1, h.1.1.1.0.1, h.0)

every_map : (F G : Fact → Type 0) (fs : List Fact) → ((f : Fact) → F f → G f) → Every F fs → Every G fs
every_map F G [] t h = tt
every_map F G (f ∷ fs) t h = (t f h.0, every_map F G fs t h.1)

-- a fact of a round is placed
pub round_placed : (S : Source) (n : ℕ) (f : Fact) → Rounds S n f → Placed S.checked f
round_placed S zero f h = absurd h
round_placed S (suc n) f (inl h) = round_placed S n f h
round_placed S (suc n) f (inr h) =
    rule_placed h.1 (every_map (Rounds S n) (Placed S.checked) h.0 (round_placed S n) h.2)

-- a fact of the source is placed
pub holds_placed : (S : Source) (f : Fact) → Holds S f → Placed S.checked f
holds_placed S f h = round_placed S h.round f h.there

-- a fault of the source stands at paths and places of its program
pub fault_placed : (S : Source) (f : SourceFault) → Faulty S f → PlacedFault S.checked f
fault_placed S f k = go k.rule (every_map (Holds S) (Placed S.checked) k.premises (holds_placed S) k.hold)
  where
    go : {fs : List Fact} {g : SourceFault} → FaultRule S fs g → Every (Placed S.checked) fs → PlacedFault S.checked g
    go (unary_fails c s e) t = t.0
    go (binary_fails c d s e) t = t.0
    go (bad_bounds s e) t = t.0
    go (out_of_fetch s e) t = t.0
    go (out_of_store s e) t = t.0
    go (second_store b) t = (t.0.0, t.0.2, t.1.0.2)
