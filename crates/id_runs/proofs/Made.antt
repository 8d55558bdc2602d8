-- The records say under which tag a structure was made.
use Rattle.std.proofs.Common.{◌≡◌, ◌≢◌, ◌⊎◌, inl, inr, pos, Bool, true, false, ◌&&◌, cond, Option, Some, None, List, []}
use Rattle.std.proofs.Common.{◌∷◌, ℕ, refl, sym, ◌∙◌, ap, subst}
use Rattle.std.specs.Ordering.{int_eq}
use Rattle.std.specs.Option.{option_or}
use Rattle.std.specs.Prelude.{option_map}
use Rattle.id_instr.specs.declared.instr.Instr.{Instr}
use Rattle.id_instr.specs.declared.instr.Op.{Op}
use Rattle.id_instr.specs.declared.instr.Op.TheVariants as op
use Rattle.id_instr.specs.Graph.{Parts}
use Rattle.id_valid.specs.Roles.{op_at}
use Rattle.id_tag.specs.declared.Tag.{Tag}
use Rattle.id_tag.specs.declared.Structure.{Structure}
use Rattle.id_tag.specs.declared.Value.TheVariants as value
use Rattle.id_tag.specs.Tags.{same_structure}
use Rattle.id_ops.specs.declared.Fired.{Fired}
use Rattle.id_ops.specs.declared.Fired.TheVariants as fires
use Rattle.id_ops.specs.Operators.{fired}
use Rattle.id_bank.specs.declared.cell.ReadAnswer.TheVariants.{Now, Deferred}
use Rattle.id_core.specs.Events.{EventView, tag_of}
use Rattle.id_core.specs.Machines.{World}
use Rattle.id_core.specs.Observed.{events_of}
use Rattle.id_observe.specs.Paths.{made_by, made, if_made, maker_of, maker_in}
use Rattle.id_value.specs.declared.Constant.{Constant}
use Rattle.id_value.specs.List.{Among}
use Rattle.id_runs.specs.Events.{Waits, Blocked, Fires, Event, Took, Looked, Wrote, payload_of, FiresAs, fired_event}
use Rattle.id_runs.specs.Events.{fired_in, Makes}
use Rattle.id_runs.specs.Runs.{Reach}
use Rattle.id_runs.proofs.Keys.{both_true}
use Rattle.id_runs.proofs.Cells.{same_itself, one_from_same}
use Rattle.id_runs.proofs.RecordsOfRuns.{Shows, from_record, to_record, recorded, among_events}
use Rattle.id_runs.proofs.Serials.{allocated_next, structures_apart}
use Rattle.id_runs.proofs.Waiting.{has_fired}

-- ---- tests of structures

structure_itself : (s : Structure) → same_structure s s ≡ true
structure_itself s =
    (both_true (same_structure s s) (int_eq (pos 0) (pos 0)) (same_itself (record { structure = s; index = pos 0 }))).0

one_structure : (s r : Structure) → same_structure s r ≡ true → s ≡ r
one_structure s r e =
    let itself =
    (both_true (same_structure s s) (int_eq (pos 0) (pos 0))
    (same_itself (record { structure = s; index = pos 0 }))).1 in
    ap (λ c. c.structure)
    (one_from_same (record { structure = s; index = pos 0 }) (record { structure = r; index = pos 0 }) (λ j. e j
    && itself j))

-- ---- what events say

some_none : {X : Type 0} {x : X} → Some x ≡ None → ⊥
some_none e = cc

-- what events made under one tag alone was made under that tag
maker_in-only : (g : Parts) (es : List EventView) (s : Structure) (t : Tag) →
    ((e : EventView) → Among e es → (maker_of g e s ≡ None) ⊎ (maker_of g e s ≡ Some t))
    → (maker_in g es s ≡ None) ⊎ (maker_in g es s ≡ Some t)
unfolding maker_in
maker_in-only g [] s t each = inl refl
maker_in-only g (e ∷ es) s t each =
    elim (maker_in-only g es s t (λ f h. each f (inr h))) [
      | inl none ↦ elim (each e (inl refl)) [
        | inl not ↦ inl (ap (λ o. option_or o (maker_of g e s)) none ∙ not)
        | inr is ↦ inr (ap (λ o. option_or o (maker_of g e s)) none ∙ is)
      ]
      | inr some ↦ inr (ap (λ o. option_or o (maker_of g e s)) some)
    ]

-- and was made, where an event made it
maker_in-something : (g : Parts) (es : List EventView) (s : Structure) (e : EventView) (t : Tag) → Among e es
    → maker_of g e s ≡ Some t → maker_in g es s ≢ None
unfolding maker_in
maker_in-something g [] s e t among is none = absurd among
maker_in-something g (f ∷ es) s e t (inl here) is none = go (maker_in g es s) none
  where
    go : (o : Option Tag) → option_or o (maker_of g f s) ≡ None → ⊥
    go None n = some_none (sym is ∙ ap (λ x. maker_of g x s) here ∙ n)
    go (Some u) n = some_none n
maker_in-something g (f ∷ es) s e t (inr later) is none =
    go (maker_in g es s) (maker_in-something g es s e t later is) none
  where
    go : (o : Option Tag) → o ≢ None → option_or o (maker_of g f s) ≡ None → ⊥
    go None some n = some refl
    go (Some u) some n = some_none n

maker_in-is : (g : Parts) (es : List EventView) (s : Structure) (e : EventView) (t : Tag) → Among e es
    → maker_of g e s ≡ Some t → ((f : EventView) → Among f es → (maker_of g f s ≡ None) ⊎ (maker_of g f s ≡ Some t))
    → maker_in g es s ≡ Some t
maker_in-is g es s e t among is each =
    elim (maker_in-only g es s t each) [
      | inl none ↦ absurd (maker_in-something g es s e t among is none)
      | inr some ↦ some
    ]

-- what was made was given by an `alloc`
made_by-some : (o : Option Op) (f : Fired) (s : Structure) → made_by o f ≡ Some s →
    (nested : Bool) × (o ≡ Some (op.Alloc nested)) × (f ≡ fires.Out (value.Structure s))
made_by-some (Some (op.Alloc nested)) (fires.Out (value.Structure r)) s e =
    let is : r ≡ s = cc in
    (nested, refl, (λ j. fires.Out (value.Structure (is j))))
made_by-some _ _ s e = cc

module _ (g : Parts) (vs : List Constant) (count : ℕ) (s : World) (run : List Event) (r : Reach g vs count s run) where
  abbrev all : List EventView
  all = events_of s.elements

  -- a structure that an `alloc` gave is nested where it makes nested ones
  nested_as : {nested : Bool} {t : Tag} {x : Structure} → FiresAs run t (fires.Out (value.Structure x))
      → op_at g t.instr ≡ Some (op.Alloc nested) → x.nested ≡ nested
  nested_as {nested} {t} {x} y at =
      let z = has_fired g vs count s run r y in
      let known : Some (z.instr).op ≡ Some (op.Alloc nested) = sym (ap (option_map (λ (i : Instr). i.op)) z.at) ∙ at in
      let is : (z.instr).op ≡ op.Alloc nested = cc in
      (allocated_next nested y.operands z.fresh x (sym (z.is ∙ ap (λ o. fired o t y.operands z.fresh) is))).2

  -- an event whose instruction gives so makes it
  makes_from : (nested : Bool) (h : Event) (x : Structure) → Among h run
      → op_at g (tag_of (payload_of h)).instr ≡ Some (op.Alloc nested)
      → fired_in h ≡ fires.Out (value.Structure x) → Makes g h x
  makes_from nested (Took n t p v Waits) x a o f = cc
  makes_from nested (Took n t p v Blocked) x a o f = cc
  makes_from nested (Took n t p v (Fires ops h)) x a o f =
      let y : FiresAs run t (fires.Out (value.Structure x)) =
      record {
        element = n;
        port = p;
        value = v;
        operands = ops;
        among =
            subst (λ z. Among (Took n t p v (Fires ops z)) run) f a;
      } in
      (o ∙ ap (λ b. Some (op.Alloc b)) (sym (nested_as y o)), f)
  makes_from nested (Looked n c t (Now v)) x a o f = cc
  makes_from nested (Looked n c t Deferred) x a o f = cc
  makes_from nested (Wrote n c v w k) x a o f = cc

  -- which structure an event has made
  made_is : (h : Event) (v : EventView) → Shows g v h → (x : Structure) → Makes g h x → (made g v ≡ Some x)
  made_is (Took n t p u Waits) v shows x makes = absurd makes
  made_is (Took n t p u Blocked) v shows x makes = absurd makes
  made_is (Took n t p u (Fires ops f)) v shows x makes =
      (λ j. made_by (op_at g (tag_of (shows.payload j)).instr) (shows.fired j)) ∙ (λ j. made_by (makes.0 j) (makes.1 j))
  made_is (Looked n c t a) v shows x makes = absurd makes
  made_is (Wrote n c u w a) v shows x makes = absurd makes

  -- and under which tag
  maker_said : {t : Tag} {f : Fired} (y : FiresAs run t f) (v : EventView) → Shows g v (fired_event y)
      → (x z : Structure) → Makes g (fired_event y) x → maker_of g v z ≡ if_made t z (Some x)
  maker_said y v shows x z makes =
      (λ j. if_made (tag_of (shows.payload j)) z (made_is (fired_event y) v shows x makes j))

  maker_itself : {t : Tag} {f : Fired} (y : FiresAs run t f) (v : EventView) → Shows g v (fired_event y)
      → (x : Structure) → Makes g (fired_event y) x → maker_of g v x ≡ Some t
  maker_itself {t} y v shows x makes =
      maker_said y v shows x x makes ∙ ap (λ b. cond b (Some t) None) (structure_itself x)

  -- an event that says that it made a structure, has
  makes_said : (v : EventView) (h : Event) → Among h run → Shows g v h → (x : Structure) → made g v ≡ Some x
      → Makes g h x
  makes_said v h among shows x e =
      let z = made_by-some (op_at g (tag_of (payload_of h)).instr) (fired_in h) x
      ((λ j. made_by (op_at g (tag_of (sym shows.payload j)).instr) (sym shows.fired j)) ∙ e) in
      makes_from z.0 h x among z.1 z.2

  -- an event that has not made the structure does not say so
  said_none : (v : EventView) (h : Event) → Among h run → Shows g v h → (x : Structure)
      → (maker_of g v x ≡ None) ⊎ Makes g h x
  said_none v h among shows x = go (made g v) refl
    where
      of_made : (y : Structure) (b : Bool) → same_structure y x ≡ b → made g v ≡ Some y
          → (maker_of g v x ≡ None) ⊎ Makes g h x
      of_made y true same e =
          inr (subst (Makes g h) (one_structure y x same) (makes_said v h among shows y e))
      of_made y false same e =
          inl (ap (if_made (tag_of v.message.payload) x) e
          ∙ ap (λ b. cond b (Some (tag_of v.message.payload)) None) same)

      go : (o : Option Structure) → made g v ≡ o → (maker_of g v x ≡ None) ⊎ Makes g h x
      go None e = inl (ap (if_made (tag_of v.message.payload) x) e)
      go (Some y) e = of_made y (same_structure y x) refl e

  -- a structure that was made, was so under that tag
  pub made_under : {t : Tag} {x : Structure} → FiresAs run t (fires.Out (value.Structure x))
      → op_at g t.instr ≡ Some (op.Alloc x.nested) → maker_in g all x ≡ Some t
  made_under {t} {x} y at =
      let h = fired_event y in
      let makes : Makes g h x = (at, refl) in
      let z = to_record g vs count s run r h y.among in
      maker_in-is g all x z.0 t (among_events s z.0 z.1) (maker_itself y z.0 z.2 x makes)
      (λ v k.
      let w = from_record g vs count s run r v (recorded s v k) in
      elim (said_none v w.0 w.1 w.2 x) [
        | inl none ↦ inl none
        | inr other ↦ inr
            (maker_itself y v
            (subst (Shows g v) (structures_apart g vs count s run r w.0 h w.1 y.among x x other makes refl refl) w.2) x
            makes)
      ])

  -- a firing that made the structure of which an event says that it made it
  pub record MadeBy (v : EventView) (x : Structure) : Type 0 where
    pub tag : Tag
    pub fires : FiresAs run tag (fires.Out (value.Structure x))
    pub alloc : op_at g tag.instr ≡ Some (op.Alloc x.nested)
    pub at : tag_of v.message.payload ≡ tag
    pub shows : Shows g v (fired_event fires)

  -- each event that says that it made a structure, has
  pub made_shown : (v : EventView) → Among v all → (x : Structure) → made g v ≡ Some x → MadeBy v x
  made_shown v among x e =
      let w = from_record g vs count s run r v (recorded s v among) in
      by w.0 w.1 w.2 (makes_said v w.0 w.1 w.2 x e)
    where
      by : (h : Event) → Among h run → Shows g v h → Makes g h x → MadeBy v x
      by (Took n t p u Waits) a shows makes = absurd makes
      by (Took n t p u Blocked) a shows makes = absurd makes
      by (Took n t p u (Fires ops f)) a shows makes = record {
        tag = t;
        fires = record {
          element = n;
          port = p;
          value = u;
          operands = ops;
          among =
              subst (λ h. Among (Took n t p u (Fires ops h)) run) makes.1 a;
        };
        alloc = makes.0;
        at = ap tag_of shows.payload;
        shows = subst (λ h. Shows g v (Took n t p u (Fires ops h))) makes.1 shows;
      }
      by (Looked n c t a) b shows makes = absurd makes
      by (Wrote n c u w a) b shows makes = absurd makes

  -- and each that made one says so
  pub shown_made : {t : Tag} {x : Structure} → FiresAs run t (fires.Out (value.Structure x))
      → op_at g t.instr ≡ Some (op.Alloc x.nested) → (v : EventView) × Among v all × (made g v ≡ Some x)
      × (tag_of v.message.payload ≡ t)
  shown_made {t} {x} y at =
      let z = to_record g vs count s run r (fired_event y) y.among in
      (z.0, among_events s z.0 z.1, made_is (fired_event y) z.0 z.2 x (at, refl), ap tag_of (z.2).payload)
