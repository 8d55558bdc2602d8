-- Where a context stands, which regions are live and where procedures return to, in a run (docs/MEANING.md, "Laws").
use Rattle.std.specs.Prelude.{◌≡◌, ◌<◌, ◌+◌, ◌-◌, ℕ, suc, Bool, true, false, List, length}
use Rattle.id_table.specs.declared.row.Region.{Region}
use Rattle.id_table.specs.declared.row.Node.TheVariants.{Split, Enter, Start, Switches}
use Rattle.id_table.specs.Rows.{arm_at, at, top}
use Rattle.id_check.specs.declared.checked.Checked.{Checked}
use Rattle.id_check.specs.Programs.{place, region, rows}
use Rattle.id_tag.specs.declared.Context.{Context}
use Rattle.id_tag.specs.declared.Value.{Value}
use Rattle.id_tag.specs.declared.Value.TheVariants as value
use Rattle.id_ops.specs.declared.Fired.{Fired}
use Rattle.id_ops.specs.declared.Fired.TheVariants.{Entered, Moved}
use Rattle.id_source.specs.declared.Path.{Path}
use Rattle.id_source.specs.declared.SourceValue.TheVariants as source
use Rattle.id_source.specs.declared.Fact.{Fact}
use Rattle.id_source.specs.declared.Fact.TheVariants.{Has}
use Rattle.id_source.specs.Sources.{Source, head_of}
use Rattle.id_source.specs.Facts.{GoesOn, outermost, below}
use Rattle.id_desugar.specs.Ends.{end_of}
use Rattle.id_desugar.specs.Regions.{has_index}
use Rattle.id_source.specs.Rounds.{Every, Holds}
use Rattle.id_build.specs.declared.arc.Origin.{Origin}
use Rattle.id_table.specs.Loops.{bounds_row}
use Rattle.id_table.specs.Tables.{is_within}
use Rattle.id_build.specs.Rows.{answer_row, block, called, node, origin, output, switches_at}
use Rattle.id_runs.specs.Activations.{Activation, at_iteration, main_context, main_activation, tag_in}
use Rattle.id_runs.specs.Events.{Event, FiresAs, GivesOn}

-- the head of main's definition
abbrev pub main_head : Checked → ℕ
main_head P = head_of (at (rows P) P.main).node

-- the row n makes a context for the block with this head, and what that gives goes to this row: a call's `Enter` for
-- the procedure that it calls, and back to the call, a loop's `Start` for the loop, whose head stands behind it, and to
-- the loop
pub data Begins (P : Checked) (n : ℕ) : ℕ → ℕ → Type 0 where
  of_call : {x : ℕ} → node P n ≡ Enter x → Begins P n (called P n) (end_of P n)
  of_loop : node P n ≡ Start → Begins P n (n + 1) (end_of P (n + 1))

-- where a context stands: it is main's, or its path goes on below one by a step at a place, whose number is the
-- iteration (a call's is 0)
pub data Seat : Type 0 where
  Outermost : Seat
  Below : Path → ℕ → Seat

-- the path of an iteration of a context with this seat
abbrev pub path_at : Seat → ℕ → Path
path_at Outermost k = outermost
path_at (Below p e) k = below p e k

-- the switches at the row n go by the predicate at the row e
pub data Tests (P : Checked) (n : ℕ) : ℕ → Type 0 where
  of_arms : {e : ℕ} → node P n ≡ Split e → Tests P n e
  of_turns : {e : ℕ} → node P n ≡ Switches e → Tests P n e

-- by the facts of the source the switches at the row n go to this side at the path: that of the predicate, or, of a
-- loop with an index, that by which it goes on in the iteration
pub data Goes (S : Source) : Path → ℕ → Bool → Type 0 where
  by_test : {p : Path} {n e : ℕ} {b : Bool} → Tests S.checked n e → is_within (node S.checked e) ≡ false
      → Holds S (Has p (place S.checked e) (source.Bool b)) → Goes S p n b
  by_index : {p : Path} {n w k : ℕ} {b : Bool} {fs : List Fact} → GoesOn S n w p k b fs → Every (Holds S) fs
      → Goes S (below p (place S.checked n) k) w b

-- the switches of the loop with the head h
abbrev pub switches_of : Checked → ℕ → ℕ
switches_of P h = switches_at (node P (end_of P h))

-- where that loop, if it has an index, says whether it goes on in the next iteration
abbrev pub count_row : Checked → ℕ → ℕ
count_row P h = switches_of P h + 1

module _ (S : Source) (number : ℕ → ℕ → ℕ) (run : List Event) where
  -- the `Enter` or `Start` at the row n has made the context under the activation
  abbrev pub Opens : Activation → ℕ → Context → Type 0
  Opens a n c = FiresAs run (tag_in a (number n 0)) (Entered c)

  -- the context stands there
  pub data SeatOf : Context → Seat → Type 0 where
    main_seat : SeatOf main_context Outermost
    made_seat : {a : Activation} {n h q : ℕ} {c : Context} {s : Seat} → n < length (rows S.checked)
        → Begins S.checked n h q → Opens a n c
        → SeatOf a.context s → SeatOf c (Below (path_at s a.iteration) (place S.checked n))

  -- the activation has the path
  pub record PathOf (a : Activation) (p : Path) : Type 0 where
    pub seat : Seat
    pub of_context : SeatOf a.context seat
    pub is : p ≡ path_at seat a.iteration

  -- what comes from there under the activation is the value
  pub record Speaks (a : Activation) (s : Origin) (v : Value) : Type 0 where
    pub fired : Fired
    pub fires : FiresAs run (tag_in a (number s.row s.part)) fired
    pub gives : GivesOn fired s.side v

  -- from there the value goes on to this iteration of the activation's context
  pub record Moves (a : Activation) (s : Origin) (k : ℕ) (v : Value) : Type 0 where
    pub on : s.side ≡ true
    pub fires : FiresAs run (tag_in a (number s.row s.part)) (Moved k v)

  -- the switches at the row n go to this side under the activation
  pub record GoesAt (a : Activation) (n : ℕ) (b : Bool) : Type 0 where
    pub path : Path
    pub path_of : PathOf a path
    pub goes : Goes S path n b

  -- whether the loop with an index and the head h goes on under the activation was found to be the value: in the first
  -- iteration by its bounds, in each other one by what counts in the iteration before
  pub data Decided (h : ℕ) (v : Value) : Activation → Type 0 where
    at_first : {a : Activation} {c : Context} → Opens a (h - 1) c → Speaks a (output (bounds_row h)) v
        → Decided h v (at_iteration c 0)
    at_next : {c : Context} {k : ℕ} → Speaks (at_iteration c k) (output (count_row S.checked h)) v
        → Decided h v (at_iteration c (suc k))

  -- the switches at the row n are to go to this side under the activation: their predicate has spoken so, or, where
  -- the loop has an index, it was found so, whether the flag has come already or not
  pub data Chosen (a : Activation) (n : ℕ) : Bool → Type 0 where
    has_said : {e : ℕ} {b : Bool} → Tests S.checked n e → Speaks a (origin S.checked e) (value.Bool b)
        → Chosen a n b
    has_counted : {e : ℕ} → node S.checked n ≡ Switches e → has_index S.checked (block S.checked n) ≡ true
        → Decided (block S.checked n) (value.Bool true) a → Chosen a n true

  -- the region is live under the activation: main's body is from the start, an arm or a side of a loop is where it was
  -- chosen, a procedure's body and a loop are in each context that an `Enter` or `Start` of a live region has made for
  -- them, and a loop is again in the iteration behind one in which it goes on
  pub data Live : Activation → Region → Type 0 where
    at_start : Live main_activation (top (main_head S.checked))
    on_side : {a : Activation} {n e : ℕ} {b : Bool} → n < length (rows S.checked) → Tests S.checked n e
        → Live a (region S.checked n) → Chosen a n b → GoesAt a n b → Live a (arm_at n b)
    entered : {a : Activation} {n h q : ℕ} {c : Context} → n < length (rows S.checked) → Begins S.checked n h q
        → Live a (region S.checked n) → Opens a n c → Live (at_iteration c 0) (top h)
    again : {c : Context} {k n e : ℕ} → n < length (rows S.checked) → node S.checked n ≡ Switches e
        → Live (at_iteration c k) (region S.checked n) → Chosen (at_iteration c k) n true
        → GoesAt (at_iteration c k) n true → Live (at_iteration c (suc k)) (region S.checked n)

  -- what the block with this head gives under the context goes to the first instruction of the row, under the
  -- activation: main's to the answer, another's to the call or loop where what its `Enter` or `Start` has begun ends
  pub data ReturnsTo : Context → ℕ → Activation → ℕ → Type 0 where
    to_answer : ReturnsTo main_context (main_head S.checked) main_activation (answer_row S.checked)
    to_row : {a : Activation} {n h q : ℕ} {c : Context} → n < length (rows S.checked) → Begins S.checked n h q
        → Live a (region S.checked n) → Opens a n c → ReturnsTo c h a q
