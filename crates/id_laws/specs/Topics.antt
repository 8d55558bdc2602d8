-- What each instruction speaks of and what each port wants, and when a value tells it under an activation
-- (docs/MEANING.md, "Laws").
use Rattle.std.specs.Prelude.{◌≡◌, ◌<◌, ◌+◌, ◌-◌, ℕ, zero, suc, ℤ, pos, Bool as Truth, true}
use Rattle.std.specs.Prelude.{false}
use Rattle.std.specs.Prelude.{List, get_or, length}
use Rattle.std.specs.Prelude.{if◌then◌else◌, unwrap_or, int_le, int_lt, ◌+ℤ◌}
use Rattle.id_value.specs.Results.{is_whole}
use Rattle.id_value.specs.Bounds.{is_inside}
use Rattle.id_table.specs.declared.row.Region.{Region}
use Rattle.id_table.specs.declared.row.Node.{Node}
use Rattle.id_table.specs.declared.row.Node.TheVariants.{Head, Param, Literal, Unary, Binary, Split, If, Enter, Arg}
use Rattle.id_table.specs.declared.row.Node.TheVariants.{Call}
use Rattle.id_table.specs.declared.row.Node.TheVariants.{Binding, Def, Program}
use Rattle.id_table.specs.declared.row.Node.TheVariants.{Start, LoopHead, Variable, Entries, Switches, Turn, Next}
use Rattle.id_table.specs.declared.row.Node.TheVariants.{Reset, Loop, Array, Fetch, Address, Store}
use Rattle.id_table.specs.declared.row.Node.TheVariants.{Bounds, Carried, Count}
use Rattle.id_table.specs.Loops.{bounds_row, index_row, upper_at}
use Rattle.id_table.specs.Rows.{arm_at, top}
use Rattle.id_check.specs.declared.checked.Checked.{Checked}
use Rattle.id_check.specs.Scopes.{loops_between}
use Rattle.id_check.specs.Programs.{place, region, rows}
use Rattle.id_instr.specs.declared.dests.Port.{Port}
use Rattle.id_instr.specs.declared.dests.Port.TheVariants.{Zero, One}
use Rattle.id_tag.specs.declared.Context.{Context}
use Rattle.id_tag.specs.declared.Structure.{Structure}
use Rattle.id_tag.specs.declared.Cell.{Cell}
use Rattle.id_tag.specs.declared.Tag.{Tag}
use Rattle.id_tag.specs.declared.Value.{Value}
use Rattle.id_tag.specs.declared.Value.TheVariants as value
use Rattle.id_tag.specs.declared.Payload.{Payload}
use Rattle.id_tag.specs.declared.Payload.TheVariants.{Token, Read, Write}
use Rattle.id_ops.specs.declared.Fired.TheVariants.{Out}
use Rattle.id_core.specs.Machines.{World}
use Rattle.id_source.specs.declared.Path.{Path}
use Rattle.id_source.specs.declared.Site.{Site}
use Rattle.id_source.specs.declared.SourceValue.{SourceValue}
use Rattle.id_source.specs.declared.SourceValue.TheVariants as source
use Rattle.id_source.specs.declared.Fact.TheVariants.{Has}
use Rattle.id_source.specs.Sources.{Source}
use Rattle.id_source.specs.Facts.{ask, below, put, shape, site, without}
use Rattle.id_source.specs.Rounds.{Holds}
use Rattle.id_desugar.specs.Ends.{end_of}
use Rattle.id_desugar.specs.Regions.{has_index, imports_of}
use Rattle.id_build.specs.declared.arc.Origin.{Origin}
use Rattle.id_build.specs.declared.arc.Form.{Form}
use Rattle.id_build.specs.Rows.{block, entering, next_of, node, origin, output}
use Rattle.id_build.specs.Schemas.{Makes, Feeds}
use Rattle.id_runs.specs.Activations.{Activation, at_iteration, tag_in}
use Rattle.id_runs.specs.Events.{Event, FiresAs}
use Rattle.id_runs.specs.Runs.{Moving}
use Rattle.id_laws.specs.Activations.{main_head, count_row}
pub use Rattle.id_laws.specs.Activations.{switches_of}
use Rattle.id_laws.specs.Activations as activations

-- what is spoken of: that a region is live, what a row's expression Has, what a binder Has as a region sees it, what
-- the predicate Has by which the switches of a row go, what the block with this head gives, where that goes, which
-- context the `Enter` or `Start` at a row has made, and which cell the fetch or `Address` at a row names; of the loop
-- with an index and this head, what the upper bound Has, as a region sees it, what the index Has in the iteration, or
-- in the next one, and whether the loop goes on in it, or in the next one; and that it goes on in that. Of those that
-- say so of a value itself, it is what the lower bound, the bounds, the index or what counts has spoken
pub data Topic : Type 0 where
  Turned : Region → Topic
  ValueOf : ℕ → Topic
  SaidOf : ℕ → Topic
  NameIn : Region → ℕ → Topic
  TestOf : ℕ → Topic
  ResultOf : ℕ → Topic
  WayBack : ℕ → Topic
  ContextOf : ℕ → Topic
  CellOf : ℕ → Topic
  BoundIn : Region → ℕ → Topic
  IndexOf : ℕ → Topic
  FlagOf : ℕ → Topic
  SaidIndex : ℕ → Topic
  FirstIndex : ℕ → Topic
  FirstFlag : ℕ → Topic
  SaidFirst : ℕ → Topic
  NextIndex : ℕ → Topic
  NextFlag : ℕ → Topic
  SaidNext : ℕ → Topic
  LastIndex : ℕ → Topic
  AndOne : ℕ → Topic
  GoesFurther : ℕ → Topic
  Nothing : Topic

-- what is handed into a region by a part: the trigger, and each name
abbrev pub split_of : Region → List ℕ → ℕ → Topic
split_of r bs zero = Turned r
split_of r bs (suc k) = NameIn r (get_or bs k 0)

-- what the entry of the part k of what the loop with the head h carries on speaks of
abbrev pub entry_of : Checked → ℕ → ℕ → Topic
entry_of P h zero = NameIn (arm_at (switches_of P h) true) (index_row (switches_of P h))
entry_of P h (suc zero) = BoundIn (top h) h
entry_of P h (suc (suc k)) = FlagOf h

-- what a port of that entry wants
abbrev pub entry_wants : ℕ → ℕ → Topic
entry_wants h zero = IndexOf h
entry_wants h (suc zero) = BoundIn (top h) h
entry_wants h (suc (suc k)) = FlagOf h

-- what is handed into a region of the loop with an index and the head h by a part: the trigger, the upper bound, and
-- each name
abbrev pub counted_of : Region → ℕ → List ℕ → ℕ → Topic
counted_of r h bs zero = Turned r
counted_of r h bs (suc zero) = BoundIn r h
counted_of r h bs (suc (suc k)) = NameIn r (get_or bs (suc k) 0)

-- the same of any loop
abbrev pub handed_of : Checked → Region → ℕ → List ℕ → ℕ → Topic
handed_of P r h bs k = if has_index P h then counted_of r h bs k else split_of r bs k

-- what a part that hands on to the next iteration speaks of, in the iteration that it goes to: the trigger, what the
-- loop with the head h carries on, and each import
abbrev pub further_of : Checked → ℕ → ℕ → Topic
further_of P h zero = Turned (top h)
further_of P h (suc zero) = IndexOf h
further_of P h (suc (suc zero)) = BoundIn (top h) h
further_of P h (suc (suc (suc zero))) = FlagOf h
further_of P h (suc (suc (suc (suc k)))) = NameIn (top h) (get_or (imports_of P h) k 0)

-- what such a part wants in the region r
abbrev pub further_wants : Checked → Region → ℕ → ℕ → Topic
further_wants P r h zero = Turned r
further_wants P r h (suc zero) = NextIndex h
further_wants P r h (suc (suc zero)) = BoundIn r h
further_wants P r h (suc (suc (suc zero))) = SaidNext h
further_wants P r h (suc (suc (suc (suc k)))) = NameIn r (get_or (imports_of P h) k 0)

-- what the second port of a `send` into the loop with an index that begins at the row n wants, in the region r: what it
-- carries on, and the names that enter it
abbrev pub bounded_sent : Checked → ℕ → Region → ℕ → Topic
bounded_sent P n r zero = FirstIndex (n + 1)
bounded_sent P n r (suc zero) = BoundIn r (n + 1)
bounded_sent P n r (suc (suc zero)) = SaidFirst (n + 1)
bounded_sent P n r (suc (suc (suc k))) = NameIn r (get_or (entering P (n + 1)) k 0)

-- what the second port of a `send` into any loop that begins at the row n wants, in the region r
abbrev pub sent_to : Checked → ℕ → Region → ℕ → Topic
sent_to P n r k =
    if has_index P (n + 1) then bounded_sent P n r k else NameIn r (get_or (entering P (n + 1)) k 0)

-- what a part of what counts in the loop with the head h speaks of, on a side; where the loop does not go on in the
-- next iteration, what is handed there tells what it told before
abbrev pub count_of : Checked → ℕ → ℕ → Truth → Topic
count_of P h zero side = NextFlag h
count_of P h (suc zero) true = GoesFurther h
count_of P h (suc zero) false = Turned (arm_at (switches_of P h) true)
count_of P h (suc (suc zero)) true = LastIndex h
count_of P h (suc (suc zero)) false = entry_of P h 0
count_of P h (suc (suc (suc zero))) side = AndOne h
count_of P h (suc (suc (suc (suc k)))) side = NextIndex h

-- what its ports want, in the region r
abbrev pub count_wants : Checked → Region → ℕ → ℕ → Port → Topic
count_wants P r h zero Zero = SaidIndex h
count_wants P r h zero One = BoundIn r h
count_wants P r h (suc zero) Zero = SaidNext h
count_wants P r h (suc zero) One = Turned r
count_wants P r h (suc (suc zero)) Zero = SaidNext h
count_wants P r h (suc (suc zero)) One = SaidIndex h
count_wants P r h (suc (suc (suc zero))) Zero = GoesFurther h
count_wants P r h (suc (suc (suc (suc k)))) Zero = LastIndex h
count_wants P r h (suc (suc (suc (suc k)))) One = AndOne h
count_wants P r h _ p = Nothing

-- what a part of the row n, in this region with this node, speaks of on a side; a `next`, what hands a trigger and
-- imports on and a `reset` speak of it in the iteration that it goes to
abbrev pub speaks_of : Checked → ℕ → Region → Node → ℕ → Truth → Topic
speaks_of P n r Head zero side = Turned (top n)
speaks_of P n r (Param x k) part side = NameIn r n
speaks_of P n r (Literal v) part side = ValueOf n
speaks_of P n r (Unary o a) part side = ValueOf n
speaks_of P n r (Binary o a b) part side = ValueOf n
speaks_of P n r (Split t) part side = split_of (arm_at n side) (imports_of P n) part
speaks_of P n r (If s x y) part side = ValueOf n
speaks_of P n r (Enter x) part side = ContextOf n
speaks_of P n r (Call e c) part side = ValueOf n
speaks_of P n r (Binding x a) part side = NameIn r n
speaks_of P n r (Bounds a b) zero side = FirstFlag (n + 2)
speaks_of P n r (Bounds a b) (suc part) true = FirstIndex (n + 2)
speaks_of P n r (Bounds a b) (suc part) false = ValueOf a
speaks_of P n r (Carried k) part side = let h = block P n in entry_of P h (n - (h + 1))
speaks_of P n r Start zero side = ContextOf n
speaks_of P n r (LoopHead s) zero side = Turned (top n)
speaks_of P n r Variable part side = NameIn r (next_of P n)
speaks_of P n r Entries part side = NameIn r (get_or (imports_of P (block P n)) part 0)
speaks_of P n r (Switches t) part side = handed_of P (arm_at n side) (block P n) (imports_of P n) part
speaks_of P n r Count part side = count_of P (block P n) part side
speaks_of P n r Turn part side =
    let h = block P n in if has_index P h then further_of P h part else split_of (top h) (imports_of P h) part
speaks_of P n r (Next x k o v) part side = NameIn (top (block P n)) n
speaks_of P n r (Reset v) part side = ResultOf (block P n)
speaks_of P n r (Loop h w l) part side = ValueOf n
speaks_of P n r (Array nested a b) part side = ValueOf n
speaks_of P n r (Fetch t i) zero side = CellOf n
speaks_of P n r (Fetch t i) (suc (suc part)) side = ValueOf n
speaks_of P n r (Address t i) part side = CellOf n
speaks_of P n r _ part side = Nothing

-- what comes from there speaks of
abbrev pub topic_of : Checked → Origin → Topic
topic_of P s = speaks_of P s.row (region P s.row) (node P s.row) s.part s.side

-- what a port of a part of the row n, in this region with this node, wants
abbrev pub wants : Checked → ℕ → Region → Node → ℕ → Port → Topic
wants P n r Head zero Zero = Turned (top n)
wants P n r Head (suc part) Zero = WayBack n
wants P n r Head (suc part) One = ResultOf n
wants P n r (Param x k) part Zero = NameIn r n
wants P n r (Literal v) part Zero = Turned r
wants P n r (Unary o a) part Zero = ValueOf a
wants P n r (Binary o a b) part Zero = ValueOf a
wants P n r (Binary o a b) part One = ValueOf b
wants P n r (Split t) part Zero = TestOf n
wants P n r (Split t) part One = split_of r (imports_of P n) part
wants P n r (If s x y) part Zero = ValueOf n
wants P n r (Enter x) part Zero = Turned r
wants P n r (Arg e k v) part Zero = ContextOf e
wants P n r (Arg e k v) part One = ValueOf v
wants P n r (Call e c) part Zero = ValueOf n
wants P n r (Binding x a) part Zero = ValueOf a
wants P n r (Bounds a b) zero Zero = SaidOf a
wants P n r (Bounds a b) zero One = ValueOf b
wants P n r (Bounds a b) (suc part) Zero = SaidFirst (n + 2)
wants P n r (Bounds a b) (suc part) One = SaidOf a
wants P n r (Carried k) part Zero = let h = block P n in entry_wants h (n - (h + 1))
wants P n r Start zero Zero = Turned r
wants P n r Start (suc k) Zero = ContextOf n
wants P n r Start (suc k) One = sent_to P n r k
wants P n r (LoopHead s) zero Zero = Turned (top n)
wants P n r (LoopHead s) (suc part) Zero = WayBack n
wants P n r (LoopHead s) (suc part) One = ResultOf n
wants P n r Variable part Zero = NameIn r (next_of P n)
wants P n r Entries part Zero = NameIn r (get_or (imports_of P (block P n)) part 0)
wants P n r (Switches t) part Zero = TestOf n
wants P n r (Switches t) part One = handed_of P r (block P n) (imports_of P n) part
wants P n r Count part p = count_wants P r (block P n) part p
wants P n r Turn part Zero =
    let h = block P n in if has_index P h then further_wants P r h part else split_of r (imports_of P h) part
wants P n r (Next x k o v) part Zero = ValueOf v
wants P n r (Reset v) part Zero = ValueOf v
wants P n r (Loop h w l) part Zero = ValueOf n
wants P n r (Array nested a b) part Zero = ValueOf a
wants P n r (Array nested a b) part One = ValueOf b
wants P n r (Fetch t i) zero Zero = ValueOf t
wants P n r (Fetch t i) zero One = ValueOf i
wants P n r (Fetch t i) (suc zero) Zero = CellOf n
wants P n r (Fetch t i) (suc (suc part)) Zero = ValueOf n
wants P n r (Address t i) part Zero = ValueOf t
wants P n r (Address t i) part One = ValueOf i
wants P n r (Store a x) part Zero = CellOf a
wants P n r (Store a x) part One = ValueOf x
wants P n r Program part Zero = ResultOf (main_head P)
wants P n r _ part p = Nothing

-- what the port of the part wants
abbrev pub topic_at : Checked → ℕ → ℕ → Port → Topic
topic_at P n part p = wants P n (region P n) (node P n) part p

-- the row that gives the value of a block that ends at a row of this node: a procedure's body, the last expression of a
-- loop
abbrev pub result_at : Node → ℕ
result_at (Def x h k b) = b
result_at (Loop h w l) = l
result_at _ = 0

-- the row that gives the value of the block with this head
abbrev pub result_of : Checked → ℕ → ℕ
result_of P h = result_at (node P (end_of P h))

-- the row has the part
pub record IsPart (P : Checked) (n part : ℕ) : Type 0 where
  pub form : Form
  pub place : ℕ
  pub makes : Makes P n part form place

-- the row n names a cell of the structure at the row t, at the index at the row i: a fetch, or the `Address` of a store
pub data Addresses (P : Checked) (n t i : ℕ) : Type 0 where
  of_fetch : node P n ≡ Fetch t i → Addresses P n t i
  of_store : node P n ≡ Address t i → Addresses P n t i

-- the name of the structure: the `array` that has made it stands there, and the source has its bounds
pub record Named (S : Source) (number : ℕ → ℕ → ℕ) (run : List Event) (s : Structure) (x : Site)
    : Type 0 where
  pub activation : Activation
  pub row : ℕ
  pub low : ℕ
  pub high : ℕ
  pub within : row < length (rows S.checked)
  pub node : node S.checked row ≡ Array s.nested low high
  pub live : activations.Live S number run activation (region S.checked row)
  pub made : FiresAs run (tag_in activation (number row 0)) (Out (value.Structure s))
  pub path_of : activations.PathOf S number run activation x.path
  pub place : x.place ≡ place S.checked row
  pub holds : Holds S (shape x s.low s.high)

-- the value of a token stands for the value of the source
pub data StandsFor (S : Source) (number : ℕ → ℕ → ℕ) (run : List Event) : Value → SourceValue
    → Type 0 where
  number_stands : (n : ℤ) → StandsFor S number run (value.Int n) (source.Int n)
  truth_stands : (b : Truth) → StandsFor S number run (value.Bool b) (source.Bool b)
  name_stands : (s : Structure) (x : Site) → Named S number run s x
      → StandsFor S number run (value.Structure s) (source.Name x)

module _ (S : Source) (number : ℕ → ℕ → ℕ) (run : List Event) where
  abbrev Live : Activation → Region → Type 0
  Live a r = activations.Live S number run a r

  -- the value is one that the place Has, on the activation's path without its last d steps
  pub record Shown (a : Activation) (d e : ℕ) (v : Value) : Type 0 where
    pub path : Path
    pub path_of : activations.PathOf S number run a path
    pub value : SourceValue
    pub stands : StandsFor S number run v value
    pub holds : Holds S (Has (without d path) e value)

  -- the value is the truth value by which the switches at the row w go at the path
  pub record GoesBy (p : Path) (w : ℕ) (v : Value) : Type 0 where
    pub side : Truth
    pub is : v ≡ value.Bool side
    pub goes : activations.Goes S p w side

  -- the same, at the activation's path
  pub record ShownSide (a : Activation) (w : ℕ) (v : Value) : Type 0 where
    pub path : Path
    pub path_of : activations.PathOf S number run a path
    pub goes : GoesBy path w v

  -- what the switches of the row n go by has spoken the value, by which they go where it is a truth value
  pub record ShownTest (a : Activation) (n : ℕ) (v : Value) : Type 0 where
    pub test : ℕ
    pub tests : activations.Tests S.checked n test
    pub live : Live a (region S.checked n)
    pub spoken : activations.Speaks S number run a (origin S.checked test) v
    pub goes : (b : Truth) → v ≡ value.Bool b → activations.GoesAt S number run a n b

  -- where the index of the loop with the head h stands, and its upper bound
  abbrev pub index_place : ℕ → ℕ
  index_place h = place S.checked (index_row (switches_of S.checked h))

  abbrev pub upper_place : ℕ → ℕ
  upper_place h = place S.checked (unwrap_or (upper_at (rows S.checked) h) 0)

  -- the value says whether the bounds right before the `Start` of the loop with the head h are of an iteration: it
  -- compares the number that the lower one has spoken with one that the upper one Has
  pub record ShownFirstFlag (a : Activation) (h : ℕ) (v : Value) : Type 0 where
    pub lower : ℕ
    pub upper : ℕ
    pub bounds : node S.checked (bounds_row h) ≡ Bounds lower upper
    pub path : Path
    pub path_of : activations.PathOf S number run a path
    pub low : ℤ
    pub high : ℤ
    pub is : v ≡ value.Bool (int_le low high)
    pub said : activations.Speaks S number run a (origin S.checked lower) (value.Int low)
    pub low_has : Holds S (Has path (place S.checked lower) (source.Int low))
    pub high_has : Holds S (Has path (place S.checked upper) (source.Int high))

  -- the loop has an iteration, and its index has this value in the first one
  pub record ShownFirst (a : Activation) (h : ℕ) (v : Value) : Type 0 where
    pub path : Path
    pub path_of : activations.PathOf S number run a path
    pub first : ℤ
    pub is : v ≡ value.Int first
    pub decided : activations.Speaks S number run a (output (bounds_row h)) (value.Bool true)
    pub holds : Holds S (Has (below path (place S.checked h) 0) (index_place h) (source.Int first))
    pub goes : activations.Goes S (below path (place S.checked h) 0) (switches_of S.checked h) true

  -- the value is that of its index in this iteration, in which it goes on
  pub record ShownIndex (a : Activation) (h : ℕ) (v : Value) : Type 0 where
    pub live : Live a (top h)
    pub shown : Shown a 0 (index_place h) v
    pub decided : activations.Decided S number run h (value.Bool true) a
    pub goes : ShownSide a (switches_of S.checked h) (value.Bool true)

  -- the value says whether it goes on in this iteration
  pub record ShownFlag (a : Activation) (h : ℕ) (v : Value) : Type 0 where
    pub live : Live a (top h)
    pub decided : activations.Decided S number run h v a
    pub shown : ShownSide a (switches_of S.checked h) v

  -- the iteration behind this one
  abbrev pub behind : Activation → Activation
  behind a = at_iteration a.context (suc a.iteration)

  -- the value says whether the loop with the head h goes on in the next iteration: it compares the number that the
  -- index has spoken with one that the upper bound Has
  pub record ShownNextFlag (a : Activation) (h : ℕ) (v : Value) : Type 0 where
    pub live : Live a (arm_at (switches_of S.checked h) true)
    pub outer : Path
    pub path_of : activations.PathOf S number run a (below outer (place S.checked h) a.iteration)
    pub index : ℤ
    pub high : ℤ
    pub is : v ≡ value.Bool (int_lt index high)
    pub said : activations.Speaks S number run a (output (h + 1)) (value.Int index)
    pub index_has : Holds S (Has (below outer (place S.checked h) a.iteration) (index_place h) (source.Int index))
    pub high_has : Holds S (Has outer (upper_place h) (source.Int high))

  -- it is in its body, and goes on in the next iteration
  pub record Counts (a : Activation) (h : ℕ) : Type 0 where
    pub live : Live a (arm_at (switches_of S.checked h) true)
    pub decided : activations.Speaks S number run a (output (count_row S.checked h)) (value.Bool true)
    pub goes : ShownSide (behind a) (switches_of S.checked h) (value.Bool true)

  -- the index Has one more in the next iteration, which is a number of the language
  pub record ShownLast (a : Activation) (h : ℕ) (v : Value) : Type 0 where
    pub counts : Counts a h
    pub index : ℤ
    pub is : v ≡ value.Int index
    pub whole : is_whole (index +ℤ pos 1) ≡ true
    pub next : Shown (behind a) 0 (index_place h) (value.Int (index +ℤ pos 1))

  -- some iteration of the activation's context has given the value of the block with this head
  pub record ShownResult (a : Activation) (h : ℕ) (v : Value) : Type 0 where
    pub iteration : ℕ
    pub live : Live (at_iteration a.context iteration) (region S.checked (result_of S.checked h))
    pub shown : Shown (at_iteration a.context iteration) 0 (place S.checked (result_of S.checked h)) v
    pub at_first : a.iteration ≡ 0

  -- the value is the way back of the block with this head
  pub record ShownWayBack (a : Activation) (h : ℕ) (v : Value) : Type 0 where
    pub caller : Activation
    pub row : ℕ
    pub is : v ≡ value.Continuation (tag_in caller (number row 0))
    pub returns : activations.ReturnsTo S number run a.context h caller row
    pub at_first : a.iteration ≡ 0

  -- the value is a context that the `Enter` or `Start` at the row n has made
  pub record ShownContext (a : Activation) (n : ℕ) (v : Value) : Type 0 where
    pub context : Context
    pub is : v ≡ value.Context context
    pub live : Live a (region S.checked n)
    pub opens : activations.Opens S number run a n context

  -- the value is the address of a cell, of the structure and at the index that the parts of the row n Have, inside the
  -- structure's bounds
  pub record ShownCell (a : Activation) (n : ℕ) (v : Value) : Type 0 where
    pub cell : Cell
    pub is : v ≡ value.Address cell
    pub target : ℕ
    pub index : ℕ
    pub parts : Addresses S.checked n target index
    pub live : Live a (region S.checked n)
    pub path : Path
    pub path_of : activations.PathOf S number run a path
    pub name : Site
    pub named : Named S number run cell.structure name
    pub has_target : Holds S (Has path (place S.checked target) (source.Name name))
    pub has_index : Holds S (Has path (place S.checked index) (source.Int cell.index))
    pub inside : is_inside cell.structure.low cell.structure.high cell.index ≡ true

  -- the value tells the topic under the activation
  abbrev pub Tells : Activation → Topic → Value → Type 0
  Tells a (Turned r) v = (v ≡ value.Signal) × Live a r
  Tells a (SaidOf e) v =
      Live a (region S.checked e) × Shown a 0 (place S.checked e) v
      × activations.Speaks S number run a (origin S.checked e) v
  Tells a (ValueOf e) v = Live a (region S.checked e) × Shown a 0 (place S.checked e) v
  Tells a (NameIn r b) v = Live a r × Shown a (loops_between (rows S.checked) r.head b) (place S.checked b) v
  Tells a (TestOf n) v = ShownTest a n v
  Tells a (ResultOf h) v = ShownResult a h v
  Tells a (WayBack h) v = ShownWayBack a h v
  Tells a (ContextOf n) v = ShownContext a n v
  Tells a (CellOf n) v = ShownCell a n v
  Tells a (BoundIn r h) v = Live a r × Shown a (loops_between (rows S.checked) r.head (h - 1)) (upper_place h) v
  Tells a (IndexOf h) v = ShownIndex a h v
  Tells a (FlagOf h) v = ShownFlag a h v
  Tells a (SaidIndex h) v =
      Live a (arm_at (switches_of S.checked h) true) × Shown a 0 (index_place h) v
      × activations.Speaks S number run a (output (h + 1)) v
  Tells a (FirstIndex h) v = Live a (region S.checked (h - 1)) × ShownFirst a h v
  Tells a (FirstFlag h) v = Live a (region S.checked (h - 1)) × ShownFirstFlag a h v
  Tells a (SaidFirst h) v =
      Live a (region S.checked (h - 1)) × ShownFirstFlag a h v
      × activations.Speaks S number run a (output (bounds_row h)) v
  Tells a (NextIndex h) v = Counts a h × Shown (behind a) 0 (index_place h) v
  Tells a (NextFlag h) v = ShownNextFlag a h v
  Tells a (SaidNext h) v = ShownNextFlag a h v × activations.Speaks S number run a (output (count_row S.checked h)) v
  Tells a (LastIndex h) v = ShownLast a h v
  Tells a (AndOne h) v = (v ≡ value.Int (pos 1)) × Counts a h
  Tells a (GoesFurther h) v = (v ≡ value.Signal) × Counts a h
  Tells a Nothing v = ⊥

  -- the message is a token for a part, and tells what its port wants
  pub record ToldToken (x : Payload) : Type 0 where
    pub activation : Activation
    pub row : ℕ
    pub part : ℕ
    pub port : Port
    pub value : Value
    pub is_part : IsPart S.checked row part
    pub is : x ≡ Token (tag_in activation (number row part)) port value
    pub tells : Tells activation (topic_at S.checked row part port) value

  -- the reply is for a fetch, which asks for the cell
  pub record ToldRead (c : Cell) (t : Tag) : Type 0 where
    pub activation : Activation
    pub row : ℕ
    pub target : ℕ
    pub index : ℕ
    pub within : row < length (rows S.checked)
    pub node : node S.checked row ≡ Fetch target index
    pub is : t ≡ tag_in activation (number row 2)
    pub live : Live activation (region S.checked row)
    pub path : Path
    pub path_of : activations.PathOf S number run activation path
    pub name : Site
    pub named : Named S number run c.structure name
    pub holds : Holds S (ask (site path (place S.checked row)) name c.index)

  -- the origin is a store, which puts the value into the cell
  pub record ToldWrite (c : Cell) (v : Value) (w : Tag) : Type 0 where
    pub activation : Activation
    pub row : ℕ
    pub address : ℕ
    pub stored : ℕ
    pub within : row < length (rows S.checked)
    pub node : node S.checked row ≡ Store address stored
    pub is : w ≡ tag_in activation (number row 0)
    pub live : Live activation (region S.checked row)
    pub path : Path
    pub path_of : activations.PathOf S number run activation path
    pub name : Site
    pub named : Named S number run c.structure name
    pub value : SourceValue
    pub stands : StandsFor S number run v value
    pub holds : Holds S (put name c.index value (site path (place S.checked row)))

  -- the message tells what its port wants, that a fetch asks or that a store puts
  abbrev pub Told : Payload → Type 0
  Told (Token t p v) = ToldToken (Token t p v)
  Told (Read c t) = ToldRead c t
  Told (Write c v w) = ToldWrite c v w

  -- each message in flight or handled tells what its port wants
  abbrev pub AllTell : World → Type 0
  AllTell s = (x : Payload) → Moving s run x → Told x

  -- what comes from what feeds a part tells what it speaks of, in the iteration that it goes to
  pub record AllSpeak : Type 0 where
    pub stays : (a : Activation) (s : Origin) (n part : ℕ) (p : Port) (v : Value) → Feeds S.checked s n part p
        → activations.Speaks S number run a s v → Tells a (topic_of S.checked s) v
    pub moves : (a : Activation) (s : Origin) (k n part : ℕ) (p : Port) (v : Value) → Feeds S.checked s n part p
        → activations.Moves S number run a s k v → Tells (at_iteration a.context k) (topic_of S.checked s) v
