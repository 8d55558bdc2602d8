-- What a firing means for the source, what its operands tell, and which constants their values stand for.
use Rattle.std.proofs.Common.{◌≡◌, ◌⊎◌, inl, inr, ℕ, ℤ, ◌+◌, Bool as Truth, true, List, Some, slice_get, refl, ap}
use Rattle.id_value.specs.declared.Constant.{Constant}
use Rattle.id_value.specs.declared.Constant.TheVariants as constants
use Rattle.id_value.specs.declared.FaultKind.{FaultKind}
use Rattle.id_table.specs.declared.row.Node.TheVariants.{Arg, Program, Start}
use Rattle.id_check.specs.Programs.{place, region}
use Rattle.id_instr.specs.declared.dests.Port.{Port}
use Rattle.id_instr.specs.declared.dests.Port.TheVariants.{Zero, One}
use Rattle.id_tag.specs.declared.Context.{Context}
use Rattle.id_tag.specs.declared.Tag.{Tag}
use Rattle.id_tag.specs.declared.Value.{Value}
use Rattle.id_tag.specs.declared.Value.TheVariants as value
use Rattle.id_ops.specs.declared.Operands.{Operands}
use Rattle.id_ops.specs.declared.Operands.TheVariants as operands
use Rattle.id_ops.specs.declared.Fired.{Fired}
use Rattle.id_ops.specs.declared.Fired.TheVariants.{Out, Side, Entered, Sent, Moved, Asked, Stored, Failed, Nothing}
use Rattle.id_ops.specs.Operators.{constant_value}
use Rattle.id_tag.specs.declared.Structure.{Structure}
use Rattle.id_source.specs.declared.Path.{Path}
use Rattle.id_source.specs.declared.SourceFault.TheVariants.{Operator}
use Rattle.id_source.specs.declared.SourceValue.{SourceValue}
use Rattle.id_source.specs.declared.SourceValue.TheVariants as source
use Rattle.id_source.specs.Sources.{Source, value_of}
use Rattle.id_source.specs.Facts.{site}
use Rattle.id_source.specs.declared.Fact.TheVariants.{Has}
use Rattle.id_source.specs.Rounds.{Faulty, Holds}
use Rattle.id_value.specs.Results.{is_whole}
use Rattle.id_build.specs.Rows.{Entry, loop_entries, node, param_of}
use Rattle.id_runs.specs.Activations.{Activation, at_iteration, tag_in}
use Rattle.id_runs.specs.Events.{Event, FiresAs, FiresOnce}
use Rattle.id_laws.specs.Activations.{Begins, Opens, PathOf, Live, ReturnsTo}
use Rattle.id_laws.specs.Topics.{sent_to}
use Rattle.id_laws.specs.Topics.{ValueOf, StandsFor, number_stands, truth_stands, ShownResult, Tells, name_stands}
use Rattle.id_laws.specs.Topics.{ToldRead, ToldWrite}
use Rattle.id_laws.specs.Topics.{topic_of, topic_at}
use Rattle.id_laws.proofs.Rows.Arcs.{place_shown}

-- the value of a token is a constant, and so is what it stands for
pub record IsConstant (v : Value) (w : SourceValue) : Type 0 where
  pub constant_is : Constant
  pub token : v ≡ constant_value constant_is
  pub value : w ≡ value_of constant_is

-- a value that stands for one of the source is a constant, or a structure
pub stands_constant : {S : Source} {number : ℕ → ℕ → ℕ} {run : List Event} {v : Value} {w : SourceValue}
    → StandsFor S number run v w → IsConstant v w ⊎ ((s : Structure) × (v ≡ value.Structure s))
stands_constant (number_stands n) = inl (record { constant_is = constants.Int n; token = refl; value = refl })
stands_constant (truth_stands b) = inl (record { constant_is = constants.Bool b; token = refl; value = refl })
stands_constant (name_stands s x named) = inr (s, refl)

pub constant_stands : (S : Source) (number : ℕ → ℕ → ℕ) (run : List Event) (c : Constant)
    → StandsFor S number run (constant_value c) (value_of c)
constant_stands S number run (constants.Int n) = number_stands n
constant_stands S number run (constants.Bool b) = truth_stands b

-- a truth value stands for that one
pub stands_truth : {S : Source} {number : ℕ → ℕ → ℕ} {run : List Event} {v : Value} {w : SourceValue} {b : Truth}
    → StandsFor S number run v w → v ≡ value.Bool b
    → w ≡ source.Bool b
stands_truth {b = b} (number_stands n) e = cc
stands_truth {b = b} (name_stands s x named) e = cc
stands_truth {b = b} (truth_stands c) e = let same : c ≡ b = cc in ap (λ z. source.Bool z) same

-- no instruction of the run fires twice under one tag, and each number that a place of the source Has is one of the
-- language
pub record IsBacked (S : Source) (run : List Event) : Type 0 where
  pub once : FiresOnce run
  pub wholes : (p : Path) (e : ℕ) (i : ℤ) → Holds S (Has p e (source.Int i)) → is_whole i ≡ true

module _ (S : Source) (number : ℕ → ℕ → ℕ) (run : List Event) where
  -- the value of the block with this head goes to where it returns
  pub record Returned (a : Activation) (h : ℕ) (u : Tag) (v : Value) : Type 0 where
    pub caller : Activation
    pub row : ℕ
    pub goes : u ≡ tag_in caller (number row 0)
    pub returns_to : ReturnsTo S number run a.context h caller row
    pub result : ShownResult S number run a h v

  -- the value of an argument goes to the entry of its parameter, in a context that its `Enter` has made
  pub record Passed (a : Activation) (n : ℕ) (u : Tag) (v : Value) : Type 0 where
    pub enter : ℕ
    pub index : ℕ
    pub argument : ℕ
    pub node : node S.checked n ≡ Arg enter index argument
    pub context : Context
    pub goes : u ≡ tag_in (at_iteration context 0) (number (param_of S.checked enter index) 0)
    pub live : Live S number run a (region S.checked enter)
    pub opens : Opens S number run a enter context
    pub value : Tells S number run a (ValueOf argument) v

  -- a first value or an import goes to its entry in a loop, in the context that its `Start` has made
  pub record Given (a : Activation) (n : ℕ) (u : Tag) (v : Value) : Type 0 where
    pub slot : ℕ
    pub entry : Entry
    pub node : node S.checked n ≡ Start
    pub at : slice_get (loop_entries S.checked (n + 1)) slot ≡ Some entry
    pub context : Context
    pub goes : u ≡ tag_in (at_iteration context 0) (number entry.row entry.part)
    pub live : Live S number run a (region S.checked n)
    pub opens : Opens S number run a n context
    pub value : Tells S number run a (sent_to S.checked n (region S.checked n) slot) v

  -- the row begins a context in a live region
  pub record Entering (a : Activation) (n part : ℕ) : Type 0 where
    pub head : ℕ
    pub end : ℕ
    pub begins : Begins S.checked n head end
    pub first : part ≡ 0
    pub live : Live S number run a (region S.checked n)

  -- the fault at the row is one of the source
  pub record FaultAt (a : Activation) (n : ℕ) (k : FaultKind) : Type 0 where
    pub live : Live S number run a (region S.checked n)
    pub path : Path
    pub path_of : PathOf S number run a path
    pub faulty : Faulty S (Operator k (site path (place S.checked n)))
    -- its instruction shows the row's place
    pub shows : place_shown S.checked (place S.checked n) (node S.checked n) ≡ place S.checked n

  -- what a firing of the part of the row tells; the answer's instruction, which feeds nothing, tells nothing
  abbrev pub Means : Activation → ℕ → ℕ → Fired → Type 0
  Means a n part (Out v) =
      (node S.checked n ≡ Program → ⊥) → FiresAs run (tag_in a (number n part)) (Out v) → Tells S number run a
      (topic_of S.checked (record { row = n; part = part; side = true })) v
  Means a n part (Side b v) = Tells S number run a (topic_of S.checked (record { row = n; part = part; side = b })) v
  Means a n part (Moved k v) =
      Tells S number run (at_iteration a.context k) (topic_of S.checked (record { row = n; part = part; side = true }))
      v
  Means a n part (Entered c) = Entering a n part
  Means a n part (Sent u v) = Returned a n u v ⊎ (Passed a n u v ⊎ Given a n u v)
  Means a n part (Asked c u) = ToldRead S number run c u
  Means a n part (Stored c v u) = ToldWrite S number run c v u
  Means a n part (Failed k) = FaultAt a n k
  Means a n part Nothing = Unit {0}

  -- the operands tell what their ports want
  pub data OperandsTell (a : Activation) (n part : ℕ) (ops : Operands) : Type 0 where
    one : (p : Port) (v : Value) → ops ≡ operands.One v → Tells S number run a (topic_at S.checked n part p) v
        → OperandsTell a n part ops
    two : (v w : Value) → ops ≡ operands.Two v w → Tells S number run a (topic_at S.checked n part Zero) v
        → Tells S number run a (topic_at S.checked n part One) w → OperandsTell a n part ops
