-- When a fact of the source is carried by a quiet run (docs/MEANING.md, "Laws").
use Rattle.std.specs.Prelude.{◌≡◌, ◌<◌, ℕ, ℤ, true, List, length}
use Rattle.id_table.specs.declared.row.Node.{Node}
use Rattle.id_table.specs.declared.row.Node.TheVariants.{Param, Binding, Next, Index, Fetch, Store}
use Rattle.id_table.specs.Tables.{is_thing}
use Rattle.id_check.specs.declared.checked.Checked.{Checked}
use Rattle.id_check.specs.Programs.{place, region, rows}
use Rattle.id_bank.specs.declared.cell.ReadAnswer.{ReadAnswer}
use Rattle.id_bank.specs.declared.cell.WriteAnswer.{WriteAnswer}
use Rattle.id_tag.specs.declared.Structure.{Structure}
use Rattle.id_tag.specs.declared.Value.{Value}
use Rattle.id_source.specs.declared.Path.{Path}
use Rattle.id_source.specs.declared.Site.{Site}
use Rattle.id_source.specs.declared.SourceValue.{SourceValue}
use Rattle.id_source.specs.declared.Fact.{Fact}
use Rattle.id_source.specs.declared.Fact.TheVariants.{On, Has, Shape, Put, Ask}
use Rattle.id_source.specs.Sources.{Source}
use Rattle.id_build.specs.declared.arc.Origin.{Origin}
use Rattle.id_build.specs.Rows.{home, label, node, origin, output}
use Rattle.id_runs.specs.Activations.{Activation, tag_in}
use Rattle.id_runs.specs.Cells.{ReadBy, WrittenBy}
use Rattle.id_runs.specs.Events.{Event}
use Rattle.id_laws.specs.Activations.{PathOf, Speaks, Live}
use Rattle.id_laws.specs.Topics.{Named, StandsFor}

-- where the value of a thing with this node comes from: a binder's from its label, an expression's from its origin
abbrev pub speaker_of : Checked → ℕ → Node → Origin
speaker_of P n (Param x k) = output n
speaker_of P n (Binding x a) = output n
speaker_of P n (Next x k o v) = output (label P n)
speaker_of P n (Index x) = output (label P n)
speaker_of P n _ = origin P n

-- where the value of the thing at the row n comes from
abbrev pub speaker : Checked → ℕ → Origin
speaker P n = speaker_of P n (node P n)

module _ (S : Source) (number : ℕ → ℕ → ℕ) (run : List Event) where
  -- the thing at the place, under an activation of the path, in a live region: a loop's variable is at home where its
  -- label stands
  pub record Here (p : Path) (e : ℕ) : Type 0 where
    pub activation : Activation
    pub path_of : PathOf S number run activation p
    pub row : ℕ
    pub within : row < length (rows S.checked)
    pub thing : is_thing (node S.checked row) ≡ true
    pub place : e ≡ place S.checked row
    pub live : Live S number run activation (region S.checked (home S.checked row))

  -- what stands there has spoken the value
  pub record CarriedHas (p : Path) (e : ℕ) (v : SourceValue) : Type 0 where
    pub here : Here p e
    pub value : Value
    pub stands : StandsFor S number run value v
    pub spoken : Speaks S number run here.activation (speaker S.checked here.row) value

  -- a structure of this name was made with these bounds
  pub record CarriedShape (x : Site) (lo hi : ℤ) : Type 0 where
    pub structure : Structure
    pub named : Named S number run structure x
    pub low : lo ≡ structure.low
    pub high : hi ≡ structure.high

  -- what stands there has written what stands for the value to the cell of a structure of this name
  pub record CarriedPut (x : Site) (i : ℤ) (v : SourceValue) (y : Site) : Type 0 where
    pub here : Here y.path y.place
    pub address : ℕ
    pub stored : ℕ
    pub node : node S.checked here.row ≡ Store address stored
    pub structure : Structure
    pub named : Named S number run structure x
    pub value : Value
    pub stands : StandsFor S number run value v
    pub answer : WriteAnswer
    pub written : WrittenBy run (record { structure = structure; index = i }) value
        (tag_in here.activation (number here.row 0)) answer

  -- what stands there has asked for the cell of a structure of this name
  pub record CarriedAsk (y x : Site) (i : ℤ) : Type 0 where
    pub here : Here y.path y.place
    pub target : ℕ
    pub index : ℕ
    pub node : node S.checked here.row ≡ Fetch target index
    pub structure : Structure
    pub named : Named S number run structure x
    pub answer : ReadAnswer
    pub read : ReadBy run (record { structure = structure; index = i }) (tag_in here.activation (number here.row 2))
        answer

  -- the run carries the fact
  abbrev pub Carried : Fact → Type 0
  Carried (On p e) = Here p e
  Carried (Has p e v) = CarriedHas p e v
  Carried (Shape s) = CarriedShape s.name s.low s.high
  Carried (Put x) = CarriedPut x.name x.index x.value x.store
  Carried (Ask x) = CarriedAsk x.fetch x.name x.index
