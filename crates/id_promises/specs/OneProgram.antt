-- *One program*: a text has one program, whatever its lists' places in memory (docs/PROMISES.md, "The run").
use Rattle.std.specs.Prelude.{◌≡◌, ◌<◌, ◌↔◌, ℕ, List, length, Option}
use Rattle.id_check.specs.declared.checked.Checked.{Checked}
use Rattle.id_check.specs.Programs as program
use Rattle.id_value.specs.declared.Constant.{Constant}
use Rattle.id_source.specs.declared.Ask.{Ask}
use Rattle.id_source.specs.declared.Fact.{Fact}
use Rattle.id_source.specs.declared.NameValue.{NameValue}
use Rattle.id_source.specs.declared.SourceFault.{SourceFault}
use Rattle.id_source.specs.declared.SourceValue.{SourceValue}
use Rattle.id_source.specs.Sources.{Source, source}
use Rattle.id_source.specs.Facts.{FaultRule, Rule}
use Rattle.id_source.specs.Inputs.{AreInputsOf}
use Rattle.id_source.specs.Names.{IsNameValue}
use Rattle.id_source.specs.Rounds.{Faulty, Holds, IsAnswer, IsWaiting, Rounds}
use Rattle.id_instr.specs.Graph.{Parts}
use Rattle.id_build.specs.Own.{IsOwn, own_number}
use Rattle.id_build.specs.Schemas.{Schemas}
use Rattle.id_compile.specs.Programs.{IsProgramOf}

-- the two programs have one tree, the same rows, names and `main`, and each row has one binder, kind and depth in both
pub record AreAlike (P Q : Checked) : Type 0 where
  pub tree : program.tree P ≡ program.tree Q
  pub rows : program.rows P ≡ program.rows Q
  pub names : P.table.names.items ≡ Q.table.names.items
  pub main : P.main ≡ Q.main
  pub binders : (i : ℕ) → i < length (program.rows P) → program.binder P i ≡ program.binder Q i
  pub kinds : (i : ℕ) → i < length (program.rows P) → program.kind P i ≡ program.kind Q i
  pub depths : (i : ℕ) → i < length (program.rows P) → program.depth P i ≡ program.depth Q i

-- the two sources have the same rules, facts, round by round, faults, answer, names and waiting fetches
pub record MeanTheSame (S T : Source) : Type 0 where
  pub rules : (fs : List Fact) (f : Fact) → Rule S fs f ↔ Rule T fs f
  pub fault_rules : (fs : List Fact) (f : SourceFault) → FaultRule S fs f ↔ FaultRule T fs f
  pub rounds : (n : ℕ) (f : Fact) → Rounds S n f ↔ Rounds T n f
  pub facts : (f : Fact) → Holds S f ↔ Holds T f
  pub faults : (f : SourceFault) → Faulty S f ↔ Faulty T f
  pub answer : (v : Option SourceValue) → IsAnswer S v ↔ IsAnswer T v
  pub names : (n : NameValue) → IsNameValue S n ↔ IsNameValue T n
  pub waiting : (a : Ask) → IsWaiting S a ↔ IsWaiting T a

-- *One program*: two programs of one text are alike, the schemas give them the same graphs, and one graph of their own,
-- the same words the same inputs, and with these they mean the same
pub record OneProgram : Type 0 where
  pub alike : (text : List ℕ) (P Q : Checked) → IsProgramOf text P → IsProgramOf text Q → AreAlike P Q
  pub given : (text : List ℕ) (words : List (List ℕ)) (P Q : Checked) (vs : List Constant) → IsProgramOf text P
      → IsProgramOf text Q → AreInputsOf P words vs → AreInputsOf Q words vs
  pub inputs : (text : List ℕ) (words : List (List ℕ)) (P Q : Checked) (vs us : List Constant)
      → IsProgramOf text P → IsProgramOf text Q → AreInputsOf P words vs → AreInputsOf Q words us → vs ≡ us
  pub graphs : (text : List ℕ) (P Q : Checked) (g : Parts) → IsProgramOf text P → IsProgramOf text Q
      → Schemas P g ↔ Schemas Q g
  -- what is listed, drawn, run and judged of the text is one graph, with one number for each part of each row
  pub own : (text : List ℕ) (P Q : Checked) (g h : Parts) → IsProgramOf text P → IsProgramOf text Q → IsOwn P g
      → IsOwn Q h → g ≡ h
  pub numbers : (text : List ℕ) (P Q : Checked) (n k : ℕ) → IsProgramOf text P → IsProgramOf text Q
      → own_number P n k ≡ own_number Q n k
  pub same : (text : List ℕ) (P Q : Checked) (vs : List Constant) → IsProgramOf text P → IsProgramOf text Q
      → MeanTheSame (source P vs) (source Q vs)
