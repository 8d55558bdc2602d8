-- The program of a text (docs/PROMISES.md, "The engine").
use Rattle.std.specs.Prelude.{◌≡◌, ◌≤◌, ◌<◌, ℕ, List, Some, length, slice_get, option_map}
use Rattle.id_text.specs.declared.token.Token.{Token}
use Rattle.id_text.specs.declared.token.TextError.{TextError}
use Rattle.id_text.specs.Lexes.{Lexes, IsRefusal}
use Rattle.id_text.specs.Lexes.Ending.{Whole}
use Rattle.id_grammar.specs.declared.tree.TreeError.{TreeError}
use Rattle.id_grammar.specs.Tree.{Tree}
use Rattle.id_tree.specs.Distinct.{HasPlace}
use Rattle.id_tree.specs.Accepted.{Accepts, RefusedBy}
use Rattle.id_table.specs.Rows.{rows_of}
use Rattle.id_check.specs.Causes.{IsMain, IsRefusedFor}
use Rattle.id_check.specs.Programs.{rows, tree}
use Rattle.id_check.specs.declared.checked.Checked.{Checked}
use Rattle.id_check.specs.declared.cause.CheckCause.{CheckCause}
use Rattle.id_value.specs.declared.Constant.{Constant}
use Rattle.id_source.specs.declared.inputs.Wanted.{Wanted}
use Rattle.id_source.specs.Inputs.{AreInputsOf, wanted}
use Rattle.id_instr.specs.Graph.{Parts}
use Rattle.id_build.specs.Rows.{size}
use Rattle.id_build.specs.Own.{IsOwn}
use Rattle.id_compile.specs.declared.compiled.CompileError.{CompileError}
use Rattle.id_compile.specs.declared.compiled.CompileError.TheVariants as compiler

-- the tree is that of the text's tokens
pub record IsTreeOf (text : List ℕ) (t : Tree) : Type 0 where
  pub tokens : List Token
  pub lexes : Lexes 0 text tokens Whole
  pub accepts : Accepts tokens t

-- the places of the tree's things are at most so many bytes in
pub record ArePlacedWithin (size : ℕ) (t : Tree) : Type 0 where
  pub within : (q : ℕ) → HasPlace t q → q ≤ size

-- the program is the text's: its tokens are those of the text, its tree is theirs, and its `main` is there
pub record IsProgramOf (text : List ℕ) (P : Checked) : Type 0 where
  pub tokens : List Token
  pub lexes : Lexes 0 text tokens Whole
  pub accepts : Accepts tokens (tree P)
  pub main : IsMain (rows P) P.main

-- the text has a program of which a graph can be built: one of at most 1,000,000 instructions
pub record HasProgram (text : List ℕ) : Type 0 where
  pub program : Checked
  pub is_program : IsProgramOf text program
  pub small : size program ≤ 1000000

-- the text has such a program, and the words give inputs to it
pub record HasInputs (text : List ℕ) (words : List (List ℕ)) : Type 0 where
  pub program : Checked
  pub is_program : IsProgramOf text program
  pub small : size program ≤ 1000000
  pub inputs : List Constant
  pub are_inputs : AreInputsOf program words inputs

-- a text with its program and a graph of it, as contracts see them
pub record CompiledView : Type 0 where
  pub text : List ℕ
  pub checked : Checked
  pub graph : Parts

-- the parameter of `main` of this number has this name
abbrev pub IsNameOfParam : Checked → ℕ → List ℕ → Type 0
IsNameOfParam P number name = option_map (λ (w : Wanted). w.name) (slice_get (wanted P) number) ≡ Some name

-- the places of the program's things are at most so many bytes in
pub record IsPlacedWithin (size : ℕ) (P : Checked) : Type 0 where
  pub within : (q : ℕ) → HasPlace (tree P) q → q ≤ size

-- the text is short, the program is the text's, its places lie in the text, and the graph is its own
pub record IsCompiled (text : List ℕ) (P : Checked) (g : Parts) : Type 0 where
  pub short : length text ≤ 1048576
  pub program : IsProgramOf text P
  pub within : IsPlacedWithin (length text) P
  pub own : IsOwn P g

-- why a text has no graph: it has no tokens, they have no tree, the program is refused, or it is too large
pub data IsRefusedBy (text : List ℕ) : CompileError → Type 0 where
  by_lexer : (e : TextError) → IsRefusal text e → IsRefusedBy text (compiler.Text e)
  by_parser : (ts : List Token) (e : TreeError) → Lexes 0 text ts Whole → RefusedBy ts e
      → IsRefusedBy text (compiler.Tree e)
  by_check : (ts : List Token) (t : Tree) (c : CheckCause) →
      Lexes 0 text ts Whole → Accepts ts t → IsRefusedFor (rows_of t) c → IsRefusedBy text (compiler.Check c)
  too_large : (P : Checked) → IsProgramOf text P → 1000000 < size P → IsRefusedBy text compiler.TooLarge
  by_memory : IsRefusedBy text compiler.Memory

-- why a program has no graph
abbrev pub IsRefusedGraph : Checked → CompileError → Type 0
IsRefusedGraph P compiler.TooLarge = 1000000 < size P
IsRefusedGraph P e = e ≡ compiler.Memory
