-- Which lists are accepted, and where the others are refused (docs/LANGUAGE.md, "Nesting").
use Rattle.std.specs.Prelude.{◌≡◌, ◌≤◌, ℕ, List, [], ◌∷◌, ◌++◌}
use Rattle.id_text.specs.declared.token.Token.{Token}
use Rattle.id_text.specs.Tokens.{Rises}
use Rattle.id_grammar.specs.declared.tree.TreeError.{TreeError}
use Rattle.id_grammar.specs.declared.tree.TreeError.TheVariants.{Unexpected, TooDeep, Memory}
use Rattle.id_grammar.specs.Tree.{Tree}
use Rattle.id_grammar.specs.Grammar.{Program}

-- the tokens are a program with this tree and with nesting at most 200
pub record Accepts (ts : List Token) (e : Tree) : Type 0 where
  pub height : ℕ
  pub derives : Program ts e height
  pub fits : height ≤ 200

-- some accepted list, whose starts rise, begins so
pub record GoesOn (front : List Token) : Type 0 where
  pub behind : List Token
  pub tree : Tree
  pub rises : Rises (front ++ behind)
  pub accepts : Accepts (front ++ behind) tree

-- some list of the grammar, whose starts rise, begins so, of whatever nesting
pub record GoesOnDeeper (front : List Token) : Type 0 where
  pub behind : List Token
  pub tree : Tree
  pub height : ℕ
  pub rises : Rises (front ++ behind)
  pub derives : Program (front ++ behind) tree height

-- there is a token that starts there: the tokens before it go on, and with it they do not
pub record StopsAt (ts : List Token) (at : ℕ) : Type 0 where
  pub front : List Token
  pub token : Token
  pub behind : List Token
  pub whole : ts ≡ front ++ token ∷ behind
  pub place : token.start ≡ at
  pub goes_on : GoesOn front
  pub stops : ¬ GoesOn (front ++ token ∷ [])

-- Unexpected where no list of the grammar goes on with the refused token, TooDeep where one of more nesting does
abbrev pub RefusedBy : List Token → TreeError → Type 0
RefusedBy ts (Unexpected at) = (r : StopsAt ts at) × ¬ GoesOnDeeper (r.front ++ r.token ∷ [])
RefusedBy ts (TooDeep at) = (r : StopsAt ts at) × GoesOnDeeper (r.front ++ r.token ∷ [])
RefusedBy ts Memory = Unit {0}

-- want of memory
abbrev pub IsMemory : TreeError → Type 0
IsMemory x = x ≡ Memory
