-- A machine that takes one token at a time, for the proof of `parse` alone: no public clause cites it.
use Rattle.std.specs.Prelude.{◌+◌, ℕ, Bool, true, false, cond, nat_le, Option, Some, None, List, [], ◌∷◌}
use Rattle.std.specs.Prelude.{◌++◌, max}
use denote.Enum.Bare.{sameb}
use Rattle.id_text.specs.declared.token.Token.{Token}
use Rattle.id_text.specs.declared.token.TokenKind.{TokenKind}
use Rattle.id_text.specs.declared.token.TokenKind.TheVariants.{Name, Number, Key, Sign, End}
use Rattle.id_text.specs.declared.token.Keyword.TheVariants.{Def, If, Finally, In, True, False, Array, Not}
use Rattle.id_text.specs.declared.token.Keyword.TheVariants as keyword_of
use Rattle.id_text.specs.declared.token.Symbol.TheVariants.{LeftParen, RightParen, LeftBrace, LeftBracket, Comma, Minus}
use Rattle.id_text.specs.contracts.token.Keyword as keyword
use Rattle.id_text.specs.contracts.token.Symbol as symbol
use Rattle.id_value.specs.declared.BinaryOp.{BinaryOp}
use Rattle.id_grammar.specs.declared.phrase.Level.{Level}
use Rattle.id_grammar.specs.declared.phrase.Level.TheVariants as level
use Rattle.id_grammar.specs.declared.phrase.Scope.TheVariants as scope
use Rattle.id_grammar.specs.declared.tokens.Word.{Word}
use Rattle.id_grammar.specs.declared.tokens.Word.TheVariants as the
use Rattle.id_value.specs.declared.Kind.TheVariants as kind
use Rattle.id_grammar.specs.Tree.{Tree, binary, none, more}
use Rattle.id_grammar.specs.Grammar.{Phrase, Definition, Parameters, MoreParameters, Expression, Grouped, Negation}
use Rattle.id_grammar.specs.Grammar.{Unary}
use Rattle.id_grammar.specs.Grammar.{Postfix, Atom, Arguments, MoreArguments, Tail, Rest, done, word, either, name}
use Rattle.id_grammar.specs.Grammar.{of_kind, part, sized, raised, fetch_of, kind_named, Opens}
use Rattle.id_grammar.specs.Grammar.{definition, no_parameters}
use Rattle.id_grammar.specs.Grammar.{first_parameter, last_parameter, next_parameter, by_conditional, denied, negated}
use Rattle.id_grammar.specs.Grammar.{number, by_true, by_false, parens, by_name, by_array, by_braces, no_arguments}
use Rattle.id_grammar.specs.Grammar.{last_argument, next_argument, argument_of, by_statement, by_next, by_body, by_last}
use Rattle.id_grammar.specs.Grammar.{operand, operator_of, own_height}

-- a production that begins with this token
pub record Row (s : Phrase) (k : TokenKind) (p : ℕ) : Type 0 where
  pub rest : Rest
  pub opens : Opens s k p rest

-- the one production of a phrase that begins with a token
abbrev pub opening : (s : Phrase) (k : TokenKind) (p : ℕ) → Option (Row s k p)
opening Definition (Key Def) p = Some (record { rest = _; opens = definition })
opening Parameters (Sign RightParen) p = Some (record { rest = _; opens = no_parameters })
opening Parameters (Name x) p = Some (record { rest = _; opens = first_parameter })
opening MoreParameters (Sign RightParen) p = Some (record { rest = _; opens = last_parameter })
opening MoreParameters (Sign Comma) p = Some (record { rest = _; opens = next_parameter })
opening Expression (Key If) p = Some (record { rest = _; opens = by_conditional })
opening Negation (Key Not) p = Some (record { rest = _; opens = denied })
opening Unary (Sign Minus) p = Some (record { rest = _; opens = negated })
opening Atom (Number v) p = Some (record { rest = _; opens = number })
opening Atom (Key True) p = Some (record { rest = _; opens = by_true })
opening Atom (Key False) p = Some (record { rest = _; opens = by_false })
opening Atom (Sign LeftParen) p = Some (record { rest = _; opens = parens })
opening Atom (Name x) p = Some (record { rest = _; opens = by_name })
opening Atom (Key Array) p = Some (record { rest = _; opens = by_array })
opening Atom (Sign LeftBrace) p = Some (record { rest = _; opens = by_braces })
opening Arguments (Sign RightParen) p = Some (record { rest = _; opens = no_arguments })
opening MoreArguments (Sign RightParen) p = Some (record { rest = _; opens = last_argument })
opening MoreArguments (Sign Comma) p = Some (record { rest = _; opens = next_argument })
opening (Tail s) (Name x) p = Some (record { rest = _; opens = by_statement })
opening (Tail scope.Loop) (Key keyword_of.Next) p = Some (record { rest = _; opens = by_next })
opening (Tail scope.Block) (Key In) p = Some (record { rest = _; opens = by_body })
opening (Tail scope.Loop) (Key Finally) p = Some (record { rest = _; opens = by_last })
opening _ _ _ = None

-- the least height of a phrase: parameters have none, and there may be no arguments
abbrev pub least_height : Phrase → ℕ
least_height Definition = 1
least_height Parameters = 0
least_height MoreParameters = 0
least_height Expression = 1
least_height (Grouped l) = 1
least_height Negation = 1
least_height Unary = 1
least_height Postfix = 1
least_height Atom = 1
least_height Arguments = 0
least_height MoreArguments = 0
least_height (Tail s) = 1

-- the least height of the parts of what is left
abbrev pub room : Rest → ℕ
room (done e) = 0
room (word w r) = room r
room (either w r q) = room q
room (name f) = room (f [] 0)
room (of_kind f) = room (f kind.Int)
room (part s f) = max (least_height s) (room (f none))
room (sized s f) = max (least_height s) (room (f none 0))
room (raised m w r q) = room q

-- What stands round a part, from the inside: a level whose first operand it is, one whose next operand it is, what it
-- may be the target of, a production, one that asks for the part's height too, or the program, with the definitions
-- before it; the last numbers are the expressions round the level, the fetch or the production's parts.
pub data Frame : Type 0 where
  Left : Level → ℕ → Frame
  Right : Level → BinaryOp → Tree → ℕ → ℕ → ℕ → Frame
  Target : ℕ → Frame
  Inside : (Tree → Rest) → ℕ → ℕ → ℕ → Frame
  Sizing : (Tree → ℕ → Rest) → ℕ → ℕ → ℕ → Frame
  Outer : List Tree → Frame

-- what stands round a level behind one of its operators: more of the level, but in a comparison nothing of it
abbrev pub again : Level → ℕ → List Frame → List Frame
again level.Or d K = Left level.Or d ∷ K
again level.And d K = Left level.And d ∷ K
again level.Comparison d K = K
again level.Sum d K = Left level.Sum d ∷ K
again level.Product d K = Left level.Product d ∷ K

-- definitions have come, and more may; a phrase is to come; a part has come, with its height; in a production, with the
-- height so far; at the end
pub data State : Type 0 where
  Begin : List Tree → State
  Want : Phrase → ℕ → List Frame → State
  Have : Tree → ℕ → List Frame → State
  Next : Rest → ℕ → ℕ → ℕ → List Frame → State
  Finished : Tree → State

-- the state behind a token, and the nesting that it takes
pub record Move : Type 0 where
  pub need : ℕ
  pub next : State

-- a token that takes no nesting
abbrev pub free : State → Option Move
free S = Some (record { need = 0; next = S })

-- the function of what there is, or else the default
abbrev pub pick : {A B : Type 0} → Option A → (A → B) → B → B
pick None f d = d
pick (Some a) f d = f a

-- whether a kind is this word
abbrev pub is_word : Word → TokenKind → Bool
is_word (the.Key k) (Key j) = sameb keyword.the_type j k
is_word (the.Sign s) (Sign r) = sameb symbol.the_type r s
is_word _ _ = false

-- the name that a kind is
abbrev pub name_in : TokenKind → Option (List ℕ)
name_in (Name x) = Some x
name_in _ = None

-- in a production of the phrase, behind its first token
abbrev pub behind_first : Rest → Phrase → ℕ → List Frame → State
behind_first r s d K = Next r 0 (d + own_height s) (own_height s) K

-- a token that begins a production, or else another move
abbrev pub enters : Token → Phrase → ℕ → List Frame → Option Move → Option Move
enters t s d K other =
    pick (opening s t.kind t.start)
    (λ row. Some (record { need = d + own_height s + room row.rest; next = behind_first row.rest s d K })) other

-- a token where an operand without `-` is to come
abbrev pub points : Token → ℕ → List Frame → Option Move
points t d K = enters t Atom d (Target d ∷ K) None

-- a token where an operand of a product is to come
abbrev pub multiplies : Token → ℕ → List Frame → Option Move
multiplies t d K = enters t Unary d K (points t d K)

-- a token where a sum is to come
abbrev pub sums : Token → ℕ → List Frame → Option Move
sums t d K = multiplies t d (Left level.Product d ∷ Left level.Sum d ∷ K)

-- a token where `not` or a comparison is to come
abbrev pub negates : Token → ℕ → List Frame → Option Move
negates t d K = enters t Negation d K (sums t d (Left level.Comparison d ∷ K))

-- a token where an expression is to come
abbrev pub expresses : Token → ℕ → List Frame → Option Move
expresses t d K = enters t Expression d K (negates t d (Left level.And d ∷ Left level.Or d ∷ K))

-- a token where the arguments of a call are to come
abbrev pub passes : Token → ℕ → List Frame → Option Move
passes t d K = enters t Arguments d K (expresses t (d + 0) (Inside argument_of 0 (d + 0) 0 ∷ K))

-- a token where a phrase is to come
abbrev pub wants : Token → Phrase → ℕ → List Frame → Option Move
wants t Definition d K = enters t Definition d K None
wants t Parameters d K = enters t Parameters d K None
wants t MoreParameters d K = enters t MoreParameters d K None
wants t Expression d K = expresses t d K
wants t (Grouped level.Or) d K = negates t d (Left level.And d ∷ Left level.Or d ∷ K)
wants t (Grouped level.And) d K = negates t d (Left level.And d ∷ K)
wants t (Grouped level.Comparison) d K = sums t d (Left level.Comparison d ∷ K)
wants t (Grouped level.Sum) d K = sums t d K
wants t (Grouped level.Product) d K = multiplies t d (Left level.Product d ∷ K)
wants t Negation d K = negates t d K
wants t Unary d K = multiplies t d K
wants t Postfix d K = points t d K
wants t Atom d K = enters t Atom d K None
wants t Arguments d K = passes t d K
wants t MoreArguments d K = enters t MoreArguments d K None
wants t (Tail s) d K = enters t (Tail s) d K None

-- a token behind an operand of a level: an operator of the level, or else what the level's end makes of it
abbrev pub operates : Token → Tree → ℕ → Level → ℕ → List Frame → Option Move → Option Move
operates t e h l d K other =
    pick (operator_of l t.kind)
    (λ o. Some (record { need = d + h + 1; next = Want (operand l) (d + 1) (Right l o e h t.start d ∷ K) })) other

-- a token behind a later operand of a level: another operator, but in a comparison what its end makes of it
abbrev pub repeats : Token → Tree → ℕ → Level → ℕ → List Frame → Option Move → Option Move
repeats t e h level.Or d K other = operates t e h level.Or d K other
repeats t e h level.And d K other = operates t e h level.And d K other
repeats t e h level.Comparison d K other = other
repeats t e h level.Sum d K other = operates t e h level.Sum d K other
repeats t e h level.Product d K other = operates t e h level.Product d K other

-- a token behind what may be the target of a fetch: its `[`, or else what the end of the operand makes of it
abbrev pub indexes : Token → Tree → ℕ → ℕ → List Frame → Option Move → Option Move
indexes t e h d K other =
    cond (is_word (the.Sign LeftBracket) t.kind)
    (Some (record { need = d + h + 1; next = Next (fetch_of e t.start) h (d + 1) 1 (Target d ∷ K) })) other

-- a token in a production, whose end closes
abbrev pub nexts : Token → Rest → ℕ → ℕ → ℕ → List Frame → (Tree → ℕ → Option Move)
    → Option Move
nexts t (done e) h d c K close = close e (h + c)
nexts t (word w r) h d c K close = cond (is_word w t.kind) (free (Next r h d c K)) None
nexts t (either w r q) h d c K close =
    cond (is_word w t.kind) (free (Next (r t.start) h d c K)) (nexts t q h d c K close)
nexts t (name f) h d c K close = pick (name_in t.kind) (λ x. free (Next (f x t.start) h d c K)) None
nexts t (of_kind f) h d c K close = pick (kind_named t.kind) (λ k. free (Next (f k) h d c K)) None
nexts t (part s f) h d c K close = wants t s d (Inside f h d c ∷ K)
nexts t (sized s f) h d c K close = wants t s d (Sizing f h d c ∷ K)
nexts t (raised m w r q) h d c K close =
    cond (is_word w t.kind) (Some (record { need = d + m + 1; next = Next (r t.start) (max h (m + 1)) d c K }))
    (nexts t q h d c K close)

-- trees, in order, put before a list of trees
abbrev pub ahead : List Tree → Tree → Tree
ahead [] e = e
ahead (d ∷ ds) e = more d (ahead ds e)

-- the end of the text, behind a program
abbrev pub ends : TokenKind → Tree → Option Move
ends End e = free (Finished e)
ends _ e = None

-- a token behind definitions
abbrev pub defines : Token → List Tree → Option Move
defines t ds = pick (wants t Definition 0 (Outer ds ∷ [])) (λ m. Some m) (ends t.kind (ahead ds none))

-- a token behind a part
abbrev pub closes : Token → Tree → ℕ → List Frame → Option Move
closes t e h [] = None
closes t e h (Outer ds ∷ K) = defines t (ds ++ e ∷ [])
closes t e h (Left l d ∷ K) = operates t e h l d K (closes t e h K)
closes t b n (Right l o a m p d ∷ K) =
    repeats t (binary o a b p) (max m n + 1) l d K (closes t (binary o a b p) (max m n + 1) K)
closes t e h (Target d ∷ K) = indexes t e h d K (closes t e h K)
closes t e h (Inside f m d c ∷ K) = nexts t (f e) (max m h) d c K (λ a n. closes t a n K)
closes t e h (Sizing f m d c ∷ K) = nexts t (f e h) (max m h) d c K (λ a n. closes t a n K)

-- what a token does
abbrev pub takes : Token → State → Option Move
takes t (Begin ds) = defines t ds
takes t (Want s d K) = wants t s d K
takes t (Have e h K) = closes t e h K
takes t (Next r h d c K) = nexts t r h d c K (λ a n. closes t a n K)
takes t (Finished e) = None

-- how a run ends: in the end of a program, at a token that is refused, for its nesting or not, or before either
pub data Outcome : Type 0 where
  Accepted : Tree → Outcome
  Refused : Bool → ℕ → Outcome
  Unfinished : Outcome

-- the run from a state, with this most nesting
unfoldable pub run : ℕ → List Token → State → Outcome
run n [] (Finished e) = Accepted e
run n [] _ = Unfinished
run n (t ∷ ts) S =
    pick (takes t S) (λ m. cond (nat_le m.need n) (run n ts m.next) (Refused true t.start)) (Refused false t.start)
