-- What the readers of `parse` give back, by the machine: for the proof of `parse` alone.
use Rattle.std.specs.Prelude.{◌≡◌, ◌+◌, ◌<◌, ◌≤◌, ◌⊎◌, ℕ, Bool, true, false, cond, nat_le}
use Rattle.std.specs.Prelude.{Option, Some, None}
use Rattle.std.specs.Prelude.{List, [], ◌∷◌, length, max}
use Rattle.id_text.specs.declared.token.Token.{Token}
use Rattle.id_text.specs.declared.token.TokenKind.{TokenKind}
use Rattle.id_text.specs.declared.token.TokenKind.TheVariants.{Name, Number, Key, Sign, End}
use Rattle.id_text.specs.declared.token.Keyword.{Keyword}
use Rattle.id_text.specs.declared.token.Keyword.TheVariants.{If, Finally, In, Not, True, False, Array}
use Rattle.id_text.specs.declared.token.Symbol.TheVariants.{LeftParen, LeftBrace, LeftBracket, Colon, Becomes}
use Rattle.id_text.specs.declared.token.Symbol.TheVariants.{Minus}
use Rattle.id_grammar.specs.declared.phrase.Level.{Level}
use Rattle.id_grammar.specs.declared.phrase.Level.TheVariants as level
use Rattle.id_grammar.specs.declared.phrase.Scope.{Scope}
use Rattle.id_grammar.specs.declared.phrase.Scope.TheVariants as scope
use Rattle.id_grammar.specs.declared.tokens.Word.{Word}
use Rattle.id_value.specs.declared.Kind.{Kind}
use Rattle.id_value.specs.declared.UnaryOp.{UnaryOp}
use Rattle.id_value.specs.declared.BinaryOp.{BinaryOp}
use Rattle.id_grammar.specs.declared.tree.Expr.{Expr}
use Rattle.id_grammar.specs.declared.tree.Stmt.{Stmt}
use Rattle.id_grammar.specs.declared.tree.Param.{Param}
use Rattle.id_grammar.specs.declared.tree.Def.{Def}
use Rattle.id_grammar.specs.declared.tree.TreeError.{TreeError}
use Rattle.id_grammar.specs.declared.tree.TreeError.TheVariants.{Unexpected, TooDeep, Memory}
use Rattle.id_grammar.specs.Tree.{Tree, tree_of, stmt_tree, def_tree, unary, store, param, more}
use Rattle.id_grammar.specs.Grammar.{Phrase, Definition, Parameters, MoreParameters, Arguments, MoreArguments, Tail}
use Rattle.id_grammar.specs.Grammar.{Rest}
use Rattle.id_grammar.specs.Grammar.{named_of, assigned_of, done, typed, part, sign, enclosed, with_statement}
use Rattle.id_grammar.specs.Grammar.{Grouped, Opens, word, operand, operator_of, statement_of, for_of, for_with_tail}
use Rattle.id_grammar.specs.Machine.{Frame, Left, Target, Inside, again, Begin, Want, Have, Next, Outcome, Refused}
use Rattle.id_grammar.specs.Machine.{name_in, run}

-- what the first token is
abbrev pub first_kind : List Token → TokenKind
first_kind [] = End
first_kind (t ∷ ts) = t.kind

-- what the token behind the first one is
abbrev pub second_kind : List Token → TokenKind
second_kind [] = End
second_kind (t ∷ ts) = first_kind ts

-- where the first token starts
abbrev pub first_start : List Token → ℕ
first_start [] = 0
first_start (t ∷ ts) = t.start

-- the truth value that a kind is
abbrev pub truth_in : TokenKind → Option Bool
truth_in (Key True) = Some true
truth_in (Key False) = Some false
truth_in _ = None

-- the one list is shorter than the other
pub record IsBehind (rest tokens : List Token) : Type 0 where
  pub shorter : length rest < length tokens

-- a part of this height fits into that many expressions, and these tokens are left
pub record IsRead (tokens rest : List Token) (depth height : ℕ) : Type 0 where
  pub behind : IsBehind rest tokens
  pub some : 0 < height
  pub fits : depth + height ≤ 200

-- the run ends as the error says
abbrev pub EndsBy : Outcome → TreeError → Type 0
EndsBy o (Unexpected at) = o ≡ Refused false at
EndsBy o (TooDeep at) = o ≡ Refused true at
EndsBy o Memory = Unit {0}

-- from where the phrase is wanted the run comes to where it is there, whatever stands round it
pub record Leads (ts : List Token) (s : Phrase) (d : ℕ) (us : List Token) (e : Tree) (h : ℕ) : Type 0 where
  pub comes : (K : List Frame) → run 200 ts (Want s d K) ≡ run 200 us (Have e h K)

-- the operator before an operand of the level is one, and it begins with this token
abbrev pub IsPrefix : Level → UnaryOp → TokenKind → Type 0
IsPrefix l o k = (p : ℕ) → Opens (operand l) k p (part (operand l) (λ e. done (unary o e p)))

-- from where the phrase is wanted the run ends so
pub record Fails (ts : List Token) (s : Phrase) (d : ℕ) (x : TreeError) : Type 0 where
  pub fails : (K : List Frame) → EndsBy (run 200 ts (Want s d K)) x

-- how tight a level is
abbrev pub rank : Level → ℕ
rank level.Or = 0
rank level.And = 1
rank level.Comparison = 2
rank level.Sum = 3
rank level.Product = 4

-- the level is not tighter than the inner one and not looser than the outer one
abbrev pub is_within : Level → Level → Level → Bool
is_within inner outer l = cond (nat_le (rank l) (rank inner)) (nat_le (rank outer) (rank l)) false

-- what stands round an operand at one level, where those from the inner one to the outer one are open
abbrev pub rung : Level → Level → Level → ℕ → List Frame → List Frame
rung i o l d K = cond (is_within i o l) (Left l d ∷ K) K

-- the same, at the levels that are looser than this one
abbrev pub beyond : Level → Level → Level → ℕ → List Frame → List Frame
beyond level.Or o w d K = K
beyond level.And o w d K = rung o w level.Or d K
beyond level.Comparison o w d K = rung o w level.And d (rung o w level.Or d K)
beyond level.Sum o w d K = rung o w level.Comparison d (rung o w level.And d (rung o w level.Or d K))
beyond level.Product o w d K =
    rung o w level.Sum d (rung o w level.Comparison d (rung o w level.And d (rung o w level.Or d K)))

-- the same, at all levels
abbrev pub ladder : Level → Level → ℕ → List Frame → List Frame
ladder o w d K = rung o w level.Product d (beyond level.Product o w d K)

-- `not` may stand where an operand of the level is to come
abbrev pub may_deny : Level → Type 0
may_deny level.Or = Unit {0}
may_deny level.And = Unit {0}
may_deny _ = ⊥

-- the innermost level that is open behind an operator of this one: of comparisons there is one
abbrev pub open_behind : Level → Level
open_behind level.Comparison = level.And
open_behind l = l

-- the innermost level that is open behind the first operand, by whether that is denied
abbrev pub open_first : Bool → Level
open_first true = level.And
open_first false = level.Product

-- the kind is a bracket, behind which the arguments of a call or the index of a fetch stand
abbrev pub IsBracket : TokenKind → Type 0
IsBracket k = (k ≡ Sign LeftParen) ⊎ (k ≡ Sign LeftBracket)

-- the operator with its level, if there is one, or else what else there is
abbrev pub at_level : Level → Option BinaryOp → Option (Level × BinaryOp) → Option (Level × BinaryOp)
at_level l None rest = rest
at_level l (Some p) rest = Some (l, p)

-- the operator that a kind is, and its level: that of the first level where it is one
abbrev pub operator_in : TokenKind → Option (Level × BinaryOp)
operator_in k =
    at_level level.Or (operator_of level.Or k) (at_level level.And (operator_of level.And k)
    (at_level level.Comparison (operator_of level.Comparison k) (at_level level.Sum (operator_of level.Sum k)
    (at_level level.Product (operator_of level.Product k) None))))

-- the operator and its level, where the level is between the inner one and the outer one
abbrev pub kept_within : Level → Level → Option (Level × BinaryOp) → Option (Level × BinaryOp)
kept_within inner outer None = None
kept_within inner outer (Some x) = cond (is_within inner outer x.0) (Some x) None

-- the operator that a kind is there, and its level
abbrev pub operator_within : Level → Level → TokenKind → Option (Level × BinaryOp)
operator_within inner outer k = kept_within inner outer (operator_in k)

-- from where a level is wanted the run comes to where an operand is there, and the levels from an inner one on are open
pub record Rises (ts : List Token) (l : Level) (d : ℕ) (o : Level) (us : List Token) (e : Tree) (h : ℕ)
    : Type 0 where
  pub comes : (K : List Frame) → run 200 ts (Want (Grouped l) d K) ≡ run 200 us (Have e h (ladder o l d K))

-- the run takes an operator and its right operand into the left one
pub record Grows (ts : List Token) (l : Level) (d : ℕ) (a : Tree) (m : ℕ)
    (us : List Token) (e : Tree) (h : ℕ) : Type 0 where
  pub comes : (K : List Frame) → run 200 ts (Have a m (Left l d ∷ K)) ≡ run 200 us (Have e h (again l d K))

-- the run ends so behind the left operand
pub record Stunts (ts : List Token) (l : Level) (d : ℕ) (a : Tree) (m : ℕ) (x : TreeError) : Type 0 where
  pub fails : (K : List Frame) → EndsBy (run 200 ts (Have a m (Left l d ∷ K))) x

-- the run takes a `[`, an index and a `]` behind what is there, and the fetch is there
pub record Indexes (ts : List Token) (d : ℕ) (a : Tree) (m : ℕ) (us : List Token) (e : Tree) (h : ℕ)
    : Type 0 where
  pub comes : (K : List Frame) → run 200 ts (Have a m (Target d ∷ K)) ≡ run 200 us (Have e h (Target d ∷ K))

-- the run ends so in a fetch of what is there
pub record Misindexes (ts : List Token) (d : ℕ) (a : Tree) (m : ℕ) (x : TreeError) : Type 0 where
  pub fails : (K : List Frame) → EndsBy (run 200 ts (Have a m (Target d ∷ K))) x

-- the run takes the words of a production
pub record Takes (f : Rest → Rest) (ts us : List Token) : Type 0 where
  pub comes : (r : Rest) (h d c : ℕ) (K : List Frame)
      → run 200 ts (Next (f r) h d c K) ≡ run 200 us (Next r h d c K)

-- the run ends so at the words of a production
pub record Misses (f : Rest → Rest) (ts : List Token) (x : TreeError) : Type 0 where
  pub fails : (r : Rest) (h d c : ℕ) (K : List Frame) → EndsBy (run 200 ts (Next (f r) h d c K)) x

-- the list begins with this name at this place
pub record BeginsWithName (ts : List Token) (x : List ℕ) (p : ℕ) (us : List Token) : Type 0 where
  pub token : Token
  pub whole : ts ≡ token ∷ us
  pub kind : token.kind ≡ Name x
  pub place : token.start ≡ p

-- the error of a list that begins with a token that is no name
pub record NoName (ts : List Token) (x : TreeError) : Type 0 where
  pub token : Token
  pub behind : List Token
  pub whole : ts ≡ token ∷ behind
  pub kind : name_in token.kind ≡ None
  pub error : x ≡ Unexpected token.start

-- the same, or want of memory
abbrev pub LacksName : List Token → TreeError → Type 0
LacksName ts x = (x ≡ Memory) ⊎ NoName ts x

-- the run takes a colon and a kind behind it
pub record Types (ts us : List Token) (k : Kind) : Type 0 where
  pub comes : (f : Kind → Rest) (h d c : ℕ) (K : List Frame) →
      run 200 ts (Next (sign Colon (typed f)) h d c K) ≡ run 200 us (Next (f k) h d c K)

-- the run ends so at a colon or the kind behind it
pub record Untypes (ts : List Token) (x : TreeError) : Type 0 where
  pub fails : (f : Kind → Rest) (h d c : ℕ) (K : List Frame) →
      EndsBy (run 200 ts (Next (sign Colon (typed f)) h d c K)) x

-- the list begins with a parameter: its name, a colon and its kind
pub record Declares (ts us : List Token) (p : Param) : Type 0 where
  pub behind : List Token
  pub begins : BeginsWithName ts p.name p.place behind
  pub types : Types behind us p.kind

-- the error of a list that begins with a name, and then with no colon and kind
pub record LacksKind (ts : List Token) (x : TreeError) : Type 0 where
  pub name : List ℕ
  pub place : ℕ
  pub behind : List Token
  pub begins : BeginsWithName ts name place behind
  pub untypes : Untypes behind x

-- the error of a list that begins with no parameter
abbrev pub Undeclares : List Token → TreeError → Type 0
Undeclares ts x = LacksName ts x ⊎ LacksKind ts x

-- the parameters' trees, in order, put before a list of trees
abbrev pub listed : List Param → Tree → Tree
listed [] a = a
listed (p ∷ ps) a = more (param p.name p.kind p.place) (listed ps a)

-- the run takes parameters, and puts them before those that come behind
pub record Lists (ts us : List Token) (ps : List Param) (K : List Frame) : Type 0 where
  pub stack : List Frame
  pub comes : run 200 ts (Want Parameters 0 K) ≡ run 200 us (Want MoreParameters 0 stack)
  pub folds : (vs : List Token) (a : Tree) → run 200 vs (Have a 0 stack) ≡ run 200 vs (Have (listed ps a) 0 K)

-- the same, whatever stands round the parameters
pub record Counts (ts us : List Token) (ps : List Param) : Type 0 where
  pub lists : (K : List Frame) → Lists ts us ps K

-- between the name and the body of a definition: "(", its parameters, ":", its kind, "="
abbrev pub heading : (Tree → Kind → Rest) → Rest
heading f = sign LeftParen (part Parameters (λ a. sign Colon (typed (λ k. sign Becomes (f a k)))))

-- the run takes a heading
pub record Heads (ts us : List Token) (a : Tree) (k : Kind) : Type 0 where
  pub comes : (f : Tree → Kind → Rest) (K : List Frame) →
      run 200 ts (Next (heading f) 0 0 0 K) ≡ run 200 us (Next (f a k) 0 0 0 K)

-- the run ends so in a heading
pub record Beheads (ts : List Token) (x : TreeError) : Type 0 where
  pub fails : (f : Tree → Kind → Rest) (K : List Frame) → EndsBy (run 200 ts (Next (heading f) 0 0 0 K)) x

-- the run takes an expression of a production and the word behind it
pub record Encloses (ts : List Token) (d : ℕ) (w : Word) (us : List Token) (e : Tree) (h : ℕ) : Type 0 where
  pub comes : (f : Tree → Rest) (m c : ℕ) (K : List Frame) →
      run 200 ts (Next (enclosed w f) m d c K) ≡ run 200 us (Next (f e) (max m h) d c K)

-- the run ends so at an expression of a production or the word behind it
pub record Exposes (ts : List Token) (d : ℕ) (w : Word) (x : TreeError) : Type 0 where
  pub fails : (f : Tree → Rest) (m c : ℕ) (K : List Frame) → EndsBy (run 200 ts (Next (enclosed w f) m d c K)) x

-- the run takes a word, an expression of a production and the word behind it
pub record Surrounds (ts : List Token) (d : ℕ) (v w : Word) (us : List Token) (e : Tree) (h : ℕ) : Type 0 where
  pub comes : (f : Tree → Rest) (m c : ℕ) (K : List Frame) →
      run 200 ts (Next (word v (enclosed w f)) m d c K) ≡ run 200 us (Next (f e) (max m h) d c K)

-- the run ends so at a word, an expression of a production or the word behind it
pub record Bares (ts : List Token) (d : ℕ) (v w : Word) (x : TreeError) : Type 0 where
  pub fails : (f : Tree → Rest) (m c : ℕ) (K : List Frame) →
      EndsBy (run 200 ts (Next (word v (enclosed w f)) m d c K)) x

-- the statements' trees, in order, put before a list of trees
abbrev pub onto : List Stmt → Tree → Tree
onto [] a = a
onto (s ∷ ss) a = more (stmt_tree s) (onto ss a)

-- the word behind the statements of a block or a loop
abbrev pub last_word : Scope → Keyword
last_word scope.Block = In
last_word scope.Loop = Finally

-- the run takes a statement of a tail
pub record Adds (ts : List Token) (o : Scope) (d : ℕ) (us : List Token) (s : Tree) (h : ℕ) : Type 0 where
  pub comes : (K : List Frame) →
      run 200 ts (Want (Tail o) d K)
      ≡ run 200 us (Want (Tail o) d (Inside (λ a. done (with_statement s a)) h d 0 ∷ K))

-- from behind the name with which a statement begins the run takes the statement
pub record Assigns (ts : List Token) (o : Scope) (d : ℕ) (x : List ℕ) (p : ℕ) (us : List Token) (s : Tree)
    (h : ℕ) : Type 0 where
  pub comes : (K : List Frame) →
      run 200 ts (Next (assigned_of o x p) 0 (d + 0) 0 K)
      ≡ run 200 us (Want (Tail o) d (Inside (λ a. done (with_statement s a)) h d 0 ∷ K))

-- from behind that name the run ends so
pub record Misassigns (ts : List Token) (o : Scope) (d : ℕ) (x : List ℕ) (p : ℕ) (y : TreeError) : Type 0 where
  pub fails : (K : List Frame) → EndsBy (run 200 ts (Next (assigned_of o x p) 0 (d + 0) 0 K)) y

-- from behind the `]` of a store's index, where its target and that index stand, of this height, the run takes the rest
-- of the statement
pub record Stores (ts : List Token) (o : Scope) (d : ℕ) (a i : Tree) (p m : ℕ) (us : List Token) (s : Tree)
    (h : ℕ) : Type 0 where
  pub comes : (K : List Frame) →
      run 200 ts (Next (statement_of o (λ e. store a i e p)) m (d + 0) 0 K)
      ≡ run 200 us (Want (Tail o) d (Inside (λ a. done (with_statement s a)) h d 0 ∷ K))

-- from behind that `]` the run ends so
pub record Misstores (ts : List Token) (o : Scope) (d : ℕ) (a i : Tree) (p m : ℕ) (y : TreeError) : Type 0 where
  pub fails : (K : List Frame) → EndsBy (run 200 ts (Next (statement_of o (λ e. store a i e p)) m (d + 0) 0 K)) y

-- the run takes statements of a tail, and puts them before those that come behind
pub record Stacks (ts : List Token) (o : Scope) (d : ℕ) (us : List Token) (ss : List Stmt) (h : ℕ) (K : List Frame)
    : Type 0 where
  pub stack : List Frame
  pub comes : run 200 ts (Want (Tail o) d K) ≡ run 200 us (Want (Tail o) d stack)
  pub folds : (vs : List Token) (a e : Tree) (m : ℕ) →
      run 200 vs (Have (more a e) m stack) ≡ run 200 vs (Have (more (onto ss a) e) (max h m) K)

-- the same, whatever stands round the block or the loop
pub record Gathers (ts : List Token) (o : Scope) (d : ℕ) (us : List Token) (ss : List Stmt) (h : ℕ) : Type 0 where
  pub stacks : (K : List Frame) → Stacks ts o d us ss h K

-- behind the index and the bounds of a `for`: its tail
abbrev pub ranged : ℕ → List ℕ → ℕ → Tree → Tree → Rest
ranged p x q low high = part (Tail scope.Loop) (λ a. done (for_with_tail x q low high a p))

-- from behind the word `for` the run takes the index and its bounds
pub record Ranges (ts : List Token) (d : ℕ) (us : List Token) (x : List ℕ) (q : ℕ) (low high : Tree) (h : ℕ)
    : Type 0 where
  pub comes : (p m c : ℕ) (K : List Frame) →
      run 200 ts (Next (for_of p) m d c K) ≡ run 200 us (Next (ranged p x q low high) (max m h) d c K)

-- from behind that word the run ends so, at the index or its bounds
pub record Misranges (ts : List Token) (d : ℕ) (y : TreeError) : Type 0 where
  pub fails : (p m c : ℕ) (K : List Frame) → EndsBy (run 200 ts (Next (for_of p) m d c K)) y

-- statements with values of at most this height fit into that many expressions, and these tokens are left
pub record IsGathered (tokens rest : List Token) (depth height : ℕ) : Type 0 where
  pub shorter : length rest ≤ length tokens
  pub fits : depth + height ≤ 200

-- the token begins an expression
abbrev pub begins_expression : TokenKind → Bool
begins_expression (Key If) = true
begins_expression (Key Not) = true
begins_expression (Key True) = true
begins_expression (Key False) = true
begins_expression (Key Array) = true
begins_expression (Number v) = true
begins_expression (Name x) = true
begins_expression (Sign Minus) = true
begins_expression (Sign LeftParen) = true
begins_expression (Sign LeftBrace) = true
begins_expression _ = false

-- the refusal of a token where an expression is to come and there is no room for one
abbrev pub no_room_at : Bool → ℕ → TreeError
no_room_at true at = TooDeep at
no_room_at false at = Unexpected at

-- from behind a name the run comes to where the name, or the call, is there
pub record Applies (ts : List Token) (d : ℕ) (x : List ℕ) (p : ℕ) (us : List Token) (e : Tree) (h : ℕ)
    : Type 0 where
  pub comes : (K : List Frame) → run 200 ts (Next (named_of x p) 0 (d + 1) 1 K) ≡ run 200 us (Have e h K)

-- from behind a name the run ends so
pub record Misapplies (ts : List Token) (d : ℕ) (x : List ℕ) (p : ℕ) (y : TreeError) : Type 0 where
  pub fails : (K : List Frame) → EndsBy (run 200 ts (Next (named_of x p) 0 (d + 1) 1 K)) y

-- the arguments' trees, in order, put before a list of trees
abbrev pub passed : List Expr → Tree → Tree
passed [] a = a
passed (e ∷ es) a = more (tree_of e) (passed es a)

-- the run takes arguments, and puts them before those that come behind
pub record Passes (ts : List Token) (d : ℕ) (us : List Token) (es : List Expr) (h : ℕ) (K : List Frame)
    : Type 0 where
  pub stack : List Frame
  pub comes : run 200 ts (Want Arguments d K) ≡ run 200 us (Want MoreArguments d stack)
  pub folds : (vs : List Token) (a : Tree) (m : ℕ) →
      run 200 vs (Have a m stack) ≡ run 200 vs (Have (passed es a) (max h m) K)

-- the same, whatever stands round the arguments
pub record Hands (ts : List Token) (d : ℕ) (us : List Token) (es : List Expr) (h : ℕ) : Type 0 where
  pub passes : (K : List Frame) → Passes ts d us es h K

-- the run takes a definition, of some height
abbrev pub Defines : List Token → List Token → Tree → Type 0
Defines ts us e = (h : ℕ) × Leads ts Definition 0 us e h

-- the definitions' trees, as a list
abbrev pub def_trees : List Def → List Tree
def_trees [] = []
def_trees (d ∷ ds) = def_tree d ∷ def_trees ds

-- the run takes definitions
pub record Amasses (ts us : List Token) (ds : List Def) : Type 0 where
  pub comes : run 200 ts (Begin []) ≡ run 200 us (Begin (def_trees ds))
