-- Which tokens make which tree (docs/LANGUAGE.md, "Grammar").
use Rattle.std.specs.Prelude.{◌≡◌, ◌+◌, ℕ, ℤ, Bool as Truth, true, false, Option, Some, None, List, []}
use Rattle.std.specs.Prelude.{◌∷◌, ◌++◌, max}
use Rattle.id_text.specs.declared.token.Token.{Token}
use Rattle.id_text.specs.declared.token.TokenKind.{TokenKind}
use Rattle.id_text.specs.declared.token.TokenKind.TheVariants.{Name, Number, Key, Sign, End}
use Rattle.id_text.specs.declared.token.Keyword.TheVariants.{Def, If, Then, Else, While, Do, Next, Finally, In, True}
use Rattle.id_text.specs.declared.token.Keyword.TheVariants.{False, Int, Bool, Array, Div, Rem, And, Or, Not, For, To}
use Rattle.id_text.specs.declared.token.Symbol.{Symbol}
use Rattle.id_text.specs.declared.token.Symbol.TheVariants.{LeftParen, RightParen, LeftBrace, RightBrace}
use Rattle.id_text.specs.declared.token.Symbol.TheVariants.{LeftBracket, RightBracket, Comma}
use Rattle.id_text.specs.declared.token.Symbol.TheVariants.{Semicolon, Colon, Becomes, Equal, NotEqual, Less, LessEqual}
use Rattle.id_text.specs.declared.token.Symbol.TheVariants.{Greater, GreaterEqual, Plus, Minus, Star, Arrow}
use Rattle.id_value.specs.declared.Kind.{Kind}
use Rattle.id_value.specs.declared.Kind.TheVariants as kind
use Rattle.id_value.specs.declared.Constant.TheVariants as constant
use Rattle.id_value.specs.declared.UnaryOp.TheVariants as unary_op
use Rattle.id_value.specs.declared.BinaryOp.{BinaryOp}
use Rattle.id_value.specs.declared.BinaryOp.TheVariants as op
use Rattle.id_value.specs.declared.Arithmetic.TheVariants as arithmetic
use Rattle.id_value.specs.declared.Comparison.TheVariants as comparison
use Rattle.id_value.specs.declared.Logic.TheVariants as logic
use Rattle.id_grammar.specs.declared.phrase.Level.{Level}
use Rattle.id_grammar.specs.declared.phrase.Level.TheVariants as level
use Rattle.id_grammar.specs.declared.phrase.Scope.{Scope}
use Rattle.id_grammar.specs.declared.phrase.Scope.TheVariants as scope
use Rattle.id_grammar.specs.declared.tokens.Word.{Word}
use Rattle.id_grammar.specs.declared.tokens.Word.TheVariants as the
use Rattle.id_grammar.specs.Tree as tree
use Rattle.id_grammar.specs.Tree.{Tree, literal, unary, conditional, call, block, loop, array, fetch, binding, next}
use Rattle.id_grammar.specs.Tree.{store, for_loop}
use Rattle.id_grammar.specs.Tree.{param, define, binary, none, more}

-- What a rule is for: a definition; its parameters behind the bracket, and more of them behind one; an expression of
-- any form; a level of operators; what stands behind `not` or without it; an operand of the tightest level; the same
-- without `-` before it, which may be a fetch; the same, but no fetch; the arguments of a call behind its bracket, and
-- more of them behind one; or the tail of a block or a loop, from where its statements may come on, and behind each of
-- them.
pub data Phrase : Type 0 where
  Definition : Phrase
  Parameters : Phrase
  MoreParameters : Phrase
  Expression : Phrase
  Grouped : Level → Phrase
  Negation : Phrase
  Unary : Phrase
  Postfix : Phrase
  Atom : Phrase
  Arguments : Phrase
  MoreArguments : Phrase
  Tail : Scope → Phrase

-- the kind of the word's token
abbrev pub kind_of : Word → TokenKind
kind_of (the.Key k) = Key k
kind_of (the.Sign s) = Sign s

-- What is left of a production, and the tree that it makes: nothing, and the tree; a reserved word or a sign, and
-- then more; the same, and then more for its place, or else something without it; a name, and then more for its
-- spelling and its place; a kind's word, and then more for the kind; a part, and then more for its tree; the same, and
-- then more for its tree and its height; a word by which what stands before it, of this height, becomes a part of an
-- expression, and then more for its place, or else something without it.
pub data Rest : Type 0 where
  done : Tree → Rest
  word : Word → Rest → Rest
  either : Word → (ℕ → Rest) → Rest → Rest
  name : (List ℕ → ℕ → Rest) → Rest
  of_kind : (Kind → Rest) → Rest
  part : Phrase → (Tree → Rest) → Rest
  sized : Phrase → (Tree → ℕ → Rest) → Rest
  raised : ℕ → Word → (ℕ → Rest) → Rest → Rest

-- a sign, and then more
abbrev pub sign : Symbol → Rest → Rest
sign s r = word (the.Sign s) r

-- an expression and a word or a sign behind it, and then more for its tree
abbrev pub enclosed : Word → (Tree → Rest) → Rest
enclosed w f = part Expression (λ e. word w (f e))

-- the kind that a word names
abbrev pub kind_named : TokenKind → Option Kind
kind_named (Key Int) = Some kind.Int
kind_named (Key Bool) = Some kind.Bool
kind_named (Key Array) = Some kind.Array
kind_named _ = None

-- behind the first word of a kind: of `array`, the same word for arrays of arrays, or nothing
abbrev pub deepened : (Kind → Rest) → Kind → Rest
deepened f kind.Int = f kind.Int
deepened f kind.Bool = f kind.Bool
deepened f kind.Array = either (the.Key Array) (λ _. f kind.Nested) (f kind.Array)
deepened f kind.Nested = f kind.Nested

-- a kind, and then more for it
abbrev pub typed : (Kind → Rest) → Rest
typed f = of_kind (deepened f)

-- behind the "=" of a definition: its body, ";"
abbrev pub body_of : List ℕ → Tree → Kind → ℕ → Rest
body_of x a k q = enclosed (the.Sign Semicolon) (λ e. done (define x a k e q))

-- behind the name of a definition: "(", its parameters, ":", its kind, "=" and what stands behind it
abbrev pub definition_of : List ℕ → ℕ → Rest
definition_of x q = sign LeftParen (part Parameters (λ a. sign Colon (typed (λ k. sign Becomes (body_of x a k q)))))

-- behind the name of a parameter: ":", its kind, and the parameters behind it
abbrev pub parameter_of : List ℕ → ℕ → Rest
parameter_of x q = sign Colon (typed (λ k. part MoreParameters (λ a. done (more (param x k q) a))))

-- behind the word `if`: the predicate, "then", the arm for true, "else", the arm for false
abbrev pub conditional_of : ℕ → Rest
conditional_of p =
    enclosed (the.Key Then) (λ t. enclosed (the.Key Else) (λ x. part Expression (λ y. done (conditional t x y p))))

-- behind a name: "(" and the arguments of a call, or nothing
abbrev pub named_of : List ℕ → ℕ → Rest
named_of x p = either (the.Sign LeftParen) (λ _. part Arguments (λ a. done (call x a p))) (done (tree.name x p))

-- the bounds of an array, which is nested or not: "(", the lower one, ",", the upper one, ")"
abbrev pub bounds_of : Truth → ℕ → Rest
bounds_of nested p = sign LeftParen
    (enclosed (the.Sign Comma) (λ a. enclosed (the.Sign RightParen) (λ b. done (array nested a b p))))

-- behind the word `array`: the same word for an array of arrays, or nothing, and the bounds
abbrev pub array_of : ℕ → Rest
array_of p = either (the.Key Array) (λ _. bounds_of true p) (bounds_of false p)

-- behind the `[` of a fetch, whose target stands before it: the index, "]"
abbrev pub fetch_of : Tree → ℕ → Rest
fetch_of t p = enclosed (the.Sign RightBracket) (λ i. done (fetch t i p))

-- behind an argument: those behind it
abbrev pub argument_of : Tree → Rest
argument_of e = part MoreArguments (λ a. done (more e a))

-- an argument, and those behind it
abbrev pub arguments_of : Rest
arguments_of = part Expression argument_of

-- a statement before the others of a tail, whose tree has its statements and its body
abbrev pub with_statement : Tree → Tree → Tree
with_statement s (more a e) = more (more s a) e
with_statement s _ = none

-- behind what a statement gives a value to: "=", its value, ";", the tail behind it
abbrev pub statement_of : Scope → (Tree → Tree) → Rest
statement_of s f =
    sign Becomes (enclosed (the.Sign Semicolon) (λ e. part (Tail s) (λ a. done (with_statement (f e) a))))

-- behind the last `[` of a store, whose target stands before it: the index, "]", and the rest of the statement
abbrev pub last_store_of : Scope → Tree → ℕ → Rest
last_store_of s t p = enclosed (the.Sign RightBracket) (λ i. statement_of s (λ e. store t i e p))

-- behind the `]` of a store, with the index before it, of this height: the `[` of another index, whose target is the
-- fetch before it, or the rest of the statement
abbrev pub stored_of : Scope → Tree → Tree → ℕ → ℕ → Rest
stored_of s t i m p =
    raised m (the.Sign LeftBracket) (λ q. last_store_of s (fetch t i p) q) (statement_of s (λ e. store t i e p))

-- behind the first `[` of a store, whose target stands before it: the index, "]", and what stands behind that
abbrev pub store_of : Scope → Tree → ℕ → Rest
store_of s t p = sized Expression (λ i m. sign RightBracket (stored_of s t i m p))

-- behind the name with which a statement begins: it is the target of a store, or of a binding
abbrev pub assigned_of : Scope → List ℕ → ℕ → Rest
assigned_of s x p =
    either (the.Sign LeftBracket) (λ q. store_of s (tree.name x p) q) (statement_of s (λ e. binding x e p))

-- behind the last word of the statements: the expression that gives the value, "}"
abbrev pub last_of : Rest
last_of = enclosed (the.Sign RightBrace) (λ e. done (more none e))

-- the block with this tail
abbrev pub with_tail : Tree → ℕ → Tree
with_tail (more a e) p = block a e p
with_tail _ p = none

-- the loop with this predicate and this tail
abbrev pub loop_with_tail : Tree → Tree → ℕ → Tree
loop_with_tail t (more a e) p = loop t a e p
loop_with_tail t _ p = none

-- the `for` with this index, these bounds and this tail
abbrev pub for_with_tail : List ℕ → ℕ → Tree → Tree → Tree → ℕ → Tree
for_with_tail x q low high (more a e) p = for_loop x q low high a e p
for_with_tail x q low high _ p = none

-- behind the brace of a block: its tail
abbrev pub block_of : ℕ → Rest
block_of p = part (Tail scope.Block) (λ a. done (with_tail a p))

-- behind the word `while`: the predicate, "do", the tail
abbrev pub loop_of : ℕ → Rest
loop_of p = enclosed (the.Key Do) (λ t. part (Tail scope.Loop) (λ a. done (loop_with_tail t a p)))

-- behind the index of a `for`: "<-", the lower bound, "to", the upper bound, "do", the tail
abbrev pub indexed_of : ℕ → List ℕ → ℕ → Rest
indexed_of p x q =
    sign Arrow (enclosed (the.Key To) (λ low. enclosed (the.Key Do) (λ high.
    part (Tail scope.Loop) (λ a. done (for_with_tail x q low high a p)))))

-- behind the word `for`: the index, and what stands behind it
abbrev pub for_of : ℕ → Rest
for_of p = name (indexed_of p)

-- behind a brace: a `while`, a `for`, or else a block
abbrev pub braces_of : ℕ → Rest
braces_of p = either (the.Key While) (λ _. loop_of p) (either (the.Key For) (λ _. for_of p) (block_of p))

-- The productions that begin with a token of their own: a phrase, the token's kind and place, and what is left behind
-- it.
pub data Opens : Phrase → TokenKind → ℕ → Rest → Type 0 where
  definition : {p : ℕ} → Opens Definition (Key Def) p (name definition_of)
  no_parameters : {p : ℕ} → Opens Parameters (Sign RightParen) p (done none)
  first_parameter : {x : List ℕ} {p : ℕ} → Opens Parameters (Name x) p (parameter_of x p)
  last_parameter : {p : ℕ} → Opens MoreParameters (Sign RightParen) p (done none)
  next_parameter : {p : ℕ} → Opens MoreParameters (Sign Comma) p (name parameter_of)
  by_conditional : {p : ℕ} → Opens Expression (Key If) p (conditional_of p)
  denied : {p : ℕ} → Opens Negation (Key Not) p (part Negation (λ e. done (unary unary_op.Not e p)))
  negated : {p : ℕ} → Opens Unary (Sign Minus) p (part Unary (λ e. done (unary unary_op.Neg e p)))
  number : {v : ℤ} {p : ℕ} → Opens Atom (Number v) p (done (literal (constant.Int v) p))
  by_true : {p : ℕ} → Opens Atom (Key True) p (done (literal (constant.Bool true) p))
  by_false : {p : ℕ} → Opens Atom (Key False) p (done (literal (constant.Bool false) p))
  parens : {p : ℕ} → Opens Atom (Sign LeftParen) p (enclosed (the.Sign RightParen) (λ e. done e))
  by_name : {x : List ℕ} {p : ℕ} → Opens Atom (Name x) p (named_of x p)
  by_array : {p : ℕ} → Opens Atom (Key Array) p (array_of p)
  by_braces : {p : ℕ} → Opens Atom (Sign LeftBrace) p (braces_of p)
  no_arguments : {p : ℕ} → Opens Arguments (Sign RightParen) p (done none)
  last_argument : {p : ℕ} → Opens MoreArguments (Sign RightParen) p (done none)
  next_argument : {p : ℕ} → Opens MoreArguments (Sign Comma) p arguments_of
  by_statement : {s : Scope} {x : List ℕ} {p : ℕ} → Opens (Tail s) (Name x) p (assigned_of s x p)
  by_next : {p : ℕ} →
      Opens (Tail scope.Loop) (Key Next) p (name (λ x q. statement_of scope.Loop (λ e. next x e p)))
  by_body : {p : ℕ} → Opens (Tail scope.Block) (Key In) p last_of
  by_last : {p : ℕ} → Opens (Tail scope.Loop) (Key Finally) p last_of

-- the operands of a level
abbrev pub operand : Level → Phrase
operand level.Or = Grouped level.And
operand level.And = Negation
operand level.Comparison = Grouped level.Sum
operand level.Sum = Grouped level.Product
operand level.Product = Unary

-- what may stand before an operator of a level: more of the level, but in a comparison one operand
abbrev pub left_operand : Level → Phrase
left_operand level.Or = Grouped level.Or
left_operand level.And = Grouped level.And
left_operand level.Comparison = Grouped level.Sum
left_operand level.Sum = Grouped level.Sum
left_operand level.Product = Grouped level.Product

-- the operator of a level that a token is
abbrev pub operator_of : Level → TokenKind → Option BinaryOp
operator_of level.Or (Key Or) = Some (op.Logic logic.Or)
operator_of level.And (Key And) = Some (op.Logic logic.And)
operator_of level.Comparison (Sign Equal) = Some (op.Comparison comparison.Eq)
operator_of level.Comparison (Sign NotEqual) = Some (op.Comparison comparison.Ne)
operator_of level.Comparison (Sign Less) = Some (op.Comparison comparison.Lt)
operator_of level.Comparison (Sign LessEqual) = Some (op.Comparison comparison.Le)
operator_of level.Comparison (Sign Greater) = Some (op.Comparison comparison.Gt)
operator_of level.Comparison (Sign GreaterEqual) = Some (op.Comparison comparison.Ge)
operator_of level.Sum (Sign Plus) = Some (op.Arithmetic arithmetic.Add)
operator_of level.Sum (Sign Minus) = Some (op.Arithmetic arithmetic.Sub)
operator_of level.Product (Sign Star) = Some (op.Arithmetic arithmetic.Mul)
operator_of level.Product (Key Div) = Some (op.Arithmetic arithmetic.Div)
operator_of level.Product (Key Rem) = Some (op.Arithmetic arithmetic.Rem)
operator_of _ _ = None

-- what a phrase adds to the height of its parts: an expression one, the others nothing
abbrev pub own_height : Phrase → ℕ
own_height Definition = 0
own_height Parameters = 0
own_height MoreParameters = 0
own_height Expression = 1
own_height (Grouped l) = 1
own_height Negation = 1
own_height Unary = 1
own_height Postfix = 1
own_height Atom = 1
own_height Arguments = 0
own_height MoreArguments = 0
own_height (Tail s) = 0

mutual
  -- the tokens are a phrase, with this tree of this height: a production, an expression without `if`, one operand of a
  -- level or more of them from the left, a comparison without `not` before it, an operand without `-` before it, which
  -- is a fetch of what stands before its `[`, or none, or arguments from the first one on
  pub data Derives : Phrase → List Token → Tree → ℕ → Type 0 where
    opened : {s : Phrase} {t : Token} {r : Rest} {ts : List Token} {e : Tree} {h : ℕ} →
        Opens s t.kind t.start r → Follows r ts e h → Derives s (t ∷ ts) e (h + own_height s)
    unconditional : {ts : List Token} {e : Tree} {h : ℕ} → Derives (Grouped level.Or) ts e h
        → Derives Expression ts e h
    single : {l : Level} {ts : List Token} {e : Tree} {h : ℕ} → Derives (operand l) ts e h
        → Derives (Grouped l) ts e h
    grouped : {l : Level} {us vs : List Token} {o : BinaryOp} {a b : Tree} {m n : ℕ} →
        Derives (left_operand l) us a m → (t : Token) → operator_of l t.kind ≡ Some o →
        Derives (operand l) vs b n →
        Derives (Grouped l) (us ++ t ∷ vs) (binary o a b t.start) (max m n + 1)
    plain : {ts : List Token} {e : Tree} {h : ℕ} → Derives (Grouped level.Comparison) ts e h
        → Derives Negation ts e h
    bare : {ts : List Token} {e : Tree} {h : ℕ} → Derives Postfix ts e h → Derives Unary ts e h
    atomic : {ts : List Token} {e : Tree} {h : ℕ} → Derives Atom ts e h → Derives Postfix ts e h
    fetched : {us vs : List Token} {a e : Tree} {m n : ℕ} →
        Derives Postfix us a m → (t : Token) → t.kind ≡ Sign LeftBracket →
        Follows (fetch_of a t.start) vs e n →
        Derives Postfix (us ++ t ∷ vs) e (max m n + 1)
    some_arguments : {ts : List Token} {e : Tree} {h : ℕ} → Follows arguments_of ts e h → Derives Arguments ts e h

  -- the tokens are what is left of a production, with the tree that it makes, and its parts have this greatest height
  pub data Follows : Rest → List Token → Tree → ℕ → Type 0 where
    ended : {e : Tree} → Follows (done e) [] e 0
    taken : {w : Word} {t : Token} {r : Rest} {ts : List Token} {e : Tree} {h : ℕ} →
        t.kind ≡ kind_of w → Follows r ts e h → Follows (word w r) (t ∷ ts) e h
    chosen : {w : Word} {t : Token} {r : ℕ → Rest} {q : Rest} {ts : List Token} {e : Tree} {h : ℕ} →
        t.kind ≡ kind_of w → Follows (r t.start) ts e h → Follows (either w r q) (t ∷ ts) e h
    left_out : {w : Word} {r : ℕ → Rest} {q : Rest} {ts : List Token} {e : Tree} {h : ℕ} →
        Follows q ts e h → Follows (either w r q) ts e h
    named : {t : Token} {x : List ℕ} {f : List ℕ → ℕ → Rest} {ts : List Token} {e : Tree} {h : ℕ} →
        t.kind ≡ Name x → Follows (f x t.start) ts e h → Follows (name f) (t ∷ ts) e h
    kinded : {t : Token} {k : Kind} {f : Kind → Rest} {ts : List Token} {e : Tree} {h : ℕ} →
        kind_named t.kind ≡ Some k → Follows (f k) ts e h → Follows (of_kind f) (t ∷ ts) e h
    given : {s : Phrase} {f : Tree → Rest} {us ts : List Token} {a e : Tree} {m n : ℕ} →
        Derives s us a m → Follows (f a) ts e n → Follows (part s f) (us ++ ts) e (max m n)
    measured : {s : Phrase} {f : Tree → ℕ → Rest} {us ts : List Token} {a e : Tree} {m n : ℕ} →
        Derives s us a m → Follows (f a m) ts e n → Follows (sized s f) (us ++ ts) e (max m n)
    lifted : {m : ℕ} {w : Word} {t : Token} {r : ℕ → Rest} {q : Rest} {ts : List Token} {e : Tree} {h : ℕ} →
        t.kind ≡ kind_of w → Follows (r t.start) ts e h → Follows (raised m w r q) (t ∷ ts) e (max (m + 1) h)
    unlifted : {m : ℕ} {w : Word} {r : ℕ → Rest} {q : Rest} {ts : List Token} {e : Tree} {h : ℕ} →
        Follows q ts e h → Follows (raised m w r q) ts e h

-- the tokens are a program of this height: the end, or a definition and then a program
pub data Program : List Token → Tree → ℕ → Type 0 where
  empty : {t : Token} → t.kind ≡ End → Program (t ∷ []) none 0
  defined : {us ts : List Token} {a e : Tree} {m n : ℕ} →
      Derives Definition us a m → Program ts e n → Program (us ++ ts) (more a e) (max m n)
