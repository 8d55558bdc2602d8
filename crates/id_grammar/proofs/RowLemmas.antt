-- What each production keeps, from which the machine's lemmas follow for all of them at once.
use Rattle.std.proofs.Common.{◌≡◌, ℕ, ◌+◌, ◌≤◌, max, Bool, true, false, Some, None, List, refl, sym, ap, ◌∙◌, arith, zero-le}
use denote.Enum.Bare.{same_true, true_same}
use Rattle.id_text.specs.contracts.token.Keyword as keyword
use Rattle.id_text.specs.contracts.token.Symbol as symbol
use Rattle.id_text.specs.declared.token.Token.{Token}
use Rattle.id_text.specs.declared.token.TokenKind.{TokenKind}
use Rattle.id_text.specs.declared.token.TokenKind.TheVariants.{Key, Sign}
use Rattle.id_text.specs.declared.token.Keyword.TheVariants.{While, For, And, Or, Array}
use Rattle.id_text.specs.declared.token.Symbol.TheVariants.{LeftParen, RightParen, LeftBracket, Comma, Becomes, Equal}
use Rattle.id_text.specs.declared.token.Symbol.TheVariants.{NotEqual, Less, LessEqual, Greater, GreaterEqual, Plus}
use Rattle.id_text.specs.declared.token.Symbol.TheVariants.{Minus}
use Rattle.id_grammar.specs.declared.tokens.Word.{Word}
use Rattle.id_grammar.specs.declared.tokens.Word.TheVariants as the
use Rattle.id_value.specs.declared.BinaryOp.{BinaryOp}
use Rattle.id_value.specs.declared.Kind.{Kind}
use Rattle.id_value.specs.declared.Kind.TheVariants as kind
use Rattle.id_grammar.specs.declared.phrase.Level.{Level}
use Rattle.id_grammar.specs.declared.phrase.Scope.{Scope}
use Rattle.id_grammar.specs.declared.phrase.Level.TheVariants as level
use Rattle.id_grammar.specs.declared.phrase.Scope.TheVariants as scope
use Rattle.id_grammar.specs.Tree as tree
use Rattle.id_grammar.specs.Tree.{Tree, binding, fetch, store, param, more}
use Rattle.id_grammar.specs.Grammar.{Phrase, Definition, Parameters, MoreParameters, Expression, Grouped, Negation}
use Rattle.id_grammar.specs.Grammar.{Unary, Postfix, Atom, Arguments, MoreArguments, Tail, kind_of, arguments_of}
use Rattle.id_grammar.specs.Grammar.{statement_of, last_of, Rest, done, word, either, name, of_kind, part, sized, raised, Opens}
use Rattle.id_grammar.specs.Grammar.{sign, body_of, bounds_of, deepened}
use Rattle.id_grammar.specs.Grammar.{definition, no_parameters, first_parameter, last_parameter, next_parameter}
use Rattle.id_grammar.specs.Grammar.{by_conditional, denied, negated, number, by_true, by_false, parens, by_name}
use Rattle.id_grammar.specs.Grammar.{by_array, by_braces, no_arguments, last_argument, next_argument, by_statement}
use Rattle.id_grammar.specs.Grammar.{by_next, by_body, by_last, operand, left_operand, operator_of, own_height, Derives}
use Rattle.id_grammar.specs.Grammar.{opened, unconditional, single, grouped, plain, bare, atomic, fetched}
use Rattle.id_grammar.specs.Grammar.{some_arguments, Follows, ended, taken, chosen, left_out, named, kinded, given, measured, lifted}
use Rattle.id_grammar.specs.Grammar.{unlifted}
use Rattle.id_grammar.specs.Machine.{opening, least_height, room, is_word}
use Rattle.id_grammar.specs.Standing.{Roomy}

-- whether a kind is the bracket with which the arguments of a call begin
abbrev pub is_paren : TokenKind → Bool
is_paren (Sign LeftParen) = true
is_paren _ = false

-- whether it is that one, or the one with which the index of a fetch begins
abbrev pub is_bracket : TokenKind → Bool
is_bracket (Sign LeftParen) = true
is_bracket (Sign LeftBracket) = true
is_bracket _ = false

-- a kind is no bracket of a call
abbrev pub QuietAtom : TokenKind → Type 0
QuietAtom k = is_paren k ≡ false

-- nor one of a fetch
abbrev pub QuietUnary : TokenKind → Type 0
QuietUnary k = is_bracket k ≡ false

-- nor an operator of a product
abbrev pub QuietProduct : TokenKind → Type 0
QuietProduct k = (operator_of level.Product k ≡ None) × QuietUnary k

-- nor of a sum
abbrev pub QuietSum : TokenKind → Type 0
QuietSum k = (operator_of level.Sum k ≡ None) × QuietProduct k

-- nor of a comparison
abbrev pub QuietComparison : TokenKind → Type 0
QuietComparison k = (operator_of level.Comparison k ≡ None) × QuietSum k

-- nor `and`
abbrev pub QuietAnd : TokenKind → Type 0
QuietAnd k = (operator_of level.And k ≡ None) × QuietComparison k

-- nor `or`
abbrev pub QuietOr : TokenKind → Type 0
QuietOr k = (operator_of level.Or k ≡ None) × QuietAnd k

-- a kind goes on nothing within the phrase
abbrev pub Quiet : Phrase → TokenKind → Type 0
Quiet Definition k = Unit {0}
Quiet Parameters k = Unit {0}
Quiet MoreParameters k = Unit {0}
Quiet Expression k = QuietOr k
Quiet (Grouped level.Or) k = QuietOr k
Quiet (Grouped level.And) k = QuietAnd k
Quiet (Grouped level.Comparison) k = QuietComparison k
Quiet (Grouped level.Sum) k = QuietSum k
Quiet (Grouped level.Product) k = QuietProduct k
Quiet Negation k = QuietComparison k
Quiet Unary k = QuietUnary k
Quiet Postfix k = QuietUnary k
Quiet Atom k = QuietAtom k
Quiet Arguments k = Unit {0}
Quiet MoreArguments k = Unit {0}
Quiet (Tail o) k = Unit {0}

-- what is left of a production of the phrase s0 does not go on a part of the phrase s
abbrev pub Ends : Phrase → Phrase → Rest → Type 0
Ends s0 s (done e) = (k : TokenKind) → Quiet s0 k → Quiet s k
Ends s0 s (word w r) = Quiet s (kind_of w)
Ends s0 s (either w r q) = ⊥
Ends s0 s (name f) = ⊥
Ends s0 s (of_kind f) = ⊥
Ends s0 s (part MoreArguments f) = Quiet s (Sign RightParen) × Quiet s (Sign Comma)
Ends s0 s (part s' f) = ⊥
Ends s0 s (sized s' f) = ⊥
Ends s0 s (raised m w r q) = ⊥

-- a word is none with which what is left of a production of the phrase begins, or what stands behind it where that is nothing
abbrev pub Bars : Phrase → Word → Rest → Type 0
Bars s0 w (done e) = (k : TokenKind) → Quiet s0 k → is_word w k ≡ false
Bars s0 w (word v r) = is_word w (kind_of v) ≡ false
Bars s0 w (either v r q) = (is_word w (kind_of v) ≡ false) × Bars s0 w q
Bars s0 w (part (Tail o) f) = (k : TokenKind) (p : ℕ) (r : Rest) → Opens (Tail o) k p r → is_word w k ≡ false
Bars s0 w (part MoreParameters f) =
    (k : TokenKind) (p : ℕ) (r : Rest) → Opens MoreParameters k p r → is_word w k ≡ false
Bars s0 w _ = ⊥

-- no part is gone on by what stands behind it, nor a production that could go on
abbrev pub Parts : Phrase → Rest → Type 0
Parts s0 (done e) = Unit {0}
Parts s0 (word w r) = Parts s0 r
Parts s0 (either w r q) = Bars s0 w q × ((p : ℕ) → Parts s0 (r p)) × Parts s0 q
Parts s0 (name f) = (x : List ℕ) (p : ℕ) → Parts s0 (f x p)
Parts s0 (of_kind f) = (k : Kind) → Parts s0 (f k)
Parts s0 (part s f) = (a : Tree) → Ends s0 s (f a) × Parts s0 (f a)
Parts s0 (sized s f) = (a : Tree) (m : ℕ) → Ends s0 s (f a m) × Parts s0 (f a m)
Parts s0 (raised m w r q) = Bars s0 w q × ((p : ℕ) → Parts s0 (r p)) × Parts s0 q

-- the parts have at least this height
abbrev pub Needs : ℕ → Rest → Type 0
Needs m (done e) = m ≤ 0
Needs m (word w r) = Needs m r
Needs m (either w r q) = ((p : ℕ) → Needs m (r p)) × Needs m q
Needs m (name f) = (x : List ℕ) (p : ℕ) → Needs m (f x p)
Needs m (of_kind f) = (k : Kind) → Needs m (f k)
Needs m (part s f) = (k : ℕ) × (m ≤ max (least_height s) k) × ((a : Tree) → Needs k (f a))
Needs m (sized s f) = (k : ℕ) × (m ≤ max (least_height s) k) × ((a : Tree) (h : ℕ) → Needs k (f a h))
Needs m (raised j w r q) = ((p : ℕ) → Needs m (r p)) × Needs m q

-- what each production keeps: its parts end where they must, their heights and their room are as it says, and it has the
-- least height of its phrase
pub record Valid (s : Phrase) (r : Rest) : Type 0 where
  pub parts : Parts s r
  pub high : least_height s ≤ room r + own_height s
  pub needs : Needs (room r) r
  pub roomy : (n d : ℕ) → d + room r ≤ n → Roomy n d r

-- the word test is true of the word alone
pub is_word-same : (w : Word) (k : TokenKind) → k ≡ kind_of w → is_word w k ≡ true
is_word-same (the.Key j) k e = rw e (true_same keyword.the_type j j refl)
is_word-same (the.Sign j) k e = rw e (true_same symbol.the_type j j refl)

pub same-is_word : (w : Word) (k : TokenKind) → is_word w k ≡ true → k ≡ kind_of w
same-is_word (the.Key j) (Key k) e = ap Key (same_true keyword.the_type tt k j e)
same-is_word (the.Sign j) (Sign k) e = ap Sign (same_true symbol.the_type tt k j e)
same-is_word (the.Key j) _ e = cc
same-is_word (the.Sign j) _ e = cc

-- what is no bracket is not the word for one
not_word : (w : Word) (f : TokenKind → Bool) → f (kind_of w) ≡ true → (k : TokenKind) → f k ≡ false → is_word w k ≡ false
not_word w f o k q = tested (is_word w k) refl
  where
    no_truth : true ≡ false → ⊥
    no_truth e = cc

    tested : (b : Bool) → is_word w k ≡ b → is_word w k ≡ false
    tested true i = absurd (no_truth (sym o ∙ ap f (sym (same-is_word w k i)) ∙ q))
    tested false i = i

not_paren : (k : TokenKind) → is_paren k ≡ false → is_word (the.Sign LeftParen) k ≡ false
not_paren = not_word (the.Sign LeftParen) is_paren refl

pub not_fetch : (k : TokenKind) → is_bracket k ≡ false → is_word (the.Sign LeftBracket) k ≡ false
not_fetch = not_word (the.Sign LeftBracket) is_bracket refl

-- what is no bracket is none of a call
pub Quiet-atom : (k : TokenKind) → QuietUnary k → QuietAtom k
Quiet-atom (Sign LeftParen) q = cc
Quiet-atom (Sign _) q = refl
Quiet-atom _ q = refl

-- the bracket of a fetch is none of a call
pub Quiet-fetch : {k : TokenKind} → k ≡ Sign LeftBracket → QuietAtom k
Quiet-fetch e = rw e refl

-- no tail of a block begins with the word `while`
not_while : (k : TokenKind) (p : ℕ) (r : Rest) → Opens (Tail scope.Block) k p r → is_word (the.Key While) k ≡ false
not_while k p r by_statement = refl
not_while k p r by_body = refl

-- nor with the word `for`
not_for : (k : TokenKind) (p : ℕ) (r : Rest) → Opens (Tail scope.Block) k p r → is_word (the.Key For) k ≡ false
not_for k p r by_statement = refl
not_for k p r by_body = refl

-- behind an argument comes a comma or the closing bracket
pub arguments_parts : (s0 : Phrase) → Parts s0 arguments_of
arguments_parts s0 = λ e. (((refl, (refl, (refl, (refl, (refl, refl))))), (refl, (refl, (refl, (refl, (refl, refl)))))), λ a. (λ k q. tt, tt))

-- behind the value of a statement comes a semicolon
statement_parts : (o : Scope) (f : Tree → Tree) → Parts (Tail o) (statement_of o f)
statement_parts o f = λ e. (((refl, (refl, (refl, (refl, (refl, refl)))))), λ a. (λ k q. tt, tt))

-- neither a comma nor a closing bracket is the word `array`
not_deeper : (k : TokenKind) (p : ℕ) (r : Rest) → Opens MoreParameters k p r → is_word (the.Key Array) k ≡ false
not_deeper k p r last_parameter = refl
not_deeper k p r next_parameter = refl

-- what holds behind each kind holds behind its first word
deepened_parts : (s0 : Phrase) (f : Kind → Rest) → ((k : Kind) → Parts s0 (f k)) → Bars s0 (the.Key Array) (f kind.Array) → (k : Kind) → Parts s0 (deepened f k)
deepened_parts s0 f h b kind.Int = h kind.Int
deepened_parts s0 f h b kind.Bool = h kind.Bool
deepened_parts s0 f h b kind.Array = (b, λ p. h kind.Nested, h kind.Array)
deepened_parts s0 f h b kind.Nested = h kind.Nested

deepened_needs : (m : ℕ) (f : Kind → Rest) → ((k : Kind) → Needs m (f k)) → (k : Kind) → Needs m (deepened f k)
deepened_needs m f h kind.Int = h kind.Int
deepened_needs m f h kind.Bool = h kind.Bool
deepened_needs m f h kind.Array = (λ p. h kind.Nested, h kind.Array)
deepened_needs m f h kind.Nested = h kind.Nested

deepened_roomy : (n d : ℕ) (f : Kind → Rest) → ((k : Kind) → Roomy n d (f k)) → (k : Kind) → Roomy n d (deepened f k)
deepened_roomy n d f h kind.Int = h kind.Int
deepened_roomy n d f h kind.Bool = h kind.Bool
deepened_roomy n d f h kind.Array = (λ p. h kind.Nested, h kind.Array)
deepened_roomy n d f h kind.Nested = h kind.Nested

-- what stands behind the kind of a definition, and behind that of a parameter
abbrev kinded_body : List ℕ → ℕ → Tree → Kind → Rest
kinded_body x q a k = sign Becomes (body_of x a k q)

abbrev kinded_parameter : List ℕ → ℕ → Kind → Rest
kinded_parameter x q k = part MoreParameters (λ a. done (more (param x k q) a))

-- the bounds of an array of either sort
bounds_parts : (nested : Bool) (p : ℕ) → Parts Atom (bounds_of nested p)
bounds_parts nested p = λ a. ((refl, (refl, (refl, (refl, (refl, refl))))), λ b. ((refl, (refl, (refl, (refl, (refl, refl))))), tt))

-- the body of a block, and the last expression of a loop
last_valid : {o : Scope} → Valid (Tail o) last_of
last_valid = record {
  parts = λ e. ((refl, (refl, (refl, (refl, (refl, refl))))), tt);
  high = omega arith;
  needs = (0, omega arith, λ e. omega arith);
  roomy = λ n d h. (h, λ e. tt);
}

pub valid : {s : Phrase} {k : TokenKind} {p : ℕ} {r : Rest} → Opens s k p r → Valid s r
valid definition = record {
  parts = λ x p a. (tt, deepened_parts Definition (kinded_body x p a) (λ k e. ((refl, (refl, (refl, (refl, (refl, refl))))), tt)) refl);
  high = omega arith;
  needs = λ x p. (1, omega arith, λ a. deepened_needs 1 (kinded_body x p a) (λ k. (0, omega arith, λ e. omega arith)));
  roomy = λ n d h x p. (omega arith, λ a. deepened_roomy n d (kinded_body x p a) (λ k. (h, λ e. tt)));
}
valid no_parameters = record {
  parts = tt;
  high = omega arith;
  needs = omega arith;
  roomy = λ n d h. tt;
}
valid (first_parameter {x = x} {p = p}) = record {
  parts = deepened_parts Parameters (kinded_parameter x p) (λ k a. (λ j q. tt, tt)) not_deeper;
  high = omega arith;
  needs = deepened_needs 0 (kinded_parameter x p) (λ k. (0, omega arith, λ a. omega arith));
  roomy = λ n d h. deepened_roomy n d (kinded_parameter x p) (λ k. (h, λ a. tt));
}
valid last_parameter = record {
  parts = tt;
  high = omega arith;
  needs = omega arith;
  roomy = λ n d h. tt;
}
valid next_parameter = record {
  parts = λ x p. deepened_parts MoreParameters (kinded_parameter x p) (λ k a. (λ j q. tt, tt)) not_deeper;
  high = omega arith;
  needs = λ x p. deepened_needs 0 (kinded_parameter x p) (λ k. (0, omega arith, λ a. omega arith));
  roomy = λ n d h x p. deepened_roomy n d (kinded_parameter x p) (λ k. (h, λ a. tt));
}
valid by_conditional = record {
  parts = λ t. ((refl, (refl, (refl, (refl, (refl, refl))))), λ x. ((refl, (refl, (refl, (refl, (refl, refl))))), λ y. (λ k q. q, tt)));
  high = omega arith;
  needs = (0, omega arith, λ t. (0, omega arith, λ x. (0, omega arith, λ y. omega arith)));
  roomy = λ n d h. (h, λ t. (h, λ x. (h, λ y. tt)));
}
valid denied = record {
  parts = λ e. (λ k q. q, tt);
  high = omega arith;
  needs = (0, omega arith, λ e. omega arith);
  roomy = λ n d h. (h, λ e. tt);
}
valid negated = record {
  parts = λ e. (λ k q. q, tt);
  high = omega arith;
  needs = (0, omega arith, λ e. omega arith);
  roomy = λ n d h. (h, λ e. tt);
}
valid number = record { parts = tt; high = omega arith; needs = omega arith; roomy = λ n d h. tt }
valid by_true = record { parts = tt; high = omega arith; needs = omega arith; roomy = λ n d h. tt }
valid by_false = record { parts = tt; high = omega arith; needs = omega arith; roomy = λ n d h. tt }
valid parens = record {
  parts = λ e. ((refl, (refl, (refl, (refl, (refl, refl))))), tt);
  high = omega arith;
  needs = (0, omega arith, λ e. omega arith);
  roomy = λ n d h. (h, λ e. tt);
}
valid by_name = record {
  parts = (not_paren, λ p a. (λ k q. tt, tt), tt);
  high = omega arith;
  needs = (λ p. (0, omega arith, λ a. omega arith), omega arith);
  roomy = λ n d h. (λ p. (h, λ a. tt), tt);
}
valid (by_array {p = p}) = record {
  parts = (refl, λ _. bounds_parts true p, bounds_parts false p);
  high = omega arith;
  needs = (λ _. (0, omega arith, λ a. (0, omega arith, λ b. omega arith)), (0, omega arith, λ a. (0, omega arith, λ b. omega arith)));
  roomy = λ n d h. (λ _. (h, λ a. (h, λ b. tt)), (h, λ a. (h, λ b. tt)));
}
valid by_braces = record {
  parts = (
    (refl, not_while),
    λ p t. ((refl, (refl, (refl, (refl, (refl, refl))))), λ a. (λ k q. tt, tt)),
    (
      not_for,
      λ p x i low. ((refl, (refl, (refl, (refl, (refl, refl))))), λ high. ((refl, (refl, (refl, (refl, (refl, refl))))), λ a. (λ k q. tt, tt))),
      λ a. (λ k q. tt, tt),
    ),
  );
  high = omega arith;
  needs = (
    λ p. (0, omega arith, λ t. (0, omega arith, λ a. omega arith)),
    (λ p x i. (0, omega arith, λ low. (0, omega arith, λ high. (0, omega arith, λ a. omega arith))), (0, omega arith, λ a. omega arith)),
  );
  roomy = λ n d h. (λ p. (h, λ t. (h, λ a. tt)), (λ p x i. (h, λ low. (h, λ high. (h, λ a. tt))), (h, λ a. tt)));
}
valid no_arguments = record { parts = tt; high = omega arith; needs = omega arith; roomy = λ n d h. tt }
valid last_argument = record { parts = tt; high = omega arith; needs = omega arith; roomy = λ n d h. tt }
valid next_argument = record {
  parts = arguments_parts MoreArguments;
  high = omega arith;
  needs = (0, omega arith, λ e. (0, omega arith, λ a. omega arith));
  roomy = λ n d h. (h, λ e. (omega arith, λ a. tt));
}
valid (by_statement {s = s} {x = x} {p = p}) = record {
  parts = (
    refl,
    λ q i m. (
      (refl, (refl, (refl, (refl, (refl, refl))))),
      (
        refl,
        λ o j. ((refl, (refl, (refl, (refl, (refl, refl))))), statement_parts s (λ e. store (fetch (tree.name x p) i q) j e o)),
        statement_parts s (λ e. store (tree.name x p) i e q),
      ),
    ),
    statement_parts s (λ e. binding x e p),
  );
  high = omega arith;
  needs = (
    λ q. (
      1,
      omega arith,
      λ i m. (
        λ o. (1, omega arith, λ j. (1, omega arith, λ e. (0, omega arith, λ a. omega arith))),
        (1, omega arith, λ e. (0, omega arith, λ a. omega arith)),
      ),
    ),
    (1, omega arith, λ e. (0, omega arith, λ a. omega arith)),
  );
  roomy = λ n d h. (
    λ q. (h, λ i m. (λ o. (h, λ j. (h, λ e. (h, λ a. tt))), (h, λ e. (h, λ a. tt)))),
    (h, λ e. (h, λ a. tt)),
  );
}
valid by_next = record {
  parts = λ x q e. ((refl, (refl, (refl, (refl, (refl, refl))))), λ a. (λ k q. tt, tt));
  high = omega arith;
  needs = λ x q. (1, omega arith, λ e. (0, omega arith, λ a. omega arith));
  roomy = λ n d h x q. (h, λ e. (h, λ a. tt));
}
valid by_body = last_valid
valid by_last = last_valid

-- the machine finds each production
pub opening-from_opens : {s : Phrase} {k : TokenKind} {p : ℕ} {r : Rest} (o : Opens s k p r) → opening s k p ≡ Some (record { rest = r; opens = o })
opening-from_opens definition = refl
opening-from_opens no_parameters = refl
opening-from_opens first_parameter = refl
opening-from_opens last_parameter = refl
opening-from_opens next_parameter = refl
opening-from_opens by_conditional = refl
opening-from_opens denied = refl
opening-from_opens negated = refl
opening-from_opens number = refl
opening-from_opens by_true = refl
opening-from_opens by_false = refl
opening-from_opens parens = refl
opening-from_opens by_name = refl
opening-from_opens by_array = refl
opening-from_opens by_braces = refl
opening-from_opens no_arguments = refl
opening-from_opens last_argument = refl
opening-from_opens next_argument = refl
opening-from_opens (by_statement {s = scope.Block}) = refl
opening-from_opens (by_statement {s = scope.Loop}) = refl
opening-from_opens by_next = refl
opening-from_opens by_body = refl
opening-from_opens by_last = refl

-- an operator of a level is none of a tighter one
pub Quiet-operator : (l : Level) (k : TokenKind) (o : BinaryOp) → operator_of l k ≡ Some o → Quiet (operand l) k
Quiet-operator level.Product (Sign LeftParen) o e = cc
Quiet-operator level.Product (Sign LeftBracket) o e = cc
Quiet-operator level.Product (Sign _) o e = refl
Quiet-operator level.Product (Key _) o e = refl
Quiet-operator level.Product _ o e = cc
Quiet-operator level.Sum (Sign Plus) o e = (refl, refl)
Quiet-operator level.Sum (Sign Minus) o e = (refl, refl)
Quiet-operator level.Sum _ o e = cc
Quiet-operator level.Comparison (Sign Equal) o e = (refl, (refl, refl))
Quiet-operator level.Comparison (Sign NotEqual) o e = (refl, (refl, refl))
Quiet-operator level.Comparison (Sign Less) o e = (refl, (refl, refl))
Quiet-operator level.Comparison (Sign LessEqual) o e = (refl, (refl, refl))
Quiet-operator level.Comparison (Sign Greater) o e = (refl, (refl, refl))
Quiet-operator level.Comparison (Sign GreaterEqual) o e = (refl, (refl, refl))
Quiet-operator level.Comparison _ o e = cc
Quiet-operator level.And (Key And) o e = (refl, (refl, (refl, refl)))
Quiet-operator level.And _ o e = cc
Quiet-operator level.Or (Key Or) o e = (refl, (refl, (refl, (refl, refl))))
Quiet-operator level.Or _ o e = cc

-- no phrase has a least height above 1
pub least-most : (s : Phrase) → least_height s ≤ 1
least-most Definition = omega arith
least-most Parameters = omega arith
least-most MoreParameters = omega arith
least-most Expression = omega arith
least-most (Grouped l) = omega arith
least-most Negation = omega arith
least-most Unary = omega arith
least-most Postfix = omega arith
least-most Atom = omega arith
least-most Arguments = omega arith
least-most MoreArguments = omega arith
least-most (Tail o) = omega arith

-- what stands before an operator of a level has a height, and so have its operands
pub left_operand-least : (l : Level) → 1 ≤ least_height (left_operand l)
left_operand-least level.Or = omega arith
left_operand-least level.And = omega arith
left_operand-least level.Comparison = omega arith
left_operand-least level.Sum = omega arith
left_operand-least level.Product = omega arith

pub operand-least : (l : Level) → 1 ≤ least_height (operand l)
operand-least level.Or = omega arith
operand-least level.And = omega arith
operand-least level.Comparison = omega arith
operand-least level.Sum = omega arith
operand-least level.Product = omega arith

mutual
  -- each phrase has its least height
  pub Derives-height : {s : Phrase} {ts : List Token} {e : Tree} {h : ℕ} → Derives s ts e h → least_height s ≤ h
  Derives-height (opened {r = r} o f) = omega (arith, (valid o).high, Follows-height f (room r) (valid o).needs)
  Derives-height (unconditional d) = Derives-height d
  Derives-height (single {l = l} d) = omega (arith, operand-least l, Derives-height d)
  Derives-height (grouped a t q b) = omega arith
  Derives-height (plain d) = Derives-height d
  Derives-height (bare d) = Derives-height d
  Derives-height (atomic d) = Derives-height d
  Derives-height (fetched x t q f) = omega arith
  Derives-height (some_arguments f) = zero-le

  -- the parts have the height that they need
  pub Follows-height : {r : Rest} {ts : List Token} {e : Tree} {h : ℕ} → Follows r ts e h → (m : ℕ) → Needs m r → m ≤ h
  Follows-height ended m n = n
  Follows-height (taken q f) m n = Follows-height f m n
  Follows-height (chosen q f) m n = Follows-height f m (n.0 _)
  Follows-height (left_out f) m n = Follows-height f m n.1
  Follows-height (named q f) m n = Follows-height f m (n _ _)
  Follows-height (kinded {k = k} q f) m n = Follows-height f m (n k)
  Follows-height (given {a = a} {m = i} {n = j} d f) m n = omega (arith, n.1, Derives-height d, Follows-height f n.0 (n.2 a))
  Follows-height (measured {a = a} {m = i} {n = j} d f) m n = omega (arith, n.1, Derives-height d, Follows-height f n.0 (n.2 a i))
  Follows-height (lifted {t = t} q f) m n = omega (arith, Follows-height f m (n.0 t.start))
  Follows-height (unlifted f) m n = Follows-height f m n.1
