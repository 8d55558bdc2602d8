-- The machine takes whatever the grammar derives, and makes the same tree of it: so tokens have one tree.
use Rattle.std.proofs.Common.{◌≡◌, ℕ, ◌+◌, ◌≤◌, max, true, false, cond, leb, Option, Some, None, List, [], ◌∷◌, ◌++◌, refl, sym, ap, ◌∙◌, append_assoc, arith}
use Rattle.std.proofs.Math.Dec.{leb-zero}
use Rattle.id_text.specs.declared.token.Token.{Token}
use Rattle.id_text.specs.declared.token.TokenKind.{TokenKind}
use Rattle.id_text.specs.declared.token.TokenKind.TheVariants.{Sign}
use Rattle.id_text.specs.declared.token.Symbol.TheVariants.{RightParen, LeftBracket, Comma}
use Rattle.id_grammar.specs.declared.phrase.Level.{Level}
use Rattle.id_grammar.specs.declared.phrase.Level.TheVariants as level
use Rattle.id_grammar.specs.declared.phrase.Scope.{Scope}
use Rattle.id_grammar.specs.declared.tokens.Word.{Word}
use Rattle.id_grammar.specs.declared.tokens.Word.TheVariants as the
use Rattle.id_value.specs.declared.BinaryOp.{BinaryOp}
use Rattle.id_grammar.specs.Tree.{Tree, none, more}
use Rattle.id_grammar.specs.Grammar.{measured, lifted, unlifted}
use Rattle.id_grammar.specs.Grammar.{Phrase, Definition, Parameters, MoreParameters, Expression, Grouped, Negation}
use Rattle.id_grammar.specs.Grammar.{Unary, Postfix, Atom, Arguments, MoreArguments, Tail, arguments_of, Rest, part}
use Rattle.id_grammar.specs.Grammar.{Opens, by_conditional, denied, negated, number, by_true, by_false, parens, by_name}
use Rattle.id_grammar.specs.Grammar.{by_array, by_braces, last_argument, next_argument, operand, left_operand}
use Rattle.id_grammar.specs.Grammar.{operator_of, own_height, Derives, opened, unconditional, single, grouped, plain}
use Rattle.id_grammar.specs.Grammar.{bare, atomic, fetched, some_arguments, Follows, ended, taken, chosen, left_out}
use Rattle.id_grammar.specs.Grammar.{named, kinded, given, Program, empty, defined}
use Rattle.id_grammar.specs.Machine.{opening, is_word, room, Move, pick, ahead, ends, wants, Frame, Left, Right, Target}
use Rattle.id_grammar.specs.Machine.{Inside, Sizing, Outer, again, State, Begin, Want, Have, Next, Accepted, Refused, run}
use Rattle.id_tree.specs.Accepted.{Accepts as AcceptsTree}
use Rattle.id_grammar.proofs.RowLemmas.{Quiet, Ends, Bars, Parts, valid, not_fetch, Quiet-atom, Quiet-fetch, Quiet-operator, Follows-height, arguments_parts}
use Rattle.id_grammar.proofs.RunLemmas.{run-sized, run-sizing, run-lifted, run-unlifted}
use Rattle.id_grammar.proofs.RunLemmas.{First, Unopened, run-done, run-part, run-inside, run-outer, run-right, run-level}
use Rattle.id_grammar.proofs.RunLemmas.{run-left, run-unconditional, run-plain, run-bare, run-postfix, run-target}
use Rattle.id_grammar.proofs.RunLemmas.{run-fetch, run-word, run-chosen, run-left_out, run-arguments, run-name, run-kind}
use Rattle.id_grammar.proofs.RunLemmas.{run-opens, run-operator}

-- no operator of a level within the phrase begins the tokens
abbrev Stops : Phrase → List Token → Type 0
Stops s ts = First (Quiet s) ts

-- nothing that goes on a tighter level than the phrase's own, where it has one that may go on
abbrev StopsInside : Phrase → List Token → Type 0
StopsInside (Grouped level.Or) ts = Stops (operand level.Or) ts
StopsInside (Grouped level.And) ts = Stops (operand level.And) ts
StopsInside (Grouped level.Comparison) ts = Stops (Grouped level.Comparison) ts
StopsInside (Grouped level.Sum) ts = Stops (operand level.Sum) ts
StopsInside (Grouped level.Product) ts = Stops (operand level.Product) ts
StopsInside Expression ts = Stops Expression ts
StopsInside Negation ts = Stops Negation ts
StopsInside Definition ts = Unit {0}
StopsInside Parameters ts = Unit {0}
StopsInside MoreParameters ts = Unit {0}
StopsInside Unary ts = Stops Unary ts
StopsInside Postfix ts = Stops Atom ts
StopsInside Atom ts = Stops Atom ts
StopsInside Arguments ts = Unit {0}
StopsInside MoreArguments ts = Unit {0}
StopsInside (Tail o) ts = Unit {0}

-- the state behind a phrase, whose own level is still open where it may go on
abbrev After : Phrase → Tree → ℕ → ℕ → List Frame → State
After (Grouped l) e h d K = Have e h (again l d K)
After Definition e h d K = Have e h K
After Parameters e h d K = Have e h K
After MoreParameters e h d K = Have e h K
After Expression e h d K = Have e h K
After Negation e h d K = Have e h K
After Unary e h d K = Have e h K
After Postfix e h d K = Have e h (Target d ∷ K)
After Atom e h d K = Have e h K
After Arguments e h d K = Have e h K
After MoreArguments e h d K = Have e h K
After (Tail o) e h d K = Have e h K

-- where the phrase is not gone on, no tighter level is
Stops-inside : (s : Phrase) (ts : List Token) → Stops s ts → StopsInside s ts
Stops-inside (Grouped level.Or) [] q = tt
Stops-inside (Grouped level.And) [] q = tt
Stops-inside (Grouped level.Comparison) [] q = tt
Stops-inside (Grouped level.Sum) [] q = tt
Stops-inside (Grouped level.Product) [] q = tt
Stops-inside (Grouped level.Or) (t ∷ ts) q = q.1
Stops-inside (Grouped level.And) (t ∷ ts) q = q.1
Stops-inside (Grouped level.Comparison) (t ∷ ts) q = q
Stops-inside (Grouped level.Sum) (t ∷ ts) q = q.1
Stops-inside (Grouped level.Product) (t ∷ ts) q = q.1
Stops-inside Expression ts q = q
Stops-inside Negation ts q = q
Stops-inside Definition ts q = tt
Stops-inside Parameters ts q = tt
Stops-inside MoreParameters ts q = tt
Stops-inside Unary ts q = q
Stops-inside Postfix [] q = tt
Stops-inside Postfix (t ∷ ts) q = Quiet-atom t.kind q
Stops-inside Atom ts q = q
Stops-inside Arguments ts q = tt
Stops-inside MoreArguments ts q = tt
Stops-inside (Tail o) ts q = tt

-- where a level is not gone on, no operator of it stands
Stops-own : (l : Level) (ts : List Token) → Stops (Grouped l) ts → First (λ k. operator_of l k ≡ None) ts
Stops-own l [] q = tt
Stops-own level.Or (t ∷ ts) q = q.0
Stops-own level.And (t ∷ ts) q = q.0
Stops-own level.Comparison (t ∷ ts) q = q.0
Stops-own level.Sum (t ∷ ts) q = q.0
Stops-own level.Product (t ∷ ts) q = q.0

-- where operators of a level may follow, those of its operands do not
Stops-operand : (l : Level) (ts : List Token) → StopsInside (Grouped l) ts → Stops (operand l) ts
Stops-operand level.Or ts q = q
Stops-operand level.And ts q = q
Stops-operand level.Comparison [] q = tt
Stops-operand level.Comparison (t ∷ ts) q = q.1
Stops-operand level.Sum ts q = q
Stops-operand level.Product ts q = q

Stops-arguments : (ts : List Token) → Stops Arguments ts
Stops-arguments [] = tt
Stops-arguments (t ∷ ts) = tt

-- what holds of the first kind, weakened
First-weaker : (P Q : TokenKind → Type 0) → ((k : TokenKind) → P k → Q k) → (ts : List Token) → First P ts → First Q ts
First-weaker P Q f [] q = tt
First-weaker P Q f (t ∷ ts) q = f t.kind q

-- where nothing goes on a phrase, its level ends
run-after : (n : ℕ) (us : List Token) (s : Phrase) (e : Tree) (h d : ℕ) (K : List Frame) → Stops s us → run n us (After s e h d K) ≡ run n us (Have e h K)
run-after n us (Grouped level.Or) e h d K q = run-left n us level.Or e h d K (Stops-own level.Or us q)
run-after n us (Grouped level.And) e h d K q = run-left n us level.And e h d K (Stops-own level.And us q)
run-after n us (Grouped level.Comparison) e h d K q = refl
run-after n us (Grouped level.Sum) e h d K q = run-left n us level.Sum e h d K (Stops-own level.Sum us q)
run-after n us (Grouped level.Product) e h d K q = run-left n us level.Product e h d K (Stops-own level.Product us q)
run-after n us Definition e h d K q = refl
run-after n us Parameters e h d K q = refl
run-after n us MoreParameters e h d K q = refl
run-after n us Expression e h d K q = refl
run-after n us Negation e h d K q = refl
run-after n us Unary e h d K q = refl
run-after n us Postfix e h d K q = run-target n us e h d K (First-weaker (Quiet Postfix) (λ k. is_word (the.Sign LeftBracket) k ≡ false) not_fetch us q)
run-after n us Atom e h d K q = refl
run-after n us Arguments e h d K q = refl
run-after n us MoreArguments e h d K q = refl
run-after n us (Tail o) e h d K q = refl

-- more arguments begin with a comma or the closing bracket
Opens-more : {k : TokenKind} {p : ℕ} {r : Rest} → Opens MoreArguments k p r → (P : TokenKind → Type 0) → P (Sign RightParen) → P (Sign Comma) → P k
Opens-more last_argument P f g = f
Opens-more next_argument P f g = g

Derives-more : {ts : List Token} {e : Tree} {h : ℕ} → Derives MoreArguments ts e h → (P : TokenKind → Type 0) → P (Sign RightParen) → P (Sign Comma) →
    (us : List Token) → First P (ts ++ us)
Derives-more (opened o f) P g h us = Opens-more o P g h

-- a part that follows another ends it
Part-stops : (i : Phrase) (f : Tree → Rest) {ts : List Token} {e : Tree} {h : ℕ} → Derives i ts e h → (s0 s : Phrase) (us : List Token) →
    Ends s0 s (part i f) → Stops s (ts ++ us)
Part-stops MoreArguments f x s0 s us b = Derives-more x (Quiet s) b.0 b.1 us
Part-stops _ f x s0 s us b = absurd b

-- what is left of a production ends its last part
Follows-stops : {r : Rest} {ts : List Token} {e : Tree} {h : ℕ} → Follows r ts e h → (s0 s : Phrase) (us : List Token) → Ends s0 s r → Stops s0 us →
    Stops s (ts ++ us)
Follows-stops ended s0 s us b q = First-weaker (Quiet s0) (Quiet s) b us q
Follows-stops (taken {w = w} q f) s0 s us b p = rw q b
Follows-stops (named q f) s0 s us b p = absurd b
Follows-stops (kinded q f) s0 s us b p = absurd b
Follows-stops (chosen q f) s0 s us b p = absurd b
Follows-stops (left_out f) s0 s us b p = absurd b
Follows-stops (measured x f) s0 s us b p = absurd b
Follows-stops (lifted q f) s0 s us b p = absurd b
Follows-stops (unlifted f) s0 s us b p = absurd b
Follows-stops (given {s = i} {f = g} {us = xs} {ts = ts} x f) s0 s us b p = rw (append_assoc xs ts us) (Part-stops i g x s0 s (ts ++ us) b)

-- a tail begins with the first token of one of its productions
Derives-tail : {o : Scope} {ts : List Token} {e : Tree} {h : ℕ} → Derives (Tail o) ts e h → (P : TokenKind → Type 0) →
    ((k : TokenKind) (p : ℕ) (r : Rest) → Opens (Tail o) k p r → P k) → (us : List Token) → First P (ts ++ us)
Derives-tail (opened {t = t} {r = r} o f) P g us = g t.kind t.start r o

Part-bars : (i : Phrase) (f : Tree → Rest) {ts : List Token} {e : Tree} {h : ℕ} → Derives i ts e h → (s0 : Phrase) (w : Word) (us : List Token) →
    Bars s0 w (part i f) → First (λ k. is_word w k ≡ false) (ts ++ us)
Part-bars (Tail o) f x s0 w us b = Derives-tail x (λ k. is_word w k ≡ false) b us
Part-bars MoreParameters f (opened {t = t} {r = r} o g) s0 w us b = b t.kind t.start r o
Part-bars _ f x s0 w us b = absurd b

-- where a word is barred, it is not there
Follows-bars : {r : Rest} {ts : List Token} {e : Tree} {h : ℕ} → Follows r ts e h → (s0 : Phrase) (w : Word) (us : List Token) →
    Bars s0 w r → Stops s0 us → First (λ k. is_word w k ≡ false) (ts ++ us)
Follows-bars ended s0 w us b q = First-weaker (Quiet s0) (λ k. is_word w k ≡ false) b us q
Follows-bars (given {s = i} {f = g} {us = xs} {ts = ts} x f) s0 w us b q = rw (append_assoc xs ts us) (Part-bars i g x s0 w (ts ++ us) b)
Follows-bars (taken i f) s0 w us b q = rw i b
Follows-bars (named i f) s0 w us b q = absurd b
Follows-bars (kinded i f) s0 w us b q = absurd b
Follows-bars (chosen i f) s0 w us b q = rw i b.0
Follows-bars (left_out f) s0 w us b q = Follows-bars f s0 w us b.1 q
Follows-bars (measured x f) s0 w us b q = absurd b
Follows-bars (lifted i f) s0 w us b q = absurd b
Follows-bars (unlifted f) s0 w us b q = absurd b

-- what a production begins has no level
Stops-opens : (s : Phrase) {k : TokenKind} {p : ℕ} {r : Rest} → Opens s k p r → (us : List Token) → StopsInside s us → Stops s us
Stops-opens (Grouped l) o us q = elim o [ ]
Stops-opens Expression o us q = q
Stops-opens Negation o us q = q
Stops-opens Unary o us q = q
Stops-opens Postfix o us q = elim o [ ]
Stops-opens Atom o us q = q
Stops-opens s o [] q = tt
Stops-opens Definition o (t ∷ us) q = tt
Stops-opens Parameters o (t ∷ us) q = tt
Stops-opens MoreParameters o (t ∷ us) q = tt
Stops-opens Arguments o (t ∷ us) q = tt
Stops-opens MoreArguments o (t ∷ us) q = tt
Stops-opens (Tail j) o (t ∷ us) q = tt

-- nothing of a production is still open behind it
After-opens : (s : Phrase) {k : TokenKind} {p : ℕ} {r : Rest} → Opens s k p r → (e : Tree) (h d : ℕ) (K : List Frame) → After s e h d K ≡ Have e h K
After-opens Definition o e h d K = refl
After-opens Parameters o e h d K = refl
After-opens MoreParameters o e h d K = refl
After-opens Expression o e h d K = refl
After-opens (Grouped l) o e h d K = elim o [ ]
After-opens Negation o e h d K = refl
After-opens Unary o e h d K = refl
After-opens Postfix o e h d K = elim o [ ]
After-opens Atom o e h d K = refl
After-opens Arguments o e h d K = refl
After-opens MoreArguments o e h d K = refl
After-opens (Tail j) o e h d K = refl

-- the phrase is one that the tokens of the other can be without a production of its own, or stands first in one
abbrev IsFirst : Phrase → Phrase → Type 0
IsFirst Expression (Grouped l) = Unit {0}
IsFirst Expression Negation = Unit {0}
IsFirst Expression Unary = Unit {0}
IsFirst Expression Postfix = Unit {0}
IsFirst Expression Atom = Unit {0}
IsFirst Negation (Grouped level.Comparison) = Unit {0}
IsFirst Negation (Grouped level.Sum) = Unit {0}
IsFirst Negation (Grouped level.Product) = Unit {0}
IsFirst Negation Unary = Unit {0}
IsFirst Negation Postfix = Unit {0}
IsFirst Negation Atom = Unit {0}
IsFirst Unary Postfix = Unit {0}
IsFirst Unary Atom = Unit {0}
IsFirst Arguments Expression = Unit {0}
IsFirst Arguments (Grouped l) = Unit {0}
IsFirst Arguments Negation = Unit {0}
IsFirst Arguments Unary = Unit {0}
IsFirst Arguments Postfix = Unit {0}
IsFirst Arguments Atom = Unit {0}
IsFirst _ _ = ⊥

IsFirst-operand : (s0 : Phrase) (l : Level) → IsFirst s0 (Grouped l) → IsFirst s0 (operand l)
IsFirst-operand Expression level.Or q = tt
IsFirst-operand Expression level.And q = tt
IsFirst-operand Expression level.Comparison q = tt
IsFirst-operand Expression level.Sum q = tt
IsFirst-operand Expression level.Product q = tt
IsFirst-operand Negation level.Comparison q = tt
IsFirst-operand Negation level.Sum q = tt
IsFirst-operand Negation level.Product q = tt
IsFirst-operand Arguments level.Or q = tt
IsFirst-operand Arguments level.And q = tt
IsFirst-operand Arguments level.Comparison q = tt
IsFirst-operand Arguments level.Sum q = tt
IsFirst-operand Arguments level.Product q = tt
IsFirst-operand _ _ q = absurd q

IsFirst-comparison : (s0 : Phrase) → IsFirst s0 Negation → IsFirst s0 (Grouped level.Comparison)
IsFirst-comparison Expression q = tt
IsFirst-comparison Arguments q = tt
IsFirst-comparison _ q = absurd q

IsFirst-left : (s0 : Phrase) (l : Level) → IsFirst s0 (Grouped l) → IsFirst s0 (left_operand l)
IsFirst-left Expression level.Or q = tt
IsFirst-left Expression level.And q = tt
IsFirst-left Expression level.Comparison q = tt
IsFirst-left Expression level.Sum q = tt
IsFirst-left Expression level.Product q = tt
IsFirst-left Negation level.Comparison q = tt
IsFirst-left Negation level.Sum q = tt
IsFirst-left Negation level.Product q = tt
IsFirst-left Arguments level.Or q = tt
IsFirst-left Arguments level.And q = tt
IsFirst-left Arguments level.Comparison q = tt
IsFirst-left Arguments level.Sum q = tt
IsFirst-left Arguments level.Product q = tt
IsFirst-left _ _ q = absurd q

IsFirst-bare : (s0 : Phrase) → IsFirst s0 Unary → IsFirst s0 Postfix
IsFirst-bare Expression q = tt
IsFirst-bare Negation q = tt
IsFirst-bare Arguments q = tt
IsFirst-bare _ q = absurd q

IsFirst-atomic : (s0 : Phrase) → IsFirst s0 Postfix → IsFirst s0 Atom
IsFirst-atomic Expression q = tt
IsFirst-atomic Negation q = tt
IsFirst-atomic Unary q = tt
IsFirst-atomic Arguments q = tt
IsFirst-atomic _ q = absurd q

-- its productions begin with no token with which one of the other's begins
Unopened-opens : {s : Phrase} {k : TokenKind} {p : ℕ} {r : Rest} → Opens s k p r → (s0 : Phrase) → IsFirst s0 s → opening s0 k p ≡ None
Unopened-opens denied Expression q = refl
Unopened-opens negated Expression q = refl
Unopened-opens negated Negation q = refl
Unopened-opens number Expression q = refl
Unopened-opens number Negation q = refl
Unopened-opens by_true Expression q = refl
Unopened-opens by_true Negation q = refl
Unopened-opens by_false Expression q = refl
Unopened-opens by_false Negation q = refl
Unopened-opens parens Expression q = refl
Unopened-opens parens Negation q = refl
Unopened-opens by_name Expression q = refl
Unopened-opens by_name Negation q = refl
Unopened-opens by_braces Expression q = refl
Unopened-opens by_braces Negation q = refl
Unopened-opens by_conditional Arguments q = refl
Unopened-opens denied Arguments q = refl
Unopened-opens negated Arguments q = refl
Unopened-opens number Arguments q = refl
Unopened-opens by_true Arguments q = refl
Unopened-opens by_false Arguments q = refl
Unopened-opens parens Arguments q = refl
Unopened-opens by_name Arguments q = refl
Unopened-opens by_braces Arguments q = refl
Unopened-opens by_array Expression q = refl
Unopened-opens by_array Negation q = refl
Unopened-opens by_array Arguments q = refl
Unopened-opens number Unary q = refl
Unopened-opens by_true Unary q = refl
Unopened-opens by_false Unary q = refl
Unopened-opens parens Unary q = refl
Unopened-opens by_name Unary q = refl
Unopened-opens by_array Unary q = refl
Unopened-opens by_braces Unary q = refl
Unopened-opens _ Expression q = absurd q
Unopened-opens _ Negation q = absurd q
Unopened-opens _ _ q = absurd q

-- nor do its tokens
Unopened-derives : {s : Phrase} {ts : List Token} {e : Tree} {h : ℕ} → Derives s ts e h → (s0 : Phrase) → IsFirst s0 s →
    (us : List Token) → Unopened s0 (ts ++ us)
Unopened-derives (opened o f) s0 q us = Unopened-opens o s0 q
Unopened-derives (unconditional x) s0 q us = Unopened-derives x s0 (of_expression s0 q) us
  where
    of_expression : (s0 : Phrase) → IsFirst s0 Expression → IsFirst s0 (Grouped level.Or)
    of_expression Arguments q = tt
    of_expression _ q = absurd q
Unopened-derives (single {l = l} x) s0 q us = Unopened-derives x s0 (IsFirst-operand s0 l q) us
Unopened-derives (grouped {l = l} {us = xs} {vs = ys} x t p y) s0 q us =
    rw (append_assoc xs (t ∷ ys) us) (Unopened-derives x s0 (IsFirst-left s0 l q) (t ∷ (ys ++ us)))
Unopened-derives (plain x) s0 q us = Unopened-derives x s0 (IsFirst-comparison s0 q) us
Unopened-derives (bare x) s0 q us = Unopened-derives x s0 (IsFirst-bare s0 q) us
Unopened-derives (atomic x) s0 q us = Unopened-derives x s0 (IsFirst-atomic s0 q) us
Unopened-derives (fetched {us = xs} {vs = ys} x t p f) s0 q us = rw (append_assoc xs (t ∷ ys) us) (Unopened-derives x s0 q (t ∷ (ys ++ us)))
Unopened-derives (some_arguments f) s0 q us = absurd (no_arguments s0 q)
  where
    no_arguments : (s0 : Phrase) → IsFirst s0 Arguments → ⊥
    no_arguments Expression q = q
    no_arguments Negation q = q
    no_arguments Arguments q = q
    no_arguments _ q = q

-- nor does an argument begin with the closing bracket
Unopened-arguments : {ts : List Token} {e : Tree} {h : ℕ} → Follows arguments_of ts e h → (us : List Token) → Unopened Arguments (ts ++ us)
Unopened-arguments (given {us = xs} {ts = ts} x f) us = rw (append_assoc xs ts us) (Unopened-derives x Arguments tt (ts ++ us))

max-assoc : (a b c d : ℕ) → max (max a b) c + d ≡ max a (max b c) + d
max-assoc a b c d = omega arith

-- one operand is a level, whose end comes where it may not go on
run-single : (n : ℕ) (us : List Token) (l : Level) (e : Tree) (h d : ℕ) (K : List Frame) → StopsInside (Grouped l) us →
    run n us (Have e h (Left l d ∷ K)) ≡ run n us (Have e h (again l d K))
run-single n us level.Or e h d K q = refl
run-single n us level.And e h d K q = refl
run-single n us level.Comparison e h d K q = run-left n us level.Comparison e h d K (Stops-own level.Comparison us q)
run-single n us level.Sum e h d K q = refl
run-single n us level.Product e h d K q = refl

-- what stands before an operator of a level is taken as the level's, where the run of what it is takes it so
run-first : (n : ℕ) (xs : List Token) (t : Token) (us : List Token) (l : Level) (o : BinaryOp) (a : Tree) (m d : ℕ) (K : List Frame) →
    operator_of l t.kind ≡ Some o →
    ((K : List Frame) (vs : List Token) → StopsInside (left_operand l) vs →
    run n (xs ++ vs) (Want (left_operand l) d K) ≡ run n vs (After (left_operand l) a m d K)) →
    run n (xs ++ t ∷ us) (Want (Grouped l) d K) ≡ run n (t ∷ us) (Have a m (Left l d ∷ K))
run-first n xs t us level.Or o a m d K p f = f K (t ∷ us) (Quiet-operator level.Or t.kind o p)
run-first n xs t us level.And o a m d K p f = f K (t ∷ us) (Quiet-operator level.And t.kind o p)
run-first n xs t us level.Comparison o a m d K p f =
    let stops = Quiet-operator level.Comparison t.kind o p in
    run-level n (xs ++ t ∷ us) level.Comparison d K
    ∙ f (Left level.Comparison d ∷ K) (t ∷ us) (Stops-inside (Grouped level.Sum) (t ∷ us) stops)
    ∙ run-after n (t ∷ us) (Grouped level.Sum) a m d (Left level.Comparison d ∷ K) stops
run-first n xs t us level.Sum o a m d K p f = f K (t ∷ us) (Quiet-operator level.Sum t.kind o p)
run-first n xs t us level.Product o a m d K p f = f K (t ∷ us) (Quiet-operator level.Product t.kind o p)

mutual
  pub run-derives : {s : Phrase} {ts : List Token} {e : Tree} {h : ℕ} → Derives s ts e h → (n d : ℕ) (K : List Frame) (us : List Token) → d + h ≤ n →
      StopsInside s us → run n (ts ++ us) (Want s d K) ≡ run n us (After s e h d K)
  run-derives (opened {s = s} {t = t} {r = r} {ts = ts} {e = e} {h = h} o f) n d K us b q =
      run-opens n t (ts ++ us) s r d K o (omega (arith, Follows-height f (room r) (valid o).needs))
      ∙ run-follows f n 0 (d + own_height s) (own_height s) K us s (omega arith) (valid o).parts (Stops-opens s o us q)
      ∙ ap (λ x. run n us (Have e (x + own_height s) K)) (omega arith)
      ∙ ap (run n us) (sym (After-opens s o e (h + own_height s) d K))
  run-derives (unconditional {ts = ts} {e = e} {h = h} x) n d K us b q =
      run-unconditional n (ts ++ us) d K (Unopened-derives x Expression tt us)
      ∙ run-derives x n d K us b (Stops-inside (Grouped level.Or) us q)
      ∙ run-after n us (Grouped level.Or) e h d K q
  run-derives (single {l = l} {ts = ts} {e = e} {h = h} x) n d K us b q =
      let stops = Stops-operand l us q in
      run-level n (ts ++ us) l d K
      ∙ run-derives x n d (Left l d ∷ K) us b (Stops-inside (operand l) us stops)
      ∙ run-after n us (operand l) e h d (Left l d ∷ K) stops
      ∙ run-single n us l e h d K q
  run-derives (grouped {l = l} {us = xs} {vs = ys} {o = o} {a = a} {b = b} {m = m} {n = k} x t p y) n d K us w q =
      let stops = Stops-operand l us q in
      rw (append_assoc xs (t ∷ ys) us)
      (run-first n xs t (ys ++ us) l o a m d K p (λ K vs i. run-derives x n d K vs (omega arith) i)
      ∙ run-operator n t (ys ++ us) l o a m d K p (omega arith)
      ∙ run-derives y n (d + 1) (Right l o a m t.start d ∷ K) us (omega arith) (Stops-inside (operand l) us stops)
      ∙ run-after n us (operand l) b k (d + 1) (Right l o a m t.start d ∷ K) stops
      ∙ run-right n us b k l o a m t.start d K)
  run-derives (plain {ts = ts} x) n d K us b q = run-plain n (ts ++ us) d K (Unopened-derives x Negation tt us) ∙ run-derives x n d K us b q
  run-derives (bare {ts = ts} {e = e} {h = h} x) n d K us b q =
      run-bare n (ts ++ us) d K (Unopened-derives x Unary tt us)
      ∙ run-derives x n d K us b (Stops-inside Postfix us q)
      ∙ run-after n us Postfix e h d K q
  run-derives (atomic {ts = ts} x) n d K us b q = run-postfix n (ts ++ us) d K ∙ run-derives x n d (Target d ∷ K) us b q
  run-derives (fetched {us = xs} {vs = ys} {a = a} {e = e} {m = m} {n = k} x t p f) n d K us w q =
      rw (append_assoc xs (t ∷ ys) us)
      (run-derives x n d K (t ∷ (ys ++ us)) (omega arith) (Quiet-fetch p)
      ∙ run-fetch n t (ys ++ us) a m d K p (omega arith)
      ∙ run-follows f n m (d + 1) 1 (Target d ∷ K) us Arguments (omega arith) (λ i. ((refl, (refl, (refl, (refl, (refl, refl))))), tt)) (Stops-arguments us))
  run-derives (some_arguments {ts = ts} {e = e} {h = h} f) n d K us b q =
      run-arguments n (ts ++ us) d K (Unopened-arguments f us)
      ∙ run-follows f n 0 (d + 0) 0 K us Arguments (omega arith) (arguments_parts Arguments) (Stops-arguments us)
      ∙ ap (λ x. run n us (Have e x K)) (omega arith)

  pub run-follows : {r : Rest} {ts : List Token} {e : Tree} {h : ℕ} → Follows r ts e h → (n m d c : ℕ) (K : List Frame) (us : List Token) (s0 : Phrase) →
      d + h ≤ n → Parts s0 r → Stops s0 us → run n (ts ++ us) (Next r m d c K) ≡ run n us (Have e (max m h + c) K)
  run-follows (ended {e = e}) n m d c K us s0 w p q = run-done n us e m d c K ∙ ap (λ x. run n us (Have e (x + c) K)) (omega arith)
  run-follows (taken {w = v} {t = t} {r = r} {ts = ts} i f) n m d c K us s0 w p q =
      run-word n t (ts ++ us) v r m d c K i ∙ run-follows f n m d c K us s0 w p q
  run-follows (chosen {w = v} {t = t} {r = r} {q = o} {ts = ts} i f) n m d c K us s0 w p q =
      run-chosen n t (ts ++ us) v r o m d c K i ∙ run-follows f n m d c K us s0 w (p.1 t.start) q
  run-follows (left_out {w = v} {r = r} {q = o} {ts = ts} f) n m d c K us s0 w p q =
      run-left_out n (ts ++ us) v r o m d c K (Follows-bars f s0 v us p.0 q) ∙ run-follows f n m d c K us s0 w p.2 q
  run-follows (named {t = t} {x = x} {f = g} {ts = ts} i f) n m d c K us s0 w p q =
      run-name n t (ts ++ us) x g m d c K i ∙ run-follows f n m d c K us s0 w (p x t.start) q
  run-follows (kinded {t = t} {k = k} {f = g} {ts = ts} i f) n m d c K us s0 w p q =
      run-kind n t (ts ++ us) k g m d c K i ∙ run-follows f n m d c K us s0 w (p k) q
  run-follows (given {s = s} {f = g} {us = xs} {ts = ts} {a = a} {e = e} {m = i} {n = j} x f) n m d c K us s0 w p q =
      let stops = Follows-stops f s0 s us (p a).0 q in
      rw (append_assoc xs ts us)
      (run-part n (xs ++ (ts ++ us)) s g m d c K
      ∙ run-derives x n d (Inside g m d c ∷ K) (ts ++ us) (omega arith) (Stops-inside s (ts ++ us) stops)
      ∙ run-after n (ts ++ us) s a i d (Inside g m d c ∷ K) stops
      ∙ run-inside n (ts ++ us) a i g m d c K
      ∙ run-follows f n (max m i) d c K us s0 (omega arith) (p a).1 q
      ∙ ap (λ x. run n us (Have e x K)) (max-assoc m i j c))
  run-follows (measured {s = s} {f = g} {us = xs} {ts = ts} {a = a} {e = e} {m = i} {n = j} x f) n m d c K us s0 w p q =
      let stops = Follows-stops f s0 s us (p a i).0 q in
      rw (append_assoc xs ts us)
      (run-sized n (xs ++ (ts ++ us)) s g m d c K
      ∙ run-derives x n d (Sizing g m d c ∷ K) (ts ++ us) (omega arith) (Stops-inside s (ts ++ us) stops)
      ∙ run-after n (ts ++ us) s a i d (Sizing g m d c ∷ K) stops
      ∙ run-sizing n (ts ++ us) a i g m d c K
      ∙ run-follows f n (max m i) d c K us s0 (omega arith) (p a i).1 q
      ∙ ap (λ x. run n us (Have e x K)) (max-assoc m i j c))
  run-follows (lifted {m = j} {w = v} {t = t} {r = r} {q = o} {ts = ts} {e = e} {h = h} i f) n m d c K us s0 w p q =
      run-lifted n t (ts ++ us) j v r o m d c K i (omega arith)
      ∙ run-follows f n (max m (j + 1)) d c K us s0 (omega arith) (p.1 t.start) q
      ∙ ap (λ x. run n us (Have e x K)) (max-assoc m (j + 1) h c)
  run-follows (unlifted {m = j} {w = v} {r = r} {q = o} {ts = ts} f) n m d c K us s0 w p q =
      run-unlifted n (ts ++ us) j v r o m d c K (Follows-bars f s0 v us p.0 q) ∙ run-follows f n m d c K us s0 w p.2 q

-- where a definition can come, it is wanted at once
run-begin : (n : ℕ) (t : Token) (ts : List Token) (ds : List Tree) (e : Tree) → run n (t ∷ ts) (Want Definition 0 (Outer ds ∷ [])) ≡ Accepted e →
    run n (t ∷ ts) (Begin ds) ≡ Accepted e
unfolding run
run-begin n t ts ds e h = begun (wants t Definition 0 (Outer ds ∷ [])) h
  where
    begun : (m : Option Move) → pick m (λ m. cond (leb m.need n) (run n ts m.next) (Refused true t.start)) (Refused false t.start) ≡ Accepted e →
        pick (pick m (λ m. Some m) (ends t.kind (ahead ds none))) (λ m. cond (leb m.need n) (run n ts m.next) (Refused true t.start)) (Refused false t.start)
        ≡ Accepted e
    begun None q = cc
    begun (Some m) q = q

-- the same, of any tokens
run-begun : (n : ℕ) (ts : List Token) (ds : List Tree) (e : Tree) → run n ts (Want Definition 0 (Outer ds ∷ [])) ≡ Accepted e → run n ts (Begin ds) ≡ Accepted e
unfolding run
run-begun n [] ds e h = cc
run-begun n (t ∷ ts) ds e h = run-begin n t ts ds e h

-- a tree put behind others
pub ahead-append : (ds : List Tree) (d e : Tree) → ahead (ds ++ d ∷ []) e ≡ ahead ds (more d e)
ahead-append [] d e = refl
ahead-append (a ∷ ds) d e = ap (λ b. more a b) (ahead-append ds d e)

-- behind definitions a program is accepted within its height
run-defined : {ts : List Token} {e : Tree} {h : ℕ} → Program ts e h → (n : ℕ) → h ≤ n → (ds : List Tree) → run n ts (Begin ds) ≡ Accepted (ahead ds e)
unfolding run
run-defined (empty {t = t} q) n w ds = rw (q, leb-zero n) refl
run-defined (defined {us = us} {ts = ts} {a = a} {e = e} {m = m} x p) n w ds =
    run-begun n (us ++ ts) ds (ahead ds (more a e))
    (run-derives x n 0 (Outer ds ∷ []) ts (omega arith) tt ∙ run-outer n ts a m ds ∙ run-defined p n (omega arith) (ds ++ a ∷ []) ∙
    ap Accepted (ahead-append ds a e))

-- a program is accepted within its height
pub run-program : {ts : List Token} {e : Tree} {h : ℕ} → Program ts e h → (n : ℕ) → h ≤ n → run n ts (Begin []) ≡ Accepted e
run-program p n w = run-defined p n w []

-- tokens that are accepted have one tree
pub one_tree : (ts : List Token) (a b : Tree) → AcceptsTree ts a → AcceptsTree ts b → a ≡ b
one_tree ts a b h k =
    let same : Accepted a ≡ Accepted b = sym (run-program h.derives 200 h.fits) ∙ run-program k.derives 200 k.fits in
    cc
