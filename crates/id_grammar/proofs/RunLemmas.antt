-- Runs of the machine, step by step.
use Rattle.std.proofs.Common.{◌≡◌, ℕ, ◌+◌, ◌≤◌, ◌<◌, max, true, false, Some, None, List, [], ◌∷◌, ◌++◌, refl, zero-le, le-leb}
use Rattle.std.proofs.lemmas.Bool.{lt-leb}
use Rattle.id_text.specs.declared.token.Token.{Token}
use Rattle.id_text.specs.declared.token.TokenKind.{TokenKind}
use Rattle.id_text.specs.declared.token.TokenKind.TheVariants.{Name, Sign}
use Rattle.id_text.specs.declared.token.Symbol.TheVariants.{LeftBracket}
use Rattle.id_grammar.specs.declared.phrase.Level.{Level}
use Rattle.id_grammar.specs.declared.phrase.Level.TheVariants as level
use Rattle.id_grammar.specs.declared.tokens.Word.{Word}
use Rattle.id_grammar.specs.declared.tokens.Word.TheVariants as the
use Rattle.id_value.specs.declared.Kind.{Kind}
use Rattle.id_value.specs.declared.BinaryOp.{BinaryOp}
use Rattle.id_grammar.specs.Tree.{Tree, binary}
use Rattle.id_grammar.specs.Grammar.{Phrase, Definition, Parameters, MoreParameters, Expression, Grouped, Negation}
use Rattle.id_grammar.specs.Grammar.{Unary, Postfix, Atom, Arguments, MoreArguments, Tail, kind_of, fetch_of}
use Rattle.id_grammar.specs.Grammar.{arguments_of, Rest, done, word, either, name, of_kind, part, sized, raised, kind_named, Opens}
use Rattle.id_grammar.specs.Grammar.{operand, operator_of, own_height}
use Rattle.id_grammar.specs.Machine.{opening, room, Frame, Left, Right, Target, Inside, Sizing, Outer, again, State, Begin, Want}
use Rattle.id_grammar.specs.Machine.{Have, Next, Move, is_word, takes, Refused, run}
use Rattle.id_grammar.proofs.RowLemmas.{opening-from_opens, is_word-same}

module _ (n : ℕ) (t : Token) (ts : List Token) where
  -- a token that is taken
  pub run-step : (S : State) (m : Move) → takes t S ≡ Some m → m.need ≤ n → run n (t ∷ ts) S ≡ run n ts m.next
  unfolding run
  run-step S m q h = let b = le-leb m.need n h in rw (q, b) refl

  -- a token that takes too much nesting
  pub run-deep : (S : State) (m : Move) → takes t S ≡ Some m → n < m.need → run n (t ∷ ts) S ≡ Refused true t.start
  unfolding run
  run-deep S m q h = let b = lt-leb m.need n h in rw (q, b) refl

  -- a token that nothing takes
  pub run-none : (S : State) → takes t S ≡ None → run n (t ∷ ts) S ≡ Refused false t.start
  unfolding run
  run-none S q = rw q refl

  -- a fixed token
  pub run-word : (w : Word) (r : Rest) (h d c : ℕ) (K : List Frame) → t.kind ≡ kind_of w → run n (t ∷ ts) (Next (word w r) h d c K) ≡ run n ts (Next r h d c K)
  run-word w r h d c K q = let b = is_word-same w t.kind q in
      run-step (Next (word w r) h d c K) (record { need = 0; next = Next r h d c K }) (rw b refl) zero-le

  -- a word that may be left out
  pub run-chosen : (w : Word) (r : ℕ → Rest) (o : Rest) (h d c : ℕ) (K : List Frame) → t.kind ≡ kind_of w →
      run n (t ∷ ts) (Next (either w r o) h d c K) ≡ run n ts (Next (r t.start) h d c K)
  run-chosen w r o h d c K q =
      let b = is_word-same w t.kind q in
      run-step (Next (either w r o) h d c K) (record { need = 0; next = Next (r t.start) h d c K }) (rw b refl) zero-le

  -- a name
  pub run-name : (x : List ℕ) (f : List ℕ → ℕ → Rest) (h d c : ℕ) (K : List Frame) → t.kind ≡ Name x →
      run n (t ∷ ts) (Next (name f) h d c K) ≡ run n ts (Next (f x t.start) h d c K)
  run-name x f h d c K q = run-step (Next (name f) h d c K) (record { need = 0; next = Next (f x t.start) h d c K }) (rw q refl) zero-le

  -- a kind
  pub run-kind : (k : Kind) (f : Kind → Rest) (h d c : ℕ) (K : List Frame) → kind_named t.kind ≡ Some k →
      run n (t ∷ ts) (Next (of_kind f) h d c K) ≡ run n ts (Next (f k) h d c K)
  run-kind k f h d c K q = run-step (Next (of_kind f) h d c K) (record { need = 0; next = Next (f k) h d c K }) (rw q refl) zero-le

  -- a token that begins a production
  pub run-opens : (s : Phrase) (r : Rest) (d : ℕ) (K : List Frame) → Opens s t.kind t.start r → d + own_height s + room r ≤ n →
      run n (t ∷ ts) (Want s d K) ≡ run n ts (Next r 0 (d + own_height s) (own_height s) K)
  run-opens Definition r d K o h = run-step (Want Definition d K) _ (rw (opening-from_opens o) refl) h
  run-opens Parameters r d K o h = run-step (Want Parameters d K) _ (rw (opening-from_opens o) refl) h
  run-opens MoreParameters r d K o h = run-step (Want MoreParameters d K) _ (rw (opening-from_opens o) refl) h
  run-opens Expression r d K o h = run-step (Want Expression d K) _ (rw (opening-from_opens o) refl) h
  run-opens Negation r d K o h = run-step (Want Negation d K) _ (rw (opening-from_opens o) refl) h
  run-opens Unary r d K o h = run-step (Want Unary d K) _ (rw (opening-from_opens o) refl) h
  run-opens Postfix r d K o h = elim o [ ]
  run-opens Atom r d K o h = run-step (Want Atom d K) _ (rw (opening-from_opens o) refl) h
  run-opens Arguments r d K o h = run-step (Want Arguments d K) _ (rw (opening-from_opens o) refl) h
  run-opens MoreArguments r d K o h = run-step (Want MoreArguments d K) _ (rw (opening-from_opens o) refl) h
  run-opens (Tail j) r d K o h = run-step (Want (Tail j) d K) _ (rw (opening-from_opens o) refl) h
  run-opens (Grouped l) r d K o h = elim o [ ]

  pub run-opens-deep : (s : Phrase) (r : Rest) (d : ℕ) (K : List Frame) → Opens s t.kind t.start r → n < d + own_height s + room r →
      run n (t ∷ ts) (Want s d K) ≡ Refused true t.start
  run-opens-deep Definition r d K o h = run-deep (Want Definition d K) (record { need = d + 0 + room r; next = Next r 0 (d + 0) 0 K })
      (rw (opening-from_opens o) refl) h
  run-opens-deep Parameters r d K o h = run-deep (Want Parameters d K) (record { need = d + 0 + room r; next = Next r 0 (d + 0) 0 K })
      (rw (opening-from_opens o) refl) h
  run-opens-deep MoreParameters r d K o h = run-deep (Want MoreParameters d K) (record { need = d + 0 + room r; next = Next r 0 (d + 0) 0 K })
      (rw (opening-from_opens o) refl) h
  run-opens-deep Expression r d K o h =
      run-deep (Want Expression d K) (record { need = d + 1 + room r; next = Next r 0 (d + 1) 1 K }) (rw (opening-from_opens o) refl) h
  run-opens-deep Negation r d K o h = run-deep (Want Negation d K) (record { need = d + 1 + room r; next = Next r 0 (d + 1) 1 K })
      (rw (opening-from_opens o) refl) h
  run-opens-deep Unary r d K o h = run-deep (Want Unary d K) (record { need = d + 1 + room r; next = Next r 0 (d + 1) 1 K }) (rw (opening-from_opens o) refl) h
  run-opens-deep Postfix r d K o h = elim o [ ]
  run-opens-deep Atom r d K o h = run-deep (Want Atom d K) (record { need = d + 1 + room r; next = Next r 0 (d + 1) 1 K }) (rw (opening-from_opens o) refl) h
  run-opens-deep Arguments r d K o h = run-deep (Want Arguments d K) (record { need = d + 0 + room r; next = Next r 0 (d + 0) 0 K })
      (rw (opening-from_opens o) refl) h
  run-opens-deep MoreArguments r d K o h = run-deep (Want MoreArguments d K) (record { need = d + 0 + room r; next = Next r 0 (d + 0) 0 K })
      (rw (opening-from_opens o) refl) h
  run-opens-deep (Tail j) r d K o h = run-deep (Want (Tail j) d K) (record { need = d + 0 + room r; next = Next r 0 (d + 0) 0 K })
      (rw (opening-from_opens o) refl) h
  run-opens-deep (Grouped l) r d K o h = elim o [ ]

  -- an operator of a level
  pub run-operator : (l : Level) (o : BinaryOp) (a : Tree) (m d : ℕ) (K : List Frame) → operator_of l t.kind ≡ Some o → d + m + 1 ≤ n →
      run n (t ∷ ts) (Have a m (Left l d ∷ K)) ≡ run n ts (Want (operand l) (d + 1) (Right l o a m t.start d ∷ K))
  run-operator l o a m d K q h = run-step (Have a m (Left l d ∷ K))
      (record { need = d + m + 1; next = Want (operand l) (d + 1) (Right l o a m t.start d ∷ K) }) (rw q refl) h

  -- the bracket of a fetch
  run-bracket : (a : Tree) (m d : ℕ) (K : List Frame) → t.kind ≡ Sign LeftBracket →
      takes t (Have a m (Target d ∷ K)) ≡ Some (record { need = d + m + 1; next = Next (fetch_of a t.start) m (d + 1) 1 (Target d ∷ K) })
  run-bracket a m d K q = let b = is_word-same (the.Sign LeftBracket) t.kind q in rw b refl

  pub run-fetch : (a : Tree) (m d : ℕ) (K : List Frame) → t.kind ≡ Sign LeftBracket → d + m + 1 ≤ n →
      run n (t ∷ ts) (Have a m (Target d ∷ K)) ≡ run n ts (Next (fetch_of a t.start) m (d + 1) 1 (Target d ∷ K))
  run-fetch a m d K q h = run-step (Have a m (Target d ∷ K)) _ (run-bracket a m d K q) h

  pub run-fetch-deep : (a : Tree) (m d : ℕ) (K : List Frame) → t.kind ≡ Sign LeftBracket → n < d + m + 1 →
      run n (t ∷ ts) (Have a m (Target d ∷ K)) ≡ Refused true t.start
  run-fetch-deep a m d K q h = run-deep (Have a m (Target d ∷ K)) _ (run-bracket a m d K q) h

  -- a word by which what stands before it becomes a part of an expression
  pub run-lifted : (j : ℕ) (w : Word) (r : ℕ → Rest) (o : Rest) (h d c : ℕ) (K : List Frame) → t.kind ≡ kind_of w → d + j + 1 ≤ n →
      run n (t ∷ ts) (Next (raised j w r o) h d c K) ≡ run n ts (Next (r t.start) (max h (j + 1)) d c K)
  run-lifted j w r o h d c K q k =
      let b = is_word-same w t.kind q in
      run-step (Next (raised j w r o) h d c K) (record { need = d + j + 1; next = Next (r t.start) (max h (j + 1)) d c K }) (rw b refl) k

  pub run-lifted-deep : (j : ℕ) (w : Word) (r : ℕ → Rest) (o : Rest) (h d c : ℕ) (K : List Frame) → t.kind ≡ kind_of w → n < d + j + 1 →
      run n (t ∷ ts) (Next (raised j w r o) h d c K) ≡ Refused true t.start
  run-lifted-deep j w r o h d c K q k =
      let b = is_word-same w t.kind q in
      run-deep (Next (raised j w r o) h d c K) (record { need = d + j + 1; next = Next (r t.start) (max h (j + 1)) d c K }) (rw b refl) k

-- What takes no token.
pub run-done : (n : ℕ) (ts : List Token) (e : Tree) (h d c : ℕ) (K : List Frame) → run n ts (Next (done e) h d c K) ≡ run n ts (Have e (h + c) K)
unfolding run
run-done n [] e h d c K = refl
run-done n (t ∷ ts) e h d c K = refl

pub run-part : (n : ℕ) (ts : List Token) (s : Phrase) (f : Tree → Rest) (h d c : ℕ) (K : List Frame) →
    run n ts (Next (part s f) h d c K) ≡ run n ts (Want s d (Inside f h d c ∷ K))
unfolding run
run-part n [] s f h d c K = refl
run-part n (t ∷ ts) s f h d c K = refl

pub run-sized : (n : ℕ) (ts : List Token) (s : Phrase) (f : Tree → ℕ → Rest) (h d c : ℕ) (K : List Frame) →
    run n ts (Next (sized s f) h d c K) ≡ run n ts (Want s d (Sizing f h d c ∷ K))
unfolding run
run-sized n [] s f h d c K = refl
run-sized n (t ∷ ts) s f h d c K = refl

pub run-sizing : (n : ℕ) (ts : List Token) (e : Tree) (h : ℕ) (f : Tree → ℕ → Rest) (m d c : ℕ) (K : List Frame) →
    run n ts (Have e h (Sizing f m d c ∷ K)) ≡ run n ts (Next (f e h) (max m h) d c K)
unfolding run
run-sizing n [] e h f m d c K = refl
run-sizing n (t ∷ ts) e h f m d c K = refl

pub run-inside : (n : ℕ) (ts : List Token) (e : Tree) (h : ℕ) (f : Tree → Rest) (m d c : ℕ) (K : List Frame) →
    run n ts (Have e h (Inside f m d c ∷ K)) ≡ run n ts (Next (f e) (max m h) d c K)
unfolding run
run-inside n [] e h f m d c K = refl
run-inside n (t ∷ ts) e h f m d c K = refl

pub run-right : (n : ℕ) (ts : List Token) (b : Tree) (k : ℕ) (l : Level) (o : BinaryOp) (a : Tree) (m p d : ℕ) (K : List Frame) →
    run n ts (Have b k (Right l o a m p d ∷ K)) ≡ run n ts (Have (binary o a b p) (max m k + 1) (again l d K))
unfolding run
run-right n [] b k l o a m p d K = refl
run-right n (t ∷ ts) b k level.Or o a m p d K = refl
run-right n (t ∷ ts) b k level.And o a m p d K = refl
run-right n (t ∷ ts) b k level.Comparison o a m p d K = refl
run-right n (t ∷ ts) b k level.Sum o a m p d K = refl
run-right n (t ∷ ts) b k level.Product o a m p d K = refl

-- a definition that has come stands behind those before it
pub run-outer : (n : ℕ) (ts : List Token) (e : Tree) (h : ℕ) (ds : List Tree) → run n ts (Have e h (Outer ds ∷ [])) ≡ run n ts (Begin (ds ++ e ∷ []))
unfolding run
run-outer n [] e h ds = refl
run-outer n (t ∷ ts) e h ds = refl

pub run-level : (n : ℕ) (ts : List Token) (l : Level) (d : ℕ) (K : List Frame) → run n ts (Want (Grouped l) d K) ≡ run n ts (Want (operand l) d (Left l d ∷ K))
unfolding run
run-level n [] l d K = refl
run-level n (t ∷ ts) level.Or d K = refl
run-level n (t ∷ ts) level.And d K = refl
run-level n (t ∷ ts) level.Comparison d K = refl
run-level n (t ∷ ts) level.Sum d K = refl
run-level n (t ∷ ts) level.Product d K = refl

-- no production of the phrase begins the tokens
abbrev pub Unopened : Phrase → List Token → Type 0
Unopened s [] = Unit {0}
Unopened s (t ∷ ts) = opening s t.kind t.start ≡ None

-- without `if` operands of `or` are wanted
pub run-unconditional : (n : ℕ) (ts : List Token) (d : ℕ) (K : List Frame) → Unopened Expression ts →
    run n ts (Want Expression d K) ≡ run n ts (Want (Grouped level.Or) d K)
unfolding run
run-unconditional n [] d K q = refl
run-unconditional n (t ∷ ts) d K q = rw q refl

-- without `not` a comparison is wanted
pub run-plain : (n : ℕ) (ts : List Token) (d : ℕ) (K : List Frame) → Unopened Negation ts →
    run n ts (Want Negation d K) ≡ run n ts (Want (Grouped level.Comparison) d K)
unfolding run
run-plain n [] d K q = refl
run-plain n (t ∷ ts) d K q = rw q refl

-- without `-` an operand that may be a fetch is wanted
pub run-bare : (n : ℕ) (ts : List Token) (d : ℕ) (K : List Frame) → Unopened Unary ts → run n ts (Want Unary d K) ≡ run n ts (Want Postfix d K)
unfolding run
run-bare n [] d K q = refl
run-bare n (t ∷ ts) d K q = rw q refl

-- it begins with one that is none
pub run-postfix : (n : ℕ) (ts : List Token) (d : ℕ) (K : List Frame) → run n ts (Want Postfix d K) ≡ run n ts (Want Atom d (Target d ∷ K))
unfolding run
run-postfix n [] d K = refl
run-postfix n (t ∷ ts) d K = refl

-- the first token's kind is so
abbrev pub First : (TokenKind → Type 0) → List Token → Type 0
First P [] = Unit {0}
First P (t ∷ ts) = P t.kind

-- where the word is not, it is left out
pub run-left_out : (n : ℕ) (ts : List Token) (w : Word) (r : ℕ → Rest) (o : Rest) (h d c : ℕ) (K : List Frame) → First (λ k. is_word w k ≡ false) ts →
    run n ts (Next (either w r o) h d c K) ≡ run n ts (Next o h d c K)
unfolding run
run-left_out n [] w r o h d c K q = refl
run-left_out n (t ∷ ts) w r o h d c K q = rw q refl

pub run-unlifted : (n : ℕ) (ts : List Token) (j : ℕ) (w : Word) (r : ℕ → Rest) (o : Rest) (h d c : ℕ) (K : List Frame) → First (λ k. is_word w k ≡ false) ts →
    run n ts (Next (raised j w r o) h d c K) ≡ run n ts (Next o h d c K)
unfolding run
run-unlifted n [] j w r o h d c K q = refl
run-unlifted n (t ∷ ts) j w r o h d c K q = rw q refl

-- without the closing bracket an argument is wanted
pub run-arguments : (n : ℕ) (ts : List Token) (d : ℕ) (K : List Frame) → Unopened Arguments ts →
    run n ts (Want Arguments d K) ≡ run n ts (Next arguments_of 0 (d + 0) 0 K)
unfolding run
run-arguments n [] d K q = refl
run-arguments n (t ∷ ts) d K q = rw q refl

-- a level ends where no operator of it stands
pub run-left : (n : ℕ) (ts : List Token) (l : Level) (e : Tree) (h d : ℕ) (K : List Frame) → First (λ k. operator_of l k ≡ None) ts →
    run n ts (Have e h (Left l d ∷ K)) ≡ run n ts (Have e h K)
unfolding run
run-left n [] l e h d K q = refl
run-left n (t ∷ ts) l e h d K q = rw q refl

-- an operand ends where no bracket of a fetch stands
pub run-target : (n : ℕ) (ts : List Token) (e : Tree) (h d : ℕ) (K : List Frame) → First (λ k. is_word (the.Sign LeftBracket) k ≡ false) ts →
    run n ts (Have e h (Target d ∷ K)) ≡ run n ts (Have e h K)
unfolding run
run-target n [] e h d K q = refl
run-target n (t ∷ ts) e h d K q = rw q refl
