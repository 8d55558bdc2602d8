-- How the readers' runs are put together in the heading of a definition, parameter by parameter.
use Rattle.std.proofs.Common.{◌≡◌, ℕ, inl, inr, Some, None, List, [], ◌∷◌, ◌++◌, length, refl, sym, ap, ◌∙◌, arith}
use Rattle.id_text.specs.declared.token.Token.{Token}
use Rattle.id_text.specs.declared.token.TokenKind.{TokenKind}
use Rattle.id_text.specs.declared.token.TokenKind.TheVariants.{Key, Name, Sign, End}
use Rattle.id_text.specs.declared.token.Symbol.TheVariants.{LeftParen, RightParen, Comma, Colon, Becomes}
use Rattle.id_value.specs.declared.Kind.{Kind}
use Rattle.id_value.specs.declared.Kind.TheVariants as kind
use Rattle.id_text.specs.declared.token.Keyword.TheVariants.{Array}
use Rattle.id_grammar.specs.declared.tokens.Word.TheVariants as the
use Rattle.id_grammar.specs.declared.tree.Param.{Param}
use Rattle.id_grammar.specs.declared.tree.TreeError.{TreeError}
use Rattle.id_grammar.specs.declared.tree.TreeError.TheVariants.{Unexpected}
use Rattle.id_grammar.specs.Tree.{Tree, param, params_tree, none, more}
use Rattle.id_grammar.specs.Grammar.{Definition, Parameters, MoreParameters, Rest, done, name, deepened, typed, part, sign}
use Rattle.id_grammar.specs.Grammar.{kind_named, parameter_of, Opens, no_parameters, first_parameter, last_parameter}
use Rattle.id_grammar.specs.Grammar.{next_parameter}
use Rattle.id_grammar.specs.Machine.{opening, Frame, Inside, Want, Have, Next, name_in, run}
use Rattle.id_grammar.specs.Readers.{first_kind, first_start, IsBehind, Leads, Fails, Takes, Misses, BeginsWithName}
use Rattle.id_grammar.specs.Readers.{LacksName, Types, Untypes, Declares, Undeclares, listed, Counts, heading, Heads}
use Rattle.id_grammar.specs.Readers.{Beheads}
use Rattle.id_grammar.proofs.RunLemmas.{run-none, run-kind, run-chosen, run-left_out, run-done, run-part, run-inside}
use Rattle.id_grammar.proofs.ReaderLemmas.{EndsBy-at, At, At-opens, At-name, Fails-name, Leads-done, first_of, no_word}

-- what names a kind is no end
pub kind_named-begins : {k : TokenKind} {x : Kind} → kind_named k ≡ Some x → k ≡ End → ⊥
kind_named-begins {k = End} q e = cc
kind_named-begins {k = _} q e = cc

-- behind its first word a kind is there, where no second word comes
settled : (f : Kind → Rest) (k : Kind) (vs : List Token) → (k ≡ kind.Array → first_kind vs ≡ Key Array → ⊥) → (h d c : ℕ) (K : List Frame) →
    run 200 vs (Next (deepened f k) h d c K) ≡ run 200 vs (Next (f k) h d c K)
settled f kind.Int vs g h d c K = refl
settled f kind.Bool vs g h d c K = refl
settled f kind.Array vs g h d c K = run-left_out 200 vs (the.Key Array) (λ _. f kind.Nested) (f kind.Array) h d c K (no_word (the.Key Array) vs (g refl))
settled f kind.Nested vs g h d c K = refl

-- a colon and a kind
module _ {ts us : List Token} (colon : Takes (sign Colon) ts us) where
  pub Types-done : {vs : List Token} {t : Token} (k : Kind) → us ≡ t ∷ vs → kind_named (first_kind us) ≡ Some k →
      (k ≡ kind.Array → first_kind vs ≡ Key Array → ⊥) → Types ts vs k
  Types-done {vs = vs} {t = t} k e q g = record {
    comes = λ f h d c K.
        let i : kind_named t.kind ≡ Some k = ap (λ xs. kind_named (first_kind xs)) (sym e) ∙ q in
        colon.comes (typed f) h d c K ∙ rw e (run-kind 200 t vs k (deepened f) h d c K i) ∙ settled f k vs g h d c K;
  }

  -- the word `array` twice
  pub Types-deeper : {vs ws : List Token} {t u : Token} → us ≡ t ∷ vs → kind_named (first_kind us) ≡ Some kind.Array →
      vs ≡ u ∷ ws → first_kind vs ≡ Key Array → Types ts ws kind.Nested
  Types-deeper {vs = vs} {ws = ws} {t = t} {u = u} e q b r = record {
    comes = λ f h d c K.
        let i : kind_named t.kind ≡ Some kind.Array = ap (λ xs. kind_named (first_kind xs)) (sym e) ∙ q in
        let deeper : run 200 vs (Next (deepened f kind.Array) h d c K) ≡ run 200 ws (Next (f kind.Nested) h d c K) =
        rw b (run-chosen 200 u ws (the.Key Array) (λ _. f kind.Nested) (f kind.Array) h d c K (first_of b r)) in
        colon.comes (typed f) h d c K ∙ rw e (run-kind 200 t vs kind.Array (deepened f) h d c K i) ∙ deeper;
  }

  pub Untypes-kind : {vs : List Token} {t : Token} (x : TreeError) → us ≡ t ∷ vs → x ≡ Unexpected (first_start us) → kind_named (first_kind us) ≡ None →
      Untypes ts x
  Untypes-kind {vs = vs} {t = t} x e j q = record {
    fails = λ f h d c K.
        let i : kind_named t.kind ≡ None = ap (λ xs. kind_named (first_kind xs)) (sym e) ∙ q in
        EndsBy-at x (colon.comes (typed f) h d c K) (rw (j, e) (run-none 200 t vs (Next (typed f) h d c K) (rw i refl)));
  }

pub Untypes-colon : {ts : List Token} {x : TreeError} → Misses (sign Colon) ts x → Untypes ts x
Untypes-colon q = record { fails = λ f h d c K. q.fails (typed f) h d c K }

-- a parameter
pub Declares-done : {ts us vs : List Token} (x : Param) → BeginsWithName ts x.name x.place us → Types us vs x.kind → Declares ts vs x
Declares-done x b q = record { behind = _; begins = b; types = q }

pub Undeclares-name : {ts : List Token} {x : TreeError} → LacksName ts x → Undeclares ts x
Undeclares-name q = inl q

pub Undeclares-kind : {ts us : List Token} {n : List ℕ} {p : ℕ} {x : TreeError} → BeginsWithName ts n p us → Untypes us x → Undeclares ts x
Undeclares-kind b q = inr (record { name = _; place = _; behind = _; begins = b; untypes = q })

-- a parameter before those that come behind
abbrev before : Param → Tree → Rest
before x a = done (more (param x.name x.kind x.place) a)

-- behind a name the rest of a parameter comes
run-typed : {ts us : List Token} (x : Param) → Types ts us x.kind → (K : List Frame) →
    run 200 ts (Next (parameter_of x.name x.place) 0 0 0 K) ≡ run 200 us (Want MoreParameters 0 (Inside (before x) 0 0 0 ∷ K))
run-typed {us = us} x q K =
    q.comes (λ k. part MoreParameters (λ a. done (more (param x.name k x.place) a))) 0 0 0 K ∙ run-part 200 us MoreParameters (before x) 0 0 0 K

-- where the first parameter is wanted, and behind a comma
opens_first : {k : TokenKind} {p : ℕ} (x : List ℕ) → k ≡ Name x → Opens Parameters k p (parameter_of x p)
opens_first x q = rw q first_parameter

opens_next : {k : TokenKind} {p : ℕ} → k ≡ Sign Comma → Opens MoreParameters k p (name parameter_of)
opens_next q = rw q next_parameter

At-first : {ts us : List Token} {x : List ℕ} {p : ℕ} → BeginsWithName ts x p us → At ts Parameters 0 us (parameter_of x p) 0
At-first {x = x} q = rw (← q.place) (At-opens q.whole (opens_first x (ap first_kind q.whole ∙ q.kind)) 0 (omega arith))

At-comma : {ts us : List Token} {t : Token} → ts ≡ t ∷ us → first_kind ts ≡ Sign Comma → At ts MoreParameters 0 us (name parameter_of) 0
At-comma e q = At-opens e (opens_next q) 0 (omega arith)

-- a parameter that has come is put before those behind it
folds_before : (x : Param) (K : List Frame) (vs : List Token) (a : Tree) →
    run 200 vs (Have a 0 (Inside (before x) 0 0 0 ∷ K)) ≡ run 200 vs (Have (more (param x.name x.kind x.place) a) 0 K)
folds_before x K vs a = run-inside 200 vs a 0 (before x) 0 0 0 K ∙ run-done 200 vs (more (param x.name x.kind x.place) a) 0 0 0 K

pub Counts-first : {ts us : List Token} (x : Param) → Declares ts us x → Counts ts us (x ∷ [])
Counts-first x q = record {
  lists = λ K. record {
    stack = Inside (before x) 0 0 0 ∷ K;
    comes = (At-first q.begins).comes K ∙ run-typed x q.types K;
    folds = λ vs a. folds_before x K vs a;
  };
}

listed-append : (ps : List Param) (x : Param) (a : Tree) → listed (ps ++ x ∷ []) a ≡ listed ps (more (param x.name x.kind x.place) a)
listed-append [] x a = refl
listed-append (p ∷ ps) x a = ap (λ b. more (param p.name p.kind p.place) b) (listed-append ps x a)

-- one parameter more
pub Counts-add : {ts us ws vs : List Token} {t : Token} {ps : List Param} (x : Param) → Counts ts us ps → us ≡ t ∷ ws → first_kind us ≡ Sign Comma →
    Declares ws vs x → Counts ts vs (ps ++ x ∷ [])
Counts-add {ps = ps} x g e i q = record {
  lists = λ K.
      let l = g.lists K in
      record {
        stack = Inside (before x) 0 0 0 ∷ l.stack;
        comes = l.comes ∙ (At-name (At-comma e i) q.begins).comes l.stack ∙ run-typed x q.types l.stack;
        folds = λ us a.
            folds_before x l.stack us a ∙ l.folds us (more (param x.name x.kind x.place) a)
            ∙ ap (λ b. run 200 us (Have b 0 K)) (sym (listed-append ps x a));
      };
}

listed-none : (ps : List Param) → listed ps none ≡ params_tree ps
listed-none [] = refl
listed-none (p ∷ ps) = ap (λ b. more (param p.name p.kind p.place) b) (listed-none ps)

-- what is behind what is behind
pub IsBehind-more : {ts us vs ws : List Token} {t : Token} → IsBehind us ts → us ≡ t ∷ ws → IsBehind vs ws → IsBehind vs ts
IsBehind-more p e q = let l = ap length e in record { shorter = omega (arith, p.shorter, q.shorter, l) }

-- no parameter comes
pub Leads-none : {ts us : List Token} {t : Token} → ts ≡ t ∷ us → t.kind ≡ Sign RightParen → Leads ts Parameters 0 us none 0
Leads-none e q = Leads-done (At-opens e (opens (ap first_kind e ∙ q)) 0 (omega arith))
  where
    opens : {k : TokenKind} {p : ℕ} → k ≡ Sign RightParen → Opens Parameters k p (done none)
    opens q = rw q no_parameters

-- behind the last one comes the bracket
module _ {ts us vs : List Token} {t : Token} {ps : List Param} (g : Counts ts us ps) (e : us ≡ t ∷ vs) where
  closing : {k : TokenKind} {p : ℕ} → k ≡ Sign RightParen → Opens MoreParameters k p (done none)
  closing q = rw q last_parameter

  pub Leads-listed : t.kind ≡ Sign RightParen → Leads ts Parameters 0 vs (params_tree ps) 0
  Leads-listed q = record {
    comes = λ K.
        let l = g.lists K in
        l.comes ∙ (Leads-done (At-opens e (closing (ap first_kind e ∙ q)) 0 (omega arith))).comes l.stack ∙ l.folds vs none
        ∙ ap (λ b. run 200 vs (Have b 0 K)) (listed-none ps);
  }

  not_more : (k : TokenKind) (p : ℕ) → (k ≡ Sign Comma → ⊥) → (k ≡ Sign RightParen → ⊥) → opening MoreParameters k p ≡ None
  not_more (Sign Comma) p f h = absurd (f refl)
  not_more (Sign RightParen) p f h = absurd (h refl)
  not_more _ p f h = refl

  pub Fails-listed : (x : TreeError) → x ≡ Unexpected (first_start us) → (first_kind us ≡ Sign Comma → ⊥) → (t.kind ≡ Sign RightParen → ⊥) →
      Fails ts Parameters 0 x
  Fails-listed x j f h = record {
    fails = λ K.
        let l = g.lists K in
        let i = not_more t.kind t.start (λ q. f (ap first_kind e ∙ q)) h in
        EndsBy-at x l.comes (rw (j, e) (run-none 200 t vs (Want MoreParameters 0 l.stack) (rw i refl)));
  }

  -- behind a comma no parameter comes
  pub Fails-next : {x : TreeError} → first_kind us ≡ Sign Comma → Undeclares vs x → Fails ts Parameters 0 x
  Fails-next {x = x} i (inl q) = record { fails = λ K. let l = g.lists K in EndsBy-at x l.comes ((Fails-name (At-comma e i) q).fails l.stack) }
  Fails-next {x = x} i (inr q) = record {
    fails = λ K.
        let l = g.lists K in
        EndsBy-at x (l.comes ∙ (At-name (At-comma e i) q.begins).comes l.stack)
        (q.untypes.fails (λ k. part MoreParameters (λ a. done (more (param q.name k q.place) a))) 0 0 0 l.stack);
  }

-- no bracket comes, and no first parameter
not_first : (k : TokenKind) (p : ℕ) → name_in k ≡ None → (k ≡ Sign RightParen → ⊥) → opening Parameters k p ≡ None
not_first (Name x) p q f = cc
not_first (Sign RightParen) p q f = absurd (f refl)
not_first _ p q f = refl

pub Fails-first : {ts : List Token} {x : TreeError} → (first_kind ts ≡ Sign RightParen → ⊥) → Undeclares ts x → Fails ts Parameters 0 x
Fails-first f (inl (inl e)) = rw e (record { fails = λ K. tt })
Fails-first {ts = ts} f (inl (inr q)) = record {
  fails = λ K.
      let i = not_first q.token.kind q.token.start q.kind (λ e. f (ap first_kind q.whole ∙ e)) in
      rw (q.error, q.whole) (run-none 200 q.token q.behind (Want Parameters 0 K) (rw i refl));
}
Fails-first {x = x} f (inr q) = record {
  fails = λ K.
      EndsBy-at x ((At-first q.begins).comes K) (q.untypes.fails (λ k. part MoreParameters (λ a. done (more (param q.name k q.place) a))) 0 0 0 K);
}

-- Headings.
module _ {ts us : List Token} (opens : Takes (sign LeftParen) ts us) where
  pub Beheads-params : {x : TreeError} → Fails us Parameters 0 x → Beheads ts x
  Beheads-params {x = x} q = record {
    fails = λ f K.
        let g : Tree → Rest = λ a. sign Colon (typed (λ k. sign Becomes (f a k))) in
        EndsBy-at x (opens.comes (part Parameters g) 0 0 0 K ∙ run-part 200 us Parameters g 0 0 0 K) (q.fails (Inside g 0 0 0 ∷ K));
  }

  module _ {vs : List Token} {a : Tree} (leads : Leads us Parameters 0 vs a 0) where
    heading_comes : (f : Tree → Kind → Rest) (K : List Frame) →
        run 200 ts (Next (heading f) 0 0 0 K) ≡ run 200 vs (Next (sign Colon (typed (λ k. sign Becomes (f a k)))) 0 0 0 K)
    heading_comes f K =
        let g : Tree → Rest = λ a. sign Colon (typed (λ k. sign Becomes (f a k))) in
        opens.comes (part Parameters g) 0 0 0 K ∙ run-part 200 us Parameters g 0 0 0 K ∙ leads.comes (Inside g 0 0 0 ∷ K) ∙ run-inside 200 vs a 0 g 0 0 0 K

    pub Beheads-kind : {x : TreeError} → Untypes vs x → Beheads ts x
    Beheads-kind {x = x} q = record { fails = λ f K. EndsBy-at x (heading_comes f K) (q.fails (λ k. sign Becomes (f a k)) 0 0 0 K) }

    module _ {ws : List Token} {k : Kind} (types : Types vs ws k) where
      pub Beheads-sign : {x : TreeError} → Misses (sign Becomes) ws x → Beheads ts x
      Beheads-sign {x = x} q = record {
        fails = λ f K. EndsBy-at x (heading_comes f K ∙ types.comes (λ k. sign Becomes (f a k)) 0 0 0 K)
            (q.fails (f a k) 0 0 0 K);
      }

      pub Heads-done : {xs : List Token} → Takes (sign Becomes) ws xs → Heads ts xs a k
      Heads-done q = record { comes = λ f K. heading_comes f K ∙ types.comes (λ k. sign Becomes (f a k)) 0 0 0 K ∙ q.comes (f a k) 0 0 0 K }

pub Beheads-paren : {ts : List Token} {x : TreeError} → Misses (sign LeftParen) ts x → Beheads ts x
Beheads-paren q = record { fails = λ f K. q.fails (part Parameters (λ a. sign Colon (typed (λ k. sign Becomes (f a k))))) 0 0 0 K }

-- a definition whose heading has come
pub At-heading : {ts us vs : List Token} {a : Tree} {k : Kind} (f : Tree → Kind → Rest) → At ts Definition 0 us (heading f) 0 → Heads us vs a k →
    At ts Definition 0 vs (f a k) 0
At-heading f p q = record { comes = λ K. p.comes K ∙ q.comes f K }

pub Fails-heading : {ts us : List Token} {x : TreeError} (f : Tree → Kind → Rest) → At ts Definition 0 us (heading f) 0 → Beheads us x → Fails ts Definition 0 x
Fails-heading {x = x} f p q = record { fails = λ K. EndsBy-at x (p.comes K) (q.fails f K) }
