-- Whatever stands in the machine can be gone on to a program, by tokens whose starts rise from any number on.
use Rattle.std.proofs.Common.{◌≡◌, ℕ, ◌+◌, ◌≤◌, max, List, [], ◌∷◌, ◌++◌, pos, refl, sym, ap, ◌∙◌, subst, append_assoc, append-nil, arith, zero-le}
use Rattle.id_text.specs.Tokens.{Rises}
use Rattle.id_text.specs.declared.token.Token.{Token}
use Rattle.id_text.specs.declared.token.TokenKind.{TokenKind}
use Rattle.id_text.specs.declared.token.TokenKind.TheVariants.{Name, Number, Key, Sign, End}
use Rattle.id_text.specs.declared.token.Keyword.{Keyword}
use Rattle.id_text.specs.declared.token.Keyword.TheVariants.{Def, Finally, In, Int}
use Rattle.id_text.specs.declared.token.Symbol.TheVariants.{LeftParen, RightParen, RightBrace, Colon, Becomes, Semicolon}
use Rattle.id_grammar.specs.declared.phrase.Level.TheVariants as level
use Rattle.id_grammar.specs.declared.phrase.Scope.{Scope}
use Rattle.id_grammar.specs.declared.phrase.Scope.TheVariants as scope
use Rattle.id_value.specs.declared.Kind.TheVariants as kind
use Rattle.id_grammar.specs.Tree.{Tree, none, more}
use Rattle.id_grammar.specs.Grammar.{sized, raised, measured, unlifted}
use Rattle.id_grammar.specs.Grammar.{Phrase, Definition, Parameters, MoreParameters, Expression, Grouped, Negation}
use Rattle.id_grammar.specs.Grammar.{Unary, Postfix, Atom, Arguments, MoreArguments, Tail, kind_of, Rest, done, word}
use Rattle.id_grammar.specs.Grammar.{either, name, of_kind, part, last_of, Opens, definition, no_parameters}
use Rattle.id_grammar.specs.Grammar.{last_parameter, number, no_arguments, last_argument, by_body, by_last, own_height}
use Rattle.id_grammar.specs.Grammar.{Derives, opened, unconditional, single, grouped, plain, bare, atomic, Follows}
use Rattle.id_grammar.specs.Grammar.{ended, taken, left_out, named, kinded, given, Program, empty, defined}
use Rattle.id_grammar.specs.Machine.{least_height, Frame, State}
use Rattle.id_grammar.specs.Standing.{sizing, Roomy, Around, outermost, unconditionally, left, right, plainly, barely, target}
use Rattle.id_grammar.specs.Standing.{atomically, inside, Stands, begun, wanting, having, within, finished}

-- the starts rise from the first number on and stay below the second
abbrev pub Laid : ℕ → List Token → ℕ → Type 0
Laid low [] high = low ≤ high
Laid low (t ∷ ts) high = (low ≤ t.start) × Laid (t.start + 1) ts high

-- the first number may be lower
Laid-lower : (ts : List Token) (low mid high : ℕ) → low ≤ mid → Laid mid ts high → Laid low ts high
Laid-lower [] low mid high w q = omega arith
Laid-lower (t ∷ ts) low mid high w q = (omega (arith, q.0), q.1)

-- what is laid behind what is laid
pub Laid-append : (us vs : List Token) (low mid high : ℕ) → Laid low us mid → Laid mid vs high → Laid low (us ++ vs) high
Laid-append [] vs low mid high p q = Laid-lower vs low mid high p q
Laid-append (t ∷ us) vs low mid high p q = (p.0, Laid-append us vs (t.start + 1) mid high p.1 q)

-- the front of what is laid is laid
pub Laid-front : (us vs : List Token) (low high : ℕ) → Laid low (us ++ vs) high → (mid : ℕ) × Laid low us mid
Laid-front [] vs low high p = (low, omega arith)
Laid-front (t ∷ us) vs low high p = let q = Laid-front us vs (t.start + 1) high p.1 in (q.0, (p.0, q.1))

-- what is laid rises
pub Rises-laid : (ts : List Token) (low high : ℕ) → Laid low ts high → Rises ts
Rises-laid [] low high p = tt
Rises-laid (t ∷ []) low high p = tt
Rises-laid (t ∷ u ∷ ts) low high p = (omega (arith, p.1.0), Rises-laid (u ∷ ts) (t.start + 1) high p.1)

Laid-from : (t : Token) (ts : List Token) (low : ℕ) → low ≤ t.start → Rises (t ∷ ts) → (high : ℕ) × Laid low (t ∷ ts) high
Laid-from t [] low w q = (t.start + 1, (w, omega arith))
Laid-from t (u ∷ ts) low w q = let r = Laid-from u ts (t.start + 1) (omega (arith, q.0)) q.1 in (r.0, (w, r.1))

-- what rises is laid
pub Laid-rises : (ts : List Token) → Rises ts → (high : ℕ) × Laid 0 ts high
Laid-rises [] q = (0, zero-le)
Laid-rises (t ∷ ts) q = Laid-from t ts 0 zero-le q

-- a token of a kind at a place
abbrev token : TokenKind → ℕ → Token
token k p = record { kind = k; start = p; end = p }

-- a phrase of the least height, from a place on
record Least (s : Phrase) (from : ℕ) : Type 0 where
  tokens : List Token
  tree : Tree
  to : ℕ
  laid : Laid from tokens to
  derives : Derives s tokens tree (least_height s)

least_number : (from : ℕ) → Least Atom from
least_number from = record {
  tokens = token (Number (pos 0)) from ∷ [];
  tree = _;
  to = from + 1;
  laid = (omega arith, omega arith);
  derives = opened number ended;
}

least_unary : (from : ℕ) → Least Unary from
least_unary from = let l = least_number from in record { tokens = l.tokens; tree = l.tree; to = l.to; laid = l.laid; derives = bare (atomic l.derives) }

least_sum : (from : ℕ) → Least (Grouped level.Sum) from
least_sum from = let l = least_unary from in record { tokens = l.tokens; tree = l.tree; to = l.to; laid = l.laid; derives = single (single l.derives) }

least_negation : (from : ℕ) → Least Negation from
least_negation from = let l = least_sum from in record { tokens = l.tokens; tree = l.tree; to = l.to; laid = l.laid; derives = plain (single l.derives) }

least_or : (from : ℕ) → Least (Grouped level.Or) from
least_or from = let l = least_negation from in record { tokens = l.tokens; tree = l.tree; to = l.to; laid = l.laid; derives = single (single l.derives) }

least_expression : (from : ℕ) → Least Expression from
least_expression from = let l = least_or from in record { tokens = l.tokens; tree = l.tree; to = l.to; laid = l.laid; derives = unconditional l.derives }

least_definition : (from : ℕ) → Least Expression (from + 7) → Least Definition from
least_definition from body = record {
  tokens = token (Key Def) from ∷ token (Name []) (from + 1) ∷ token (Sign LeftParen) (from + 2) ∷ token (Sign RightParen) (from + 3)
      ∷ token (Sign Colon) (from + 4) ∷ token (Key Int) (from + 5) ∷ token (Sign Becomes) (from + 6) ∷ (body.tokens ++ token (Sign Semicolon) body.to ∷ []);
  tree = _;
  to = body.to + 1;
  laid = (
    omega arith,
    (
      omega arith,
      (
        omega arith,
        (
          omega arith,
          (
            omega arith,
            (
              omega arith,
              (
                omega arith,
                Laid-lower (body.tokens ++ token (Sign Semicolon) body.to ∷ []) (from + 6 + 1) (from + 7) (body.to + 1) (omega arith)
                    (Laid-append body.tokens (token (Sign Semicolon) body.to ∷ []) (from + 7) body.to (body.to + 1) body.laid (omega arith, omega arith)),
              ),
            ),
          ),
        ),
      ),
    ),
  );
  derives = opened definition (named refl (taken refl (given (opened no_parameters ended)
      (taken refl (kinded refl (taken refl (given body.derives (taken refl ended))))))));
}

least_tail : (o : Scope) (k : Keyword) (from : ℕ) → Opens (Tail o) (Key k) from last_of → Least Expression (from + 1) → Least (Tail o) from
least_tail o k from opens body = record {
  tokens = token (Key k) from ∷ (body.tokens ++ token (Sign RightBrace) body.to ∷ []);
  tree = _;
  to = body.to + 1;
  laid = (omega arith, Laid-append body.tokens (token (Sign RightBrace) body.to ∷ []) (from + 1) body.to (body.to + 1) body.laid (omega arith, omega arith));
  derives = opened opens (given body.derives (taken refl ended));
}

least : (s : Phrase) (from : ℕ) → Least s from
least Atom from = least_number from
least Postfix from = let l = least_number from in record { tokens = l.tokens; tree = l.tree; to = l.to; laid = l.laid; derives = atomic l.derives }
least Unary from = least_unary from
least (Grouped level.Product) from = let l = least_unary from in
    record { tokens = l.tokens; tree = l.tree; to = l.to; laid = l.laid; derives = single l.derives }
least (Grouped level.Sum) from = least_sum from
least (Grouped level.Comparison) from =
    let l = least_sum from in record { tokens = l.tokens; tree = l.tree; to = l.to; laid = l.laid; derives = single l.derives }
least (Grouped level.And) from = let l = least_negation from in
    record { tokens = l.tokens; tree = l.tree; to = l.to; laid = l.laid; derives = single l.derives }
least Expression from = least_expression from
least (Grouped level.Or) from = least_or from
least Negation from = least_negation from
least Parameters from = record {
  tokens = token (Sign RightParen) from ∷ [];
  tree = _;
  to = from + 1;
  laid = (omega arith, omega arith);
  derives = opened no_parameters ended;
}
least MoreParameters from = record {
  tokens = token (Sign RightParen) from ∷ [];
  tree = _;
  to = from + 1;
  laid = (omega arith, omega arith);
  derives = opened last_parameter ended;
}
least Definition from = least_definition from (least_expression (from + 7))
least Arguments from = record {
  tokens = token (Sign RightParen) from ∷ [];
  tree = _;
  to = from + 1;
  laid = (omega arith, omega arith);
  derives = opened no_arguments ended;
}
least MoreArguments from = record {
  tokens = token (Sign RightParen) from ∷ [];
  tree = _;
  to = from + 1;
  laid = (omega arith, omega arith);
  derives = opened last_argument ended;
}
least (Tail scope.Block) from = least_tail scope.Block In from by_body (least_expression (from + 1))
least (Tail scope.Loop) from = least_tail scope.Loop Finally from by_last (least_expression (from + 1))

-- what is left of a production, with tokens from a place on
record Finish (n d from : ℕ) (r : Rest) : Type 0 where
  tokens : List Token
  tree : Tree
  height : ℕ
  to : ℕ
  laid : Laid from tokens to
  follows : Follows r tokens tree height
  fits : d + height ≤ n

-- what is left of a production can always be finished
finish : (r : Rest) (n d from : ℕ) → d ≤ n → Roomy n d r → Finish n d from r
finish (done e) n d from w roomy = record { tokens = []; tree = e; height = 0; to = from; laid = omega arith; follows = ended; fits = omega arith }
finish (word v r) n d from w roomy =
    let f = finish r n d (from + 1) w roomy in
    record {
      tokens = token (kind_of v) from ∷ f.tokens;
      tree = f.tree;
      height = f.height;
      to = f.to;
      laid = (omega arith, f.laid);
      follows = taken refl f.follows;
      fits = f.fits;
    }
finish (either v r o) n d from w roomy =
    let f = finish o n d from w roomy.1 in
    record { tokens = f.tokens; tree = f.tree; height = f.height; to = f.to; laid = f.laid; follows = left_out f.follows; fits = f.fits }
finish (name g) n d from w roomy =
    let f = finish (g [] from) n d (from + 1) w (roomy [] from) in
    record {
      tokens = token (Name []) from ∷ f.tokens;
      tree = f.tree;
      height = f.height;
      to = f.to;
      laid = (omega arith, f.laid);
      follows = named refl f.follows;
      fits = f.fits;
    }
finish (of_kind g) n d from w roomy =
    let f = finish (g kind.Int) n d (from + 1) w (roomy kind.Int) in
    record {
      tokens = token (Key Int) from ∷ f.tokens;
      tree = f.tree;
      height = f.height;
      to = f.to;
      laid = (omega arith, f.laid);
      follows = kinded refl f.follows;
      fits = f.fits;
    }
finish (part s g) n d from w roomy =
    let l = least s from in
    let f = finish (g l.tree) n d l.to w (roomy.1 l.tree) in
    record {
      tokens = l.tokens ++ f.tokens;
      tree = f.tree;
      height = max (least_height s) f.height;
      to = f.to;
      laid = Laid-append l.tokens f.tokens from l.to f.to l.laid f.laid;
      follows = given l.derives f.follows;
      fits = omega (arith, f.fits, roomy.0);
    }
finish (sized s g) n d from w roomy =
    let l = least s from in
    let f = finish (g l.tree (least_height s)) n d l.to w (roomy.1 l.tree (least_height s)) in
    record {
      tokens = l.tokens ++ f.tokens;
      tree = f.tree;
      height = max (least_height s) f.height;
      to = f.to;
      laid = Laid-append l.tokens f.tokens from l.to f.to l.laid f.laid;
      follows = measured l.derives f.follows;
      fits = omega (arith, f.fits, roomy.0);
    }
finish (raised j v r o) n d from w roomy =
    let f = finish o n d from w roomy.1 in
    record { tokens = f.tokens; tree = f.tree; height = f.height; to = f.to; laid = f.laid; follows = unlifted f.follows; fits = f.fits }

-- the tokens go on to a program of at most this height
pub record Completed (n from : ℕ) (us : List Token) : Type 0 where
  pub behind : List Token
  pub tree : Tree
  pub height : ℕ
  pub to : ℕ
  pub laid : Laid from behind to
  pub derives : Program (us ++ behind) tree height
  pub fits : height ≤ n

Program-at : {us vs : List Token} {e : Tree} {h : ℕ} → us ≡ vs → Program us e h → Program vs e h
Program-at {e = e} {h = h} q p = subst (λ xs. Program xs e h) q p

Completed-at : {n from : ℕ} {us vs : List Token} → us ≡ vs → Completed n from us → Completed n from vs
Completed-at {n = n} {from = from} q p = subst (λ xs. Completed n from xs) q p

Completed-more : (n from mid : ℕ) (us ws : List Token) → Laid from ws mid → Completed n mid (us ++ ws) → Completed n from us
Completed-more n from mid us ws l c = record {
  behind = ws ++ c.behind;
  tree = c.tree;
  height = c.height;
  to = c.to;
  laid = Laid-append ws c.behind from mid c.to l c.laid;
  derives = Program-at (append_assoc us ws c.behind) c.derives;
  fits = c.fits;
}

-- a part that has come is gone on to a program
Around-completed : {n : ℕ} {s : Phrase} {d : ℕ} {K : List Frame} {us : List Token} → Around n s d K us →
    (vs : List Token) (e : Tree) (h from : ℕ) → Derives s vs e h → d + h ≤ n → Completed n from (us ++ vs)
Around-completed (outermost {us = us} {h = k} p v) vs e h from x w = record {
  behind = token End from ∷ [];
  tree = _;
  height = max k (max h 0);
  to = from + 1;
  laid = (omega arith, omega arith);
  derives = Program-at (sym (append_assoc us vs (token End from ∷ [])))
      (p.completes (vs ++ token End from ∷ []) (more e none) (max h 0) (defined x (empty refl)));
  fits = omega arith;
}
Around-completed (left a) vs e h from x w = Around-completed a vs e h from (single x) w
Around-completed (right {m = m} {us = us} {vs = vs} a y t q fit) ws e k from x w =
    Completed-at (ap (λ xs. us ++ xs) (sym (append_assoc vs (t ∷ []) ws)) ∙ sym (append_assoc us (vs ++ t ∷ []) ws))
    (Around-completed a (vs ++ t ∷ ws) _ (max m k + 1) from (grouped y t q x) (omega arith))
Around-completed (unconditionally a) vs e h from x w = Around-completed a vs e h from (unconditional x) w
Around-completed (plainly a) vs e h from x w = Around-completed a vs e h from (plain x) w
Around-completed (barely a) vs e h from x w = Around-completed a vs e h from (bare x) w
Around-completed (target a) vs e h from x w = Around-completed a vs e h from x w
Around-completed (atomically a) vs e h from x w = Around-completed a vs e h from (atomic x) w
Around-completed {n = n} (inside {s = s} {f = f} {d = d} {h = h} {us = us} {vs = vs} a b fit roomy) ws e k from x w =
    let g = finish (f e) n (d + own_height s) from (omega arith) (roomy e) in
    Completed-more n from g.to ((us ++ vs) ++ ws) g.tokens g.laid
    (Completed-at (sym (append_assoc us (vs ++ ws) g.tokens ∙ ap (λ xs. us ++ xs) (append_assoc vs ws g.tokens)) ∙
    ap (λ xs. xs ++ g.tokens) (sym (append_assoc us vs ws)))
    (Around-completed a (vs ++ (ws ++ g.tokens)) g.tree (max h (max k g.height) + own_height s) g.to
    (b.completes (ws ++ g.tokens) g.tree (max k g.height) (given x g.follows)) (omega (arith, g.fits))))
Around-completed {n = n} (sizing {s = s} {f = f} {d = d} {h = h} {us = us} {vs = vs} a b fit roomy) ws e k from x w =
    let g = finish (f e k) n (d + own_height s) from (omega arith) (roomy e k) in
    Completed-more n from g.to ((us ++ vs) ++ ws) g.tokens g.laid
    (Completed-at (sym (append_assoc us (vs ++ ws) g.tokens ∙ ap (λ xs. us ++ xs) (append_assoc vs ws g.tokens)) ∙
    ap (λ xs. xs ++ g.tokens) (sym (append_assoc us vs ws)))
    (Around-completed a (vs ++ (ws ++ g.tokens)) g.tree (max h (max k g.height) + own_height s) g.to
    (b.completes (ws ++ g.tokens) g.tree (max k g.height) (measured x g.follows)) (omega (arith, g.fits))))

-- what stands is gone on to a program
pub Stands-completed : {n : ℕ} {S : State} {us : List Token} → Stands n S us → (from : ℕ) → Completed n from us
Stands-completed (begun {h = h} p w) from = record {
  behind = token End from ∷ [];
  tree = _;
  height = max h 0;
  to = from + 1;
  laid = (omega arith, omega arith);
  derives = p.completes (token End from ∷ []) none 0 (empty refl);
  fits = omega arith;
}
Stands-completed {n = n} (wanting {s = s} {us = us} a w) from =
    let l = least s from in
    Completed-more n from l.to us l.tokens l.laid (Around-completed a l.tokens l.tree (least_height s) l.to l.derives w)
Stands-completed (having {h = h} {e = e} {vs = vs} a x w) from = Around-completed a vs e h from x w
Stands-completed {n = n} (within {s = s} {r = r} {d = d} {h = h} {us = us} {vs = vs} a b w roomy) from =
    let g = finish r n (d + own_height s) from (omega arith) roomy in
    Completed-more n from g.to (us ++ vs) g.tokens g.laid
    (Completed-at (sym (append_assoc us vs g.tokens))
    (Around-completed a (vs ++ g.tokens) g.tree (max h g.height + own_height s) g.to (b.completes g.tokens g.tree g.height g.follows) (omega (arith, g.fits))))
Stands-completed (finished {us = us} {h = h} p w) from = record
    { behind = []; tree = _; height = h; to = from; laid = omega arith; derives = Program-at (sym (append-nil us)) p; fits = w }
