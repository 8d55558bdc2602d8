-- From a refused run to the first token after which nothing goes on.
use Rattle.std.proofs.Common.{◌≡◌, ℕ, ◌+◌, ◌≤◌, ◌<◌, Bool, true, false, cond, leb, Option, Some, None, List, [], ◌∷◌}
use Rattle.std.proofs.Common.{◌++◌, refl, sym, ap, ◌∙◌, subst, append_assoc, append-nil, arith, leb-true, leb-false}
use Rattle.std.proofs.Common.{zero-le}
use Rattle.id_text.specs.Tokens.{Rises}
use Rattle.id_text.specs.declared.token.Token.{Token}
use Rattle.id_grammar.specs.Tree.{Tree}
use Rattle.id_grammar.specs.declared.tree.TreeError.{TreeError}
use Rattle.id_grammar.specs.declared.tree.TreeError.TheVariants.{Unexpected, TooDeep, Memory}
use Rattle.id_grammar.specs.Readers.{EndsBy}
use Rattle.id_grammar.specs.Grammar.{sized, raised}
use Rattle.id_grammar.specs.Grammar.{Phrase, Rest, done, word, either, name, of_kind, part, own_height, Program}
use Rattle.id_tree.specs.Accepted.{Accepts, GoesOn, GoesOnDeeper, StopsAt, RefusedBy, IsMemory}
use Rattle.id_grammar.specs.Machine.{Move, pick, takes, Frame, State, Begin, Want, Have, Next, Finished, Accepted, Refused, run}
use Rattle.id_grammar.specs.Standing.{Around, outermost, unconditionally, left, right, plainly, barely, target}
use Rattle.id_grammar.specs.Standing.{atomically, inside, sizing, Stands, begun, wanting, having, within, finished, Roomy}
use Rattle.id_grammar.proofs.RunLemmas.{run-step, run-none, run-deep}
use Rattle.id_tree.proofs.CompleteLemmas.{run-program}
use Rattle.id_tree.proofs.SoundLemmas.{Moves, Moves-takes, Defined-none}
use Rattle.id_tree.proofs.FinishLemmas.{Laid-append, Laid-front, Rises-laid, Laid-rises, Stands-completed}

-- why a token is refused: nothing takes it, or only with more nesting
abbrev Why : ℕ → Bool → Option Move → Type 0
Why n false o = o ≡ None
Why n true o = (m : Move) × (o ≡ Some m) × (n < m.need)

-- the run from the state S, behind the tokens us, stops at a token, whatever stands behind it
record Stopped (n : ℕ) (S : State) (us ts : List Token) (deep : Bool) (at : ℕ) : Type 0 where
  front : List Token
  token : Token
  behind : List Token
  last : State
  whole : ts ≡ front ++ token ∷ behind
  place : token.start ≡ at
  stands : Stands n last (us ++ front)
  alike : (m : ℕ) → n ≤ m → (vs : List Token) → run m (front ++ vs) S ≡ run m vs last
  why : Why n deep (takes token last)

run-nothing : (n : ℕ) (S : State) (deep : Bool) (at : ℕ) → run n [] S ≡ Refused deep at → ⊥
unfolding run
run-nothing n (Begin ds) deep at q = cc
run-nothing n (Want s d K) deep at q = cc
run-nothing n (Have e h K) deep at q = cc
run-nothing n (Next r h d c K) deep at q = cc
run-nothing n (Finished e) deep at q = cc

Stands-at : {n : ℕ} {S : State} {us vs : List Token} → us ≡ vs → Stands n S us → Stands n S vs
Stands-at {n = n} {S = S} e h = subst (λ xs. Stands n S xs) e h

-- a run stops at its first token
Stopped-here : (n : ℕ) (S : State) (us : List Token) (t : Token) (ts : List Token) (deep given : Bool) (at : ℕ) → Stands n S us → Why n given (takes t S) →
    Refused given t.start ≡ Refused deep at → Stopped n S us (t ∷ ts) deep at
Stopped-here n S us t ts deep given at st why q = record {
  front = [];
  token = t;
  behind = ts;
  last = S;
  whole = refl;
  place = cc;
  stands = Stands-at (sym (append-nil us)) st;
  alike = λ m w vs. refl;
  why = (let e : given ≡ deep = cc in subst (λ b. Why n b (takes t S)) e why);
}

-- a run stops behind its first token
Stopped-later : (n : ℕ) (S : State) (us : List Token) (t : Token) (ts : List Token) (deep : Bool) (at : ℕ) (m : Move) → takes t S ≡ Some m → m.need ≤ n →
    Stopped n m.next (us ++ t ∷ []) ts deep at → Stopped n S us (t ∷ ts) deep at
Stopped-later n S us t ts deep at m q w r = record {
  front = t ∷ r.front;
  token = r.token;
  behind = r.behind;
  last = r.last;
  whole = ap (λ xs. t ∷ xs) r.whole;
  place = r.place;
  stands = Stands-at (append_assoc us (t ∷ []) r.front) r.stands;
  alike = λ k v vs. run-step k t (r.front ++ vs) S m q (omega arith) ∙ r.alike k v vs;
  why = r.why;
}

-- the first token's move, where the run behind it stops if it is refused
module _ (n : ℕ) (S : State) (us : List Token) (t : Token) (ts : List Token) (deep : Bool) (at : ℕ) (st : Stands n S us)
    (later : (T : State) (vs : List Token) → Stands n T vs → run n ts T ≡ Refused deep at → Stopped n T vs ts deep at) where
  Stopped-test : (m : Move) → takes t S ≡ Some m → (b : Bool) → leb m.need n ≡ b → cond b (run n ts m.next) (Refused true t.start) ≡ Refused deep at →
      Stopped n S us (t ∷ ts) deep at
  Stopped-test m e true i r =
      let w = leb-true m.need n i in
      Stopped-later n S us t ts deep at m e w (later m.next (us ++ t ∷ []) ((subst (λ o. Moves n (us ++ t ∷ []) o) e (Moves-takes n t st)) w) r)
  Stopped-test m e false i r = Stopped-here n S us t ts deep true at st (m, e, leb-false m.need n i) r

  Stopped-move : (o : Option Move) → takes t S ≡ o → pick o (λ m. cond (leb m.need n) (run n ts m.next) (Refused true t.start)) (Refused false t.start) ≡
      Refused deep at → Stopped n S us (t ∷ ts) deep at
  Stopped-move None e r = Stopped-here n S us t ts deep false at st e r
  Stopped-move (Some m) e r = Stopped-test m e (leb m.need n) refl r

-- each refused run stops so
stopped : (n : ℕ) (S : State) (us ts : List Token) (deep : Bool) (at : ℕ) → Stands n S us → run n ts S ≡ Refused deep at → Stopped n S us ts deep at
unfolding run
stopped n S us [] deep at st q = absurd (run-nothing n S deep at q)
stopped n S us (t ∷ ts) deep at st q = Stopped-move n S us t ts deep at st (λ T vs. stopped n T vs ts deep at) (takes t S) refl q

Roomy-wider : (n m d : ℕ) (r : Rest) → n ≤ m → Roomy n d r → Roomy m d r
Roomy-wider n m d (done e) w q = tt
Roomy-wider n m d (word v r) w q = Roomy-wider n m d r w q
Roomy-wider n m d (either v r o) w q = (λ p. Roomy-wider n m d (r p) w (q.0 p), Roomy-wider n m d o w q.1)
Roomy-wider n m d (name f) w q = λ x p. Roomy-wider n m d (f x p) w (q x p)
Roomy-wider n m d (of_kind f) w q = λ k. Roomy-wider n m d (f k) w (q k)
Roomy-wider n m d (part s f) w q = (omega (arith, q.0), λ a. Roomy-wider n m d (f a) w (q.1 a))
Roomy-wider n m d (sized s f) w q = (omega (arith, q.0), λ a h. Roomy-wider n m d (f a h) w (q.1 a h))
Roomy-wider n m d (raised j v r o) w q = (λ p. Roomy-wider n m d (r p) w (q.0 p), Roomy-wider n m d o w q.1)

Around-wider : {n : ℕ} {s : Phrase} {d : ℕ} {K : List Frame} {us : List Token} → Around n s d K us → (m : ℕ) → n ≤ m → Around m s d K us
Around-wider (outermost p v) m w = outermost p (omega arith)
Around-wider (left a) m w = left (Around-wider a m w)
Around-wider (right a y t q fit) m w = right (Around-wider a m w) y t q (omega arith)
Around-wider (unconditionally a) m w = unconditionally (Around-wider a m w)
Around-wider (plainly a) m w = plainly (Around-wider a m w)
Around-wider (barely a) m w = barely (Around-wider a m w)
Around-wider (target a) m w = target (Around-wider a m w)
Around-wider (atomically a) m w = atomically (Around-wider a m w)
Around-wider {n = n} (inside {s = s} {f = f} {d = d} a b fit roomy) m w = inside (Around-wider a m w) b (omega arith)
    (λ e. Roomy-wider n m (d + own_height s) (f e) w (roomy e))
Around-wider {n = n} (sizing {s = s} {f = f} {d = d} a b fit roomy) m w = sizing (Around-wider a m w) b (omega arith)
    (λ e k. Roomy-wider n m (d + own_height s) (f e k) w (roomy e k))

-- what stands within n stands within more
Stands-wider : {n : ℕ} {S : State} {us : List Token} → Stands n S us → (m : ℕ) → n ≤ m → Stands m S us
Stands-wider (begun p v) m w = begun p (omega arith)
Stands-wider (wanting a v) m w = wanting (Around-wider a m w) (omega arith)
Stands-wider (having a x v) m w = having (Around-wider a m w) x (omega arith)
Stands-wider {n = n} (within {s = s} {r = r} {d = d} a b v roomy) m w = within (Around-wider a m w) b (omega arith)
    (Roomy-wider n m (d + own_height s) r w roomy)
Stands-wider (finished p v) m w = finished p (omega arith)

-- what stands and rises goes on, to a list that rises
goes_on : (us vs : List Token) (S : State) → Rises (us ++ vs) → Stands 200 S us → GoesOn us
goes_on us vs S q st =
    let l = Laid-rises (us ++ vs) q in
    let f = Laid-front us vs 0 l.0 l.1 in
    let c = Stands-completed st f.0 in
    record {
      behind = c.behind;
      tree = c.tree;
      rises = Rises-laid (us ++ c.behind) 0 c.to (Laid-append us c.behind 0 f.0 c.to f.1 c.laid);
      accepts = record { height = c.height; derives = c.derives; fits = c.fits };
    }

goes_deeper : (n : ℕ) (us vs : List Token) (S : State) → Rises (us ++ vs) → Stands n S us → GoesOnDeeper us
goes_deeper n us vs S q st =
    let l = Laid-rises (us ++ vs) q in
    let f = Laid-front us vs 0 l.0 l.1 in
    let c = Stands-completed st f.0 in
    record {
      behind = c.behind;
      tree = c.tree;
      height = c.height;
      rises = Rises-laid (us ++ c.behind) 0 c.to (Laid-append us c.behind 0 f.0 c.to f.1 c.laid);
      derives = c.derives;
    }

module _ (ts : List Token) (rises : Rises ts) (at : ℕ) where
  -- what a token refuses is refused whatever stands behind it
  refuses : (deep : Bool) (r : Stopped 200 (Begin []) [] ts deep at) (vs : List Token) →
      run 200 (r.front ++ r.token ∷ vs) (Begin []) ≡ Refused deep r.token.start
  refuses false r vs = r.alike 200 (omega arith) (r.token ∷ vs) ∙ run-none 200 r.token vs r.last r.why
  refuses true r vs = r.alike 200 (omega arith) (r.token ∷ vs) ∙ run-deep 200 r.token vs r.last r.why.0 r.why.1 r.why.2

  no_program : (deep : Bool) (r : Stopped 200 (Begin []) [] ts deep at) → GoesOn (r.front ++ r.token ∷ []) → ⊥
  no_program deep r g =
      let yes = run-program g.accepts.derives 200 g.accepts.fits in
      let no = refuses deep r g.behind in
      let e = append_assoc r.front (r.token ∷ []) g.behind in
      let both : Accepted g.tree ≡ Refused deep r.token.start = sym yes ∙ ap (λ xs. run 200 xs (Begin [])) e ∙ no in
      cc

  abbrev stops_at : (deep : Bool) → Stopped 200 (Begin []) [] ts deep at → StopsAt ts at
  stops_at deep r = record {
    front = r.front;
    token = r.token;
    behind = r.behind;
    whole = r.whole;
    place = r.place;
    goes_on = goes_on r.front (r.token ∷ r.behind) r.last (subst Rises r.whole rises) r.stands;
    stops = no_program deep r;
  }

  no_deeper : (r : Stopped 200 (Begin []) [] ts false at) → GoesOnDeeper (r.front ++ r.token ∷ []) → ⊥
  no_deeper r g =
      let n = 200 + g.height in
      let yes = run-program g.derives n (omega arith) in
      let no = r.alike n (omega arith) (r.token ∷ g.behind) ∙ run-none n r.token g.behind r.last r.why in
      let e = append_assoc r.front (r.token ∷ []) g.behind in
      let both : Accepted g.tree ≡ Refused false r.token.start = sym yes ∙ ap (λ xs. run n xs (Begin [])) e ∙ no in
      cc

  deeper : (r : Stopped 200 (Begin []) [] ts true at) → GoesOnDeeper (r.front ++ r.token ∷ [])
  deeper r =
      let m = r.why.0 in
      let st = Stands-wider r.stands m.need (omega (arith, r.why.2)) in
      let next = (subst (λ o. Moves m.need (r.front ++ r.token ∷ []) o) r.why.1 (Moves-takes m.need r.token st)) (omega arith) in
      goes_deeper m.need (r.front ++ r.token ∷ []) r.behind m.next (subst Rises (r.whole ∙ sym (append_assoc r.front (r.token ∷ []) r.behind)) rises) next

  -- a run that refuses without regard to nesting
  pub Refused-unexpected : run 200 ts (Begin []) ≡ Refused false at → RefusedBy ts (Unexpected at)
  Refused-unexpected q = let r = stopped 200 (Begin []) [] ts false at (begun Defined-none zero-le) q in (stops_at false r, no_deeper r)

  -- a run that refuses for the nesting
  pub Refused-deep : run 200 ts (Begin []) ≡ Refused true at → RefusedBy ts (TooDeep at)
  Refused-deep q = let r = stopped 200 (Begin []) [] ts true at (begun Defined-none zero-le) q in (stops_at true r, deeper r)

-- the tokens are a program that fits
abbrev IsWhole : ℕ → List Token → Tree → Type 0
IsWhole n ts e = (h : ℕ) × Program ts e h × (h ≤ n)

Whole-end : {n : ℕ} {S : State} {us : List Token} → Stands n S us → (e : Tree) → run n [] S ≡ Accepted e → IsWhole n us e
unfolding run
Whole-end (begun p w) e q = cc
Whole-end (wanting a w) e q = cc
Whole-end (having a x w) e q = cc
Whole-end (within a b w roomy) e q = cc
Whole-end {n = n} (finished {us = us} {e = f} {h = h} p w) e q = let i : f ≡ e = cc in subst (λ x. IsWhole n us x) i (h, p, w)

module _ (n : ℕ) (us : List Token) (t : Token) (ts : List Token) (e : Tree)
    (later : (T : State) → Stands n T (us ++ t ∷ []) → run n ts T ≡ Accepted e → IsWhole n (us ++ t ∷ ts) e) where
  Whole-test : (m : Move) → (m.need ≤ n → Stands n m.next (us ++ t ∷ [])) → (b : Bool) → leb m.need n ≡ b →
      cond b (run n ts m.next) (Refused true t.start) ≡ Accepted e → IsWhole n (us ++ t ∷ ts) e
  Whole-test m st true i q = later m.next (st (leb-true m.need n i)) q
  Whole-test m st false i q = cc

  Whole-move : (o : Option Move) → Moves n (us ++ t ∷ []) o →
      pick o (λ m. cond (leb m.need n) (run n ts m.next) (Refused true t.start)) (Refused false t.start) ≡ Accepted e → IsWhole n (us ++ t ∷ ts) e
  Whole-move None st q = cc
  Whole-move (Some m) st q = Whole-test m st (leb m.need n) refl q

-- a run that accepts has taken a program
Whole-run : (n : ℕ) (S : State) (us ts : List Token) (e : Tree) → Stands n S us → run n ts S ≡ Accepted e → IsWhole n (us ++ ts) e
unfolding run
Whole-run n S us [] e st q = subst (λ xs. IsWhole n xs e) (sym (append-nil us)) (Whole-end st e q)
Whole-run n S us (t ∷ ts) e st q = Whole-move n us t ts e
    (λ T s r. subst (λ xs. IsWhole n xs e) (append_assoc us (t ∷ []) ts) (Whole-run n T (us ++ t ∷ []) ts e s r)) (takes t S) (Moves-takes n t st) q

pub Accepts-from_run : (ts : List Token) (e : Tree) → run 200 ts (Begin []) ≡ Accepted e → Accepts ts e
Accepts-from_run ts e q = let p = Whole-run 200 (Begin []) [] ts e (begun Defined-none zero-le) q in record { height = p.0; derives = p.1; fits = p.2 }

-- a run's end settles all that `parse` promises
pub RefusedBy-from_run : (ts : List Token) (x : TreeError) → Rises ts → EndsBy (run 200 ts (Begin [])) x → RefusedBy ts x
RefusedBy-from_run ts (Unexpected at) q r = Refused-unexpected ts q at r
RefusedBy-from_run ts (TooDeep at) q r = Refused-deep ts q at r
RefusedBy-from_run ts Memory q r = tt

pub Same-from_run : (ts : List Token) (a e : Tree) → run 200 ts (Begin []) ≡ Accepted a → Accepts ts e → a ≡ e
Same-from_run ts a e q p = let both : Accepted a ≡ Accepted e = sym q ∙ run-program p.derives 200 p.fits in cc

pub IsMemory-from_run : (ts : List Token) (x : TreeError) (e : Tree) → EndsBy (run 200 ts (Begin [])) x → Accepts ts e → IsMemory x
IsMemory-from_run ts (Unexpected at) e q p = let both : Refused false at ≡ Accepted e = sym q ∙ run-program p.derives 200 p.fits in cc
IsMemory-from_run ts (TooDeep at) e q p = let both : Refused true at ≡ Accepted e = sym q ∙ run-program p.derives 200 p.fits in cc
IsMemory-from_run ts Memory e q p = refl
