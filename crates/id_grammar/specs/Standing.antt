-- What the machine's states mean, for the proof of `parse` alone: the tokens so far begin a program within n.
use Rattle.std.specs.Prelude.{◌≡◌, ◌+◌, ◌≤◌, ℕ, Some, List, [], ◌∷◌, ◌++◌, max}
use Rattle.id_text.specs.declared.token.Token.{Token}
use Rattle.id_grammar.specs.declared.phrase.Level.{Level}
use Rattle.id_grammar.specs.declared.phrase.Level.TheVariants as level
use Rattle.id_value.specs.declared.BinaryOp.{BinaryOp}
use Rattle.id_value.specs.declared.Kind.{Kind}
use Rattle.id_grammar.specs.Tree.{Tree}
use Rattle.id_grammar.specs.Grammar.{Phrase, Definition, Expression, Grouped, Negation, Unary, Postfix, Atom, Rest}
use Rattle.id_grammar.specs.Grammar.{done}
use Rattle.id_grammar.specs.Grammar.{word, either, name, of_kind, part, sized, raised, operand, left_operand}
use Rattle.id_grammar.specs.Grammar.{operator_of, own_height}
use Rattle.id_grammar.specs.Grammar.{Derives, Follows, Program}
use Rattle.id_grammar.specs.Machine.{least_height, Frame, Left, Right, Target, Inside, Sizing}
use Rattle.id_grammar.specs.Machine.{Outer, ahead, State, Begin, Want}
use Rattle.id_grammar.specs.Machine.{Have, Next, Finished}

-- the tokens begin a phrase, of which this is left, and its parts so far have this greatest height
pub record Begins (s : Phrase) (vs : List Token) (r : Rest) (h : ℕ) : Type 0 where
  pub completes : (ts : List Token) (e : Tree) (m : ℕ) →
      Follows r ts e m → Derives s (vs ++ ts) e (max h m + own_height s)

-- the tokens are definitions, with these trees and this greatest height
pub record Defined (ds : List Tree) (us : List Token) (h : ℕ) : Type 0 where
  pub completes : (ts : List Token) (e : Tree) (m : ℕ) → Program ts e m
      → Program (us ++ ts) (ahead ds e) (max h m)

-- there is room for each part within n, where the parts stand in d expressions
abbrev pub Roomy : ℕ → ℕ → Rest → Type 0
Roomy n d (done e) = Unit {0}
Roomy n d (word w r) = Roomy n d r
Roomy n d (either w r q) = ((p : ℕ) → Roomy n d (r p)) × Roomy n d q
Roomy n d (name f) = (x : List ℕ) (p : ℕ) → Roomy n d (f x p)
Roomy n d (of_kind f) = (k : Kind) → Roomy n d (f k)
Roomy n d (part s f) = (d + least_height s ≤ n) × ((a : Tree) → Roomy n d (f a))
Roomy n d (sized s f) = (d + least_height s ≤ n) × ((a : Tree) (m : ℕ) → Roomy n d (f a m))
Roomy n d (raised m w r q) = ((p : ℕ) → Roomy n d (r p)) × Roomy n d q

-- inside d expressions, behind these tokens, a phrase is to come, and what stands round it fits n
pub data Around (n : ℕ) : Phrase → ℕ → List Frame → List Token → Type 0 where
  outermost : {ds : List Tree} {us : List Token} {h : ℕ} →
      Defined ds us h → h ≤ n → Around n Definition 0 (Outer ds ∷ []) us
  unconditionally : {d : ℕ} {K : List Frame} {us : List Token} →
      Around n Expression d K us → Around n (Grouped level.Or) d K us
  left : {l : Level} {d : ℕ} {K : List Frame} {us : List Token} →
      Around n (Grouped l) d K us → Around n (operand l) d (Left l d ∷ K) us
  right : {l : Level} {d m : ℕ} {K : List Frame} {us vs : List Token} {o : BinaryOp} {a : Tree} →
      Around n (Grouped l) d K us → Derives (left_operand l) vs a m → (t : Token) →
      operator_of l t.kind ≡ Some o →
      d + m + 1 ≤ n → Around n (operand l) (d + 1) (Right l o a m t.start d ∷ K) (us ++ (vs ++ t ∷ []))
  plainly : {d : ℕ} {K : List Frame} {us : List Token} →
      Around n Negation d K us → Around n (Grouped level.Comparison) d K us
  barely : {d : ℕ} {K : List Frame} {us : List Token} → Around n Unary d K us → Around n Postfix d K us
  target : {d : ℕ} {K : List Frame} {us : List Token} → Around n Postfix d K us
      → Around n Postfix d (Target d ∷ K) us
  atomically : {d : ℕ} {K : List Frame} {us : List Token} → Around n Postfix d K us → Around n Atom d K us
  inside : {s i : Phrase} {f : Tree → Rest} {d h : ℕ} {K : List Frame} {us vs : List Token} →
      Around n s d K us → Begins s vs (part i f) h → d + own_height s + h ≤ n →
      ((a : Tree) → Roomy n (d + own_height s) (f a)) →
      Around n i (d + own_height s) (Inside f h (d + own_height s) (own_height s) ∷ K) (us ++ vs)
  sizing : {s i : Phrase} {f : Tree → ℕ → Rest} {d h : ℕ} {K : List Frame} {us vs : List Token} →
      Around n s d K us → Begins s vs (sized i f) h → d + own_height s + h ≤ n →
      ((a : Tree) (m : ℕ) → Roomy n (d + own_height s) (f a m)) →
      Around n i (d + own_height s) (Sizing f h (d + own_height s) (own_height s) ∷ K) (us ++ vs)

-- the tokens lead to the state, within n
pub data Stands (n : ℕ) : State → List Token → Type 0 where
  begun : {ds : List Tree} {us : List Token} {h : ℕ} → Defined ds us h → h ≤ n → Stands n (Begin ds) us
  wanting : {s : Phrase} {d : ℕ} {K : List Frame} {us : List Token} →
      Around n s d K us → d + least_height s ≤ n → Stands n (Want s d K) us
  having : {s : Phrase} {d h : ℕ} {e : Tree} {K : List Frame} {us vs : List Token} →
      Around n s d K us → Derives s vs e h → d + h ≤ n → Stands n (Have e h K) (us ++ vs)
  within : {s : Phrase} {r : Rest} {d h : ℕ} {K : List Frame} {us vs : List Token} →
      Around n s d K us → Begins s vs r h → d + own_height s + h ≤ n → Roomy n (d + own_height s) r →
      Stands n (Next r h (d + own_height s) (own_height s) K) (us ++ vs)
  finished : {us : List Token} {e : Tree} {h : ℕ} → Program us e h → h ≤ n → Stands n (Finished e) us
