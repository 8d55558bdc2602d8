-- Where a source has finitely many paths, names, structures, stores and asks, and gives nothing two values, its facts
-- are finitely many, and so are all of one round.
use Rattle.std.proofs.Common.{◌≡◌, inl, inr, ℕ, zero, suc, ◌+◌, ◌≤◌, true, List, [], ◌∷◌, ◌++◌, length, map, refl, sym}
use Rattle.std.proofs.Common.{ap, subst, ◌∙◌, arith}
use Rattle.std.specs.Prelude.{flat_map, pos}
use Rattle.id_value.specs.List.{AllDiffer, Among}
use Rattle.std.proofs.lemmas.Bool.{cases_lt}
use Rattle.std.proofs.lemmas.List.{length-map}
use Rattle.id_value.proofs.AmongLemmas.{Among-either, Among-from_map, Among-left, Among-map, Among-right}
use Rattle.id_value.proofs.DifferLemmas.{AllDiffer-few}
use Rattle.id_tree.specs.Distinct.{HasPlace}
use Rattle.id_grammar.specs.Tree.{Tree, literal, unary, binary, name, conditional, call, block, loop, array, fetch}
use Rattle.id_grammar.specs.Tree.{binding, next, store, param, define, none, more, for_loop}
use Rattle.id_table.specs.Tables.{is_binder}
use Rattle.id_table.specs.declared.row.Node.{Node}
use Rattle.id_check.specs.declared.checked.Checked.{Checked}
use Rattle.id_check.specs.Programs.{Stands, place, tree}
use Rattle.id_source.specs.declared.Ask.{Ask}
use Rattle.id_source.specs.declared.Fact.{Fact}
use Rattle.id_source.specs.declared.Fact.TheVariants as fact
use Rattle.id_source.specs.declared.Fact.TheVariants.{Has, On}
use Rattle.id_source.specs.declared.NameValue.{NameValue}
use Rattle.id_source.specs.declared.Path.{Path}
use Rattle.id_source.specs.declared.PathStep.{PathStep}
use Rattle.id_source.specs.declared.Put.{Put}
use Rattle.id_source.specs.declared.Shape.{Shape}
use Rattle.id_source.specs.declared.SourceValue.{SourceValue}
use Rattle.id_source.specs.declared.SourceValue.TheVariants as value
use Rattle.id_source.specs.Facts.{Rule, below, outermost, main_on, param_has, literal_has, unary_has, binary_has}
use Rattle.id_source.specs.Facts.{name_has, conditional_has}
use Rattle.id_source.specs.Facts.{callee_on, argument_has, call_has, first_has, index_begins, index_counts, next_has}
use Rattle.id_source.specs.Facts.{loop_has, block_has, binding_has, array_has, fetch_has}
use Rattle.id_source.specs.Names.{IsBinder, IsNameValue}
use Rattle.id_source.specs.Rounds.{Every, Holds, IsCoherent, Rounds}
use Rattle.id_source.specs.Sources.{Source}
use Rattle.id_source.proofs.PlacedLemmas.{holds_placed}
use Rattle.id_source.proofs.RoundsLemmas.{Rounds-follow}
use Rattle.id_promises.proofs.AtOnceLemmas.{differ_map}
use Rattle.id_promises.proofs.ChainLemmas.{chain_differs, chain_holds, in_chain, later}

-- ---- lists of all that may be

-- the numbers up to this one
abbrev up_to : ℕ → List ℕ
up_to zero = 0 ∷ []
up_to (suc n) = suc n ∷ up_to n

among_up_to : (n k : ℕ) → k ≤ n → Among k (up_to n)
among_up_to zero k low = inl (omega (arith, low))
among_up_to (suc n) k low = elim (cases_lt k (suc n)) [
  | inl less ↦ inr (among_up_to n k (omega (arith, less)))
  | inr high ↦ inl (omega (arith, low, high))
]

among_flat : {A B : Type 0} (f : A → List B) (y : B) (x : A) (xs : List A) → Among x xs → Among y (f x)
    → Among y (flat_map f xs)
among_flat f y x [] h k = absurd h
among_flat {B = B} f y x (z ∷ xs) (inl e) k = Among-left y (f z) (flat_map f xs) (subst (λ w. Among y (f w)) e k)
among_flat f y x (z ∷ xs) (inr h) k = Among-right y (f z) (flat_map f xs) (among_flat f y x xs h k)

-- no thing of the tree has a place above this
abbrev top : Tree → ℕ
top (literal v p) = p
top (unary o a p) = p + top a
top (binary o a b p) = p + (top a + top b)
top (name x p) = p
top (conditional t x y p) = p + (top t + (top x + top y))
top (call x a p) = p + top a
top (block a b p) = p + (top a + top b)
top (loop t a b p) = p + (top t + (top a + top b))
top (for_loop x i a b c d p) = p + (i + (top a + (top b + (top c + top d))))
top (array nested a b p) = p + (top a + top b)
top (fetch t i p) = p + (top t + top i)
top (binding x a p) = p + top a
top (next x a p) = p + top a
top (store t i a p) = p + (top t + (top i + top a))
top (param x k p) = p
top (define x a k b p) = p + (top a + top b)
top none = 0
top (more a b) = top a + top b

below_top : (t : Tree) (q : ℕ) → HasPlace t q → q ≤ top t
below_top (literal v p) q e = omega (arith, e)
below_top (unary o a p) q (inl e) = omega (arith, e)
below_top (unary o a p) q (inr h) = omega (arith, below_top a q h)
below_top (binary o a b p) q (inl e) = omega (arith, e)
below_top (binary o a b p) q (inr (inl h)) = omega (arith, below_top a q h)
below_top (binary o a b p) q (inr (inr h)) = omega (arith, below_top b q h)
below_top (name x p) q e = omega (arith, e)
below_top (conditional t x y p) q (inl e) = omega (arith, e)
below_top (conditional t x y p) q (inr (inl h)) = omega (arith, below_top t q h)
below_top (conditional t x y p) q (inr (inr (inl h))) = omega (arith, below_top x q h)
below_top (conditional t x y p) q (inr (inr (inr h))) = omega (arith, below_top y q h)
below_top (call x a p) q (inl e) = omega (arith, e)
below_top (call x a p) q (inr h) = omega (arith, below_top a q h)
below_top (block a b p) q (inl e) = omega (arith, e)
below_top (block a b p) q (inr (inl h)) = omega (arith, below_top a q h)
below_top (block a b p) q (inr (inr h)) = omega (arith, below_top b q h)
below_top (loop t a b p) q (inl e) = omega (arith, e)
below_top (loop t a b p) q (inr (inl h)) = omega (arith, below_top t q h)
below_top (loop t a b p) q (inr (inr (inl h))) = omega (arith, below_top a q h)
below_top (loop t a b p) q (inr (inr (inr h))) = omega (arith, below_top b q h)
below_top (for_loop x i a b c d p) q (inl e) = omega (arith, e)
below_top (for_loop x i a b c d p) q (inr (inl e)) = omega (arith, e)
below_top (for_loop x i a b c d p) q (inr (inr (inl h))) = omega (arith, below_top a q h)
below_top (for_loop x i a b c d p) q (inr (inr (inr (inl h)))) = omega (arith, below_top b q h)
below_top (for_loop x i a b c d p) q (inr (inr (inr (inr (inl h))))) = omega (arith, below_top c q h)
below_top (for_loop x i a b c d p) q (inr (inr (inr (inr (inr h))))) = omega (arith, below_top d q h)
below_top (array nested a b p) q (inl e) = omega (arith, e)
below_top (array nested a b p) q (inr (inl h)) = omega (arith, below_top a q h)
below_top (array nested a b p) q (inr (inr h)) = omega (arith, below_top b q h)
below_top (fetch t i p) q (inl e) = omega (arith, e)
below_top (fetch t i p) q (inr (inl h)) = omega (arith, below_top t q h)
below_top (fetch t i p) q (inr (inr h)) = omega (arith, below_top i q h)
below_top (binding x a p) q (inl e) = omega (arith, e)
below_top (binding x a p) q (inr h) = omega (arith, below_top a q h)
below_top (next x a p) q (inl e) = omega (arith, e)
below_top (next x a p) q (inr h) = omega (arith, below_top a q h)
below_top (store t i a p) q (inl e) = omega (arith, e)
below_top (store t i a p) q (inr (inl h)) = omega (arith, below_top t q h)
below_top (store t i a p) q (inr (inr (inl h))) = omega (arith, below_top i q h)
below_top (store t i a p) q (inr (inr (inr h))) = omega (arith, below_top a q h)
below_top (param x k p) q e = omega (arith, e)
below_top (define x a k b p) q (inl e) = omega (arith, e)
below_top (define x a k b p) q (inr (inl h)) = omega (arith, below_top a q h)
below_top (define x a k b p) q (inr (inr h)) = omega (arith, below_top b q h)
below_top none q h = absurd h
below_top (more a b) q (inl h) = omega (arith, below_top a q h)
below_top (more a b) q (inr h) = omega (arith, below_top b q h)

-- ---- a path and those above it

-- the front of some steps, and the whole
abbrev fronts : List PathStep → List (List PathStep)
fronts [] = [] ∷ []
fronts (s ∷ ss) = [] ∷ map (λ ts. s ∷ ts) (fronts ss)

whole_front : (ss : List PathStep) → Among ss (fronts ss)
whole_front [] = inl refl
whole_front (s ∷ ss) = inr (Among-map (λ ts. s ∷ ts) ss (fronts ss) (whole_front ss))

-- what is in front of a front is one
less_front : (ss ts : List PathStep) (x : PathStep) → Among (ts ++ x ∷ []) (fronts ss) → Among ts (fronts ss)
less_front [] [] x h = inl refl
less_front [] (t ∷ ts) x (inl e) = cc
less_front [] (t ∷ ts) x (inr h) = absurd h
less_front (s ∷ ss) [] x h = inl refl
less_front (s ∷ ss) (t ∷ ts) x (inl e) = cc
less_front (s ∷ ss) (t ∷ ts) x (inr h) =
    let y = Among-from_map (λ us. s ∷ us) (t ∷ (ts ++ x ∷ [])) (fronts ss) h in
    let head : t ≡ s = first_same y.2 in
    let rest : ts ++ x ∷ [] ≡ y.0 = rest_same y.2 in
    let there : Among ts (fronts ss) = less_front ss ts x (subst (λ us. Among us (fronts ss)) (sym rest) y.1) in
    inr (subst (λ z. Among (z ∷ ts) (map (λ us. s ∷ us) (fronts ss))) (sym head)
    (Among-map (λ us. s ∷ us) ts (fronts ss) there))
  where
    first_same : {a b : PathStep} {xs ys : List PathStep} → a ∷ xs ≡ b ∷ ys → a ≡ b
    first_same e = cc

    rest_same : {a b : PathStep} {xs ys : List PathStep} → a ∷ xs ≡ b ∷ ys → xs ≡ ys
    rest_same e = cc

-- the paths, with all that are above them
abbrev path_from : List PathStep → Path
path_from ss = record { steps = ss }

abbrev above : List Path → List Path
above ps = flat_map (λ (p : Path). map path_from (fronts p.steps)) ps

among_above : (ps : List Path) (p : Path) → Among p ps → Among p (above ps)
among_above ps p h =
    among_flat (λ (q : Path). map path_from (fronts q.steps)) p p ps h
    (Among-map path_from p.steps (fronts p.steps) (whole_front p.steps))

from_flat : {A B : Type 0} (f : A → List B) (y : B) (xs : List A) → Among y (flat_map f xs)
    → (x : A) × Among x xs × Among y (f x)
from_flat f y [] h = absurd h
from_flat f y (x ∷ xs) h = elim (Among-either y (f x) (flat_map f xs) h) [
  | inl here ↦ (x, inl refl, here)
  | inr rest ↦ let z = from_flat f y xs rest in (z.0, inr z.1, z.2)
]

above_front : (ps : List Path) (p : Path) (e k : ℕ) → Among (below p e k) (above ps) → Among p (above ps)
above_front ps p e k h =
    let x = from_flat (λ (q : Path). map path_from (fronts q.steps)) (below p e k) ps h in
    let q = x.0 in
    let y = Among-from_map path_from (below p e k) (fronts q.steps) x.2 in
    let same : p.steps ++ record { place = e; number = k } ∷ [] ≡ y.0 = ap (λ (r : Path). r.steps) y.2 in
    let there : Among (p.steps ++ record { place = e; number = k } ∷ []) (fronts q.steps) =
    subst (λ us. Among us (fronts q.steps)) (sym same) y.1 in
    among_flat (λ (r : Path). map path_from (fronts r.steps)) p q ps x.1
    (Among-map path_from p.steps (fronts q.steps) (less_front q.steps p.steps (record { place = e; number = k }) there))

-- ---- the facts of a source with finitely many paths

-- what a source has is among these
pub record IsFinite (S : Source) : Type 0 where
  pub paths : List Path
  pub on : (p : Path) (e : ℕ) → Holds S (On p e) → Among p paths
  pub names : List NameValue
  pub named : (n : NameValue) → IsNameValue S n → Among n names
  pub shapes : List Shape
  pub made : (x : Shape) → Holds S (fact.Shape x) → Among x shapes
  pub puts : List Put
  pub put : (x : Put) → Holds S (fact.Put x) → Among x puts
  pub asks : List Ask
  pub asked : (x : Ask) → Holds S (fact.Ask x) → Among x asks

module _ (S : Source) (one : IsCoherent S) (f : IsFinite S) where
  abbrev P : Checked
  P = S.checked

  abbrev name_path : NameValue → Path
  name_path n = n.path

  abbrev ask_path : Ask → Path
  ask_path a = (a.fetch).path

  -- all paths at which something Has a value
  abbrev all_paths : List Path
  all_paths = above (f.paths ++ (map name_path f.names ++ map ask_path f.asks))

  on_path : (p : Path) (e : ℕ) → Holds S (On p e) → Among p all_paths
  on_path p e h = among_above _ p (Among-left p f.paths _ (f.on p e h))

  -- a binder's value
  name_has_path : (p : Path) (b : ℕ) (v : SourceValue) (z : Node) → Stands P b z → is_binder z ≡ true
      → Holds S (Has p (place P b) v) → Among p all_paths
  name_has_path p b v z s is h =
      let n : NameValue = record { path = p; place = place P b; value = v } in
      let binder : IsBinder P (place P b) =
      record { row = b; within = s.within; binds = ap is_binder s.node ∙ is; here = refl } in
      among_above _ p (Among-right p f.paths _ (Among-left p (map name_path f.names) (map ask_path f.asks)
      (Among-map name_path n f.names (f.named n (record { binder = binder; holds = h })))))

  ask_has_path : (s : Ask) → Holds S (fact.Ask s) → Among (s.fetch).path all_paths
  ask_has_path s h =
      among_above _ (s.fetch).path
      (Among-right (s.fetch).path f.paths _ (Among-right (s.fetch).path (map name_path f.names) (map ask_path f.asks)
      (Among-map ask_path s f.asks (f.asked s h))))

  by_round : (n : ℕ) (g : Fact) → Rounds S n g → Holds S g
  by_round n g h = record { round = n; there = h }

  -- what Has a value does so at one of these paths
  has_path_by : (n : ℕ) → ((p : Path) (e : ℕ) (v : SourceValue) → Rounds S n (Has p e v) → Among p all_paths)
      → {fs : List Fact} {p : Path} {e : ℕ} {v : SourceValue} → Rule S fs (Has p e v) → Every (Rounds S n) fs
      → Holds S (Has p e v) → Among p all_paths
  has_path_by n ih (param_has i) h k = on_path outermost _ (by_round 1 _ (inr ([], main_on, tt)))
  has_path_by n ih (literal_has s) h k = on_path _ _ (by_round n _ h.0)
  has_path_by n ih (unary_has c s is) h k = on_path _ _ (by_round n _ h.0)
  has_path_by n ih (binary_has c d s is) h k = on_path _ _ (by_round n _ h.0)
  has_path_by n ih (name_has s is) h k = on_path _ _ (by_round n _ h.0)
  has_path_by n ih (conditional_has c) h k = on_path _ _ (by_round n _ h.0)
  has_path_by n ih (argument_has s t is def there) h k =
      on_path _ _ (by_round (suc n) _ (inr (_, callee_on s is def, (h.0, tt))))
  has_path_by n ih (call_has s is def) h k = on_path _ _ (by_round n _ h.0)
  has_path_by n ih (first_has {m = m} s x is) h k = name_has_path _ m _ _ x.next refl k
  has_path_by n ih (index_begins {x = x} s is) h k = name_has_path _ x _ _ s.index refl k
  has_path_by n ih (index_counts {x = x} p i s is) h k = name_has_path _ x _ _ s.index refl k
  has_path_by n ih (next_has {m = m} p i s x) h k = name_has_path _ m _ _ x.next refl k
  has_path_by n ih (loop_has p i s) h k = above_front _ p _ i (ih _ _ _ h.0)
  has_path_by n ih (block_has s) h k = on_path _ _ (by_round n _ h.0)
  has_path_by n ih (binding_has {n = b} s) h k = name_has_path _ b _ _ s refl k
  has_path_by n ih (array_has s is) h k = on_path _ _ (by_round n _ h.0)
  has_path_by n ih fetch_has h k = ask_has_path _ (by_round n _ h.0)

  has_path : (n : ℕ) (p : Path) (e : ℕ) (v : SourceValue) → Rounds S n (Has p e v) → Among p all_paths
  has_path zero p e v h = absurd h
  has_path (suc n) p e v h =
      let x = Rounds-follow S n (Has p e v) h in
      has_path_by n (has_path n) x.1 x.2 (by_round (suc n) (Has p e v) h)

  -- ---- facts but for what things have

  nothing : SourceValue
  nothing = value.Int (pos 0)

  key : Fact → Fact
  key (Has p e v) = Has p e nothing
  key g = g

  -- facts with one key are one
  one_key : (g h : Fact) → Holds S g → Holds S h → key g ≡ key h → g ≡ h
  unfolding key nothing
  one_key (Has p e v) (Has q d w) x y same =
      let path : p ≡ q = cc in
      let spot : e ≡ d = cc in
      let worth : v ≡ w =
      one.values q d v w (subst (λ z. Holds S (Has q z v)) spot (subst (λ r. Holds S (Has r e v)) path x)) y in
      λ i. Has (path i) (spot i) (worth i)
  one_key (Has p e v) (On q d) x y same = cc
  one_key (Has p e v) (fact.Shape s) x y same = cc
  one_key (Has p e v) (fact.Put s) x y same = cc
  one_key (Has p e v) (fact.Ask s) x y same = cc
  one_key (On p e) (Has q d w) x y same = cc
  one_key (On p e) (On q d) x y same = same
  one_key (On p e) (fact.Shape s) x y same = same
  one_key (On p e) (fact.Put s) x y same = same
  one_key (On p e) (fact.Ask s) x y same = same
  one_key (fact.Shape s) (Has q d w) x y same = cc
  one_key (fact.Shape s) (On q d) x y same = same
  one_key (fact.Shape s) (fact.Shape t) x y same = same
  one_key (fact.Shape s) (fact.Put t) x y same = same
  one_key (fact.Shape s) (fact.Ask t) x y same = same
  one_key (fact.Put s) (Has q d w) x y same = cc
  one_key (fact.Put s) (On q d) x y same = same
  one_key (fact.Put s) (fact.Shape t) x y same = same
  one_key (fact.Put s) (fact.Put t) x y same = same
  one_key (fact.Put s) (fact.Ask t) x y same = same
  one_key (fact.Ask s) (Has q d w) x y same = cc
  one_key (fact.Ask s) (On q d) x y same = same
  one_key (fact.Ask s) (fact.Shape t) x y same = same
  one_key (fact.Ask s) (fact.Put t) x y same = same
  one_key (fact.Ask s) (fact.Ask t) x y same = same

  spots : List ℕ
  spots = up_to (top (tree P))

  in_spots : (e : ℕ) → HasPlace (tree P) e → Among e spots
  unfolding spots
  in_spots e h = among_up_to (top (tree P)) e (below_top (tree P) e h)

  abbrev ons_at : Path → List Fact
  ons_at p = map (λ e. On p e) spots

  abbrev hass_at : Path → List Fact
  hass_at p = map (λ e. Has p e nothing) spots

  abbrev ons : List Fact
  ons = flat_map ons_at all_paths

  abbrev hass : List Fact
  hass = flat_map hass_at all_paths

  abbrev shapes : List Fact
  shapes = map (λ s. fact.Shape s) f.shapes

  abbrev puts : List Fact
  puts = map (λ s. fact.Put s) f.puts

  abbrev asks : List Fact
  asks = map (λ s. fact.Ask s) f.asks

  -- all keys
  abbrev keys : List Fact
  keys = ons ++ (hass ++ (shapes ++ (puts ++ asks)))

  in_keys : (g : Fact) → Holds S g → Among (key g) keys
  unfolding key
  in_keys (On p e) h =
      let at = holds_placed S (On p e) h in
      Among-left (On p e) ons _
      (among_flat ons_at (On p e) p all_paths (on_path p e h) (Among-map (λ d. On p d) e spots (in_spots e at.place)))
  in_keys (Has p e v) h =
      let at = holds_placed S (Has p e v) h in
      let spot = at.0 in
      Among-right (Has p e nothing) ons _ (Among-left (Has p e nothing) hass _
      (among_flat hass_at (Has p e nothing) p all_paths (has_path h.round p e v h.there)
      (Among-map (λ d. Has p d nothing) e spots (in_spots e spot.place))))
  in_keys (fact.Shape s) h =
      Among-right (fact.Shape s) ons _
      (Among-right (fact.Shape s) hass _
      (Among-left (fact.Shape s) shapes _ (Among-map (λ t. fact.Shape t) s f.shapes (f.made s h))))
  in_keys (fact.Put s) h =
      Among-right (fact.Put s) ons _ (Among-right (fact.Put s) hass _ (Among-right (fact.Put s) shapes _
      (Among-left (fact.Put s) puts asks (Among-map (λ t. fact.Put t) s f.puts (f.put s h)))))
  in_keys (fact.Ask s) h =
      Among-right (fact.Ask s) ons _ (Among-right (fact.Ask s) hass _ (Among-right (fact.Ask s) shapes _
      (Among-right (fact.Ask s) puts asks (Among-map (λ t. fact.Ask t) s f.asks (f.asked s h)))))

  -- facts that differ are no more than the keys
  few_facts : (gs : List Fact) → AllDiffer gs → ((g : Fact) → Among g gs → Holds S g) → length gs ≤ length keys
  few_facts gs differ hold =
      omega (
        arith,
        length-map gs key,
        AllDiffer-few (map key gs) keys (differ_map key gs differ (λ x y a b e. one_key x y (hold x a) (hold y b) e))
            (λ k h. let y = Among-from_map key k gs h in
            subst (λ z. Among z keys) (sym y.2) (in_keys y.0 (hold y.0 y.1))),
      )

  -- so all facts are of this round
  in_last : (g : Fact) → Holds S g → Rounds S (length keys) g
  in_last g h =
      let x = in_chain S g h in
      let few =
      few_facts x.list (chain_differs S x.list x.chain)
      (λ k l. by_round (length x.list) k (chain_holds S x.list x.chain k l)) in
      later S (length x.list) (length keys) g few (chain_holds S x.list x.chain g x.there)

-- all facts of such a source are those of one round
pub last_round : (S : Source) → IsCoherent S → IsFinite S → (n : ℕ) × ((g : Fact) → Holds S g → Rounds S n g)
last_round S one f = (length (keys S one f), in_last S one f)
