-- What stands where in a loop with an index.
use Rattle.std.proofs.Common.{◌≡◌, inl, inr, ℕ, suc, ◌+◌, ◌-◌, ◌<◌, Some, List, length, true, refl, ap, sym, ◌∙◌, subst}
use Rattle.std.proofs.Common.{arith}
use Rattle.std.proofs.lemmas.Bool.{cases_lt, false≢true}
use Rattle.id_table.specs.declared.row.Node.{Node}
use Rattle.id_table.specs.declared.row.Node.TheVariants.{Bounds, Index, Loop, LoopHead, Start, Within}
use Rattle.id_table.specs.declared.row.Row.{Row}
use Rattle.id_table.specs.Rows.{at}
use Rattle.id_table.specs.Loops.{AreBounds, Begins, IsLoop, IsLoopOf, IsTest, IsTurn, behind_count, bounds_row, depth}
use Rattle.id_table.specs.Loops.{flag, index_row, loops_from, plainly}
use Rattle.id_table.specs.Loops.{predicate, right, upper_at, upper_of, with_bounds}
use Rattle.id_table.specs.Tables.{HasNear, HasOperand, HasPart, begins_block, is_expression, is_thing, is_within}
use Rattle.id_table.proofs.DepthLemmas.{depth-head}
use Rattle.id_check.specs.declared.checked.Checked.{Checked}
use Rattle.id_check.specs.Programs.{Stands, rows}
use Rattle.id_check.proofs.ProgramsLemmas.{table_of}
use Rattle.id_facts.specs.declared.facts.RowFact.{RowFact}
use Rattle.id_facts.specs.declared.facts.Trail.{Trail}
use Rattle.id_facts.specs.declared.facts.Trail.TheVariants.{Below}
use Rattle.id_facts.specs.RowFacts.{path_of}
use Rattle.id_facts.proofs.FactsLemmas.{IsOnBy}
use Rattle.id_source.specs.Links.{awaited, awaited_of, far_from}
use Rattle.id_facts.specs.Cells.{out_of}
use Rattle.id_source.specs.Sources.{Source}
use Rattle.id_source.specs.Facts.{ForStands}
use Rattle.id_source.proofs.CheckedLemmas.{far-between, loop-of, loop-rows, within-there}
use Rattle.id_meaning.proofs.ArgumentsLemmas.{row-within}

-- a loop that carries three entries on has an index and bounds
index-behind : (R : List Row) (w t c : ℕ) → IsTurn R w t c → c ≡ 3 → (x : ℕ) × ((at R (index_row w)).node ≡ Index x)
index-behind R w t c (right e) q = absurd (omega (arith, q))
index-behind R w t c (behind_count {x = x} e f g) q = (x, g)

bounds-before : (R : List Row) (s n c : ℕ) → Begins R s n c → c ≡ 3 → (i : ℕ) × (i + 1 ≡ s) × AreBounds R i n
bounds-before R s n c (plainly e) q = absurd (omega (arith, q))
bounds-before R s n c (with_bounds {c = i} e a) q = (i, e, a)

no-expression : (z : Node) → is_expression z ≡ true → is_within z ≡ true → ⊥
no-expression (Within f) e k = false≢true e
no-expression _ e k = false≢true k

three-by-test : (R : List Row) (h t c : ℕ) → IsTest R h t c → is_within (at R t).node ≡ true → c ≡ 3
three-by-test R h t c (predicate e) q = absurd (no-expression (at R t).node e q)
three-by-test R h t c (flag e) q = refl

loop-parts : (h w l g v m : ℕ) → Loop h w l ≡ Loop g v m → (h ≡ g) × (w ≡ v) × (l ≡ m)
loop-parts h w l g v m e = (cc, cc, cc)

module _ (P : Checked) where
  abbrev R : List Row
  R = rows P

  index-stands : (x y : ℕ) → (at R x).node ≡ Index y → Stands P x (Index y)
  index-stands x y e = record { within = row-within R x is_thing refl (ap is_thing e); node = e }

  -- where an index stands behind the switches, three entries are carried on
  three-by-index : (n h w l y : ℕ) (st : Stands P n (Loop h w l)) → (at R (index_row w)).node ≡ Index y
      → (loop-rows P n h w l st).carried ≡ 3
  three-by-index n h w l y st e =
      let c = loop-rows P n h w l st in
      three-by-test R h c.test.test c.carried c.test.test_is
      (within-there P w c.test.test (index_row w) y c.test.node (index-stands (index_row w) y e) refl)

  head-within : (n h w l : ℕ) → Stands P n (Loop h w l) → h < length R
  head-within n h w l st =
      let F : Node → Type 0 = λ z. HasPart z h in
      let k = ((table_of P).formed.each n st.within).parts h (subst F (sym st.node) (inl refl)) in
      let b = st.within in
      omega (arith, k.1)

  for-with : (n h w l a b y : ℕ) → Stands P n (Loop h w l) → (at R (bounds_row h)).node ≡ Bounds a b
      → (at R (index_row w)).node ≡ Index y → ForStands P n w (index_row w) a b l
  for-with n h w l a b y st e f =
      let k = head-within n h w l st in
      record {
        head = h;
        name = y;
        loop = st;
        bounds = record { within = omega (arith, k); node = e };
        index = index-stands (index_row w) y f;
        behind = refl;
      }

  -- a loop that has an index has bounds
  bounds-by-index : (n h w l y : ℕ) → Stands P n (Loop h w l) → (at R (index_row w)).node ≡ Index y
      → (a b : ℕ) × ((at R (bounds_row h)).node ≡ Bounds a b)
  bounds-by-index n h w l y st e =
      let c = loop-rows P n h w l st in
      let d = bounds-before R c.start n c.carried c.from (three-by-index n h w l y st e) in
      let q : bounds_row h ≡ d.0 = (let f = c.begins in let g = d.1 in omega arith) in
      (d.2.lower, d.2.upper, ap (λ j. (at R j).node) q ∙ d.2.node)

  -- and one that has bounds has an index
  abbrev Three : ℕ → Type 0
  Three h = (m : ℕ) × (c : IsLoopOf R m h) × (((table_of P).loop_is m h c).carried ≡ 3)

  index-by-three : (n h w l : ℕ) → Stands P n (Loop h w l) → Three h → (y : ℕ) × ((at R (index_row w)).node ≡ Index y)
  index-by-three n h w l st z =
      let d = (table_of P).loop_is z.0 h z.1 in
      let i = index-behind R z.1.switches d.turn d.carried d.body_is.turns z.2 in
      let m : z.0 ≡ n = (table_of P).one_loop z.0 n h z.1 (loop-of P n h w l st) in
      let s = loop-parts h z.1.switches z.1.last h w l (sym z.1.node ∙ ap (λ j. (at R j).node) m ∙ st.node) in
      (i.0, ap (λ j. (at R (index_row j)).node) (sym s.1) ∙ i.1)

  start-no-bounds : (a b : ℕ) → Start ≡ Bounds a b → ⊥
  start-no-bounds a b e = cc

  index-by-bounds : (n h w l a b : ℕ) → Stands P n (Loop h w l) → (at R (bounds_row h)).node ≡ Bounds a b
      → (y : ℕ) × ((at R (index_row w)).node ≡ Index y)
  index-by-bounds n h w l a b st e = elim (cases_lt h 2) [
    | inl low ↦
        let q : bounds_row h ≡ c.start = (let f = c.begins in omega arith) in
        absurd (start-no-bounds a b (sym c.start_of.node ∙ ap (λ j. (at R j).node) (sym q) ∙ e))
    | inr high ↦
        let k = head-within n h w l st in
        let q : bounds_row h + 2 ≡ h = omega arith in
        index-by-three n h w l st (subst Three q ((table_of P).bounds_of (bounds_row h) a b (omega (arith, k)) e))
  ]
    where
      c : IsLoop R n h w l
      c = loop-rows P n h w l st

  pub for-by-bounds : (n h w l a b : ℕ) → Stands P n (Loop h w l) → (at R (bounds_row h)).node ≡ Bounds a b
      → ForStands P n w (index_row w) a b l
  for-by-bounds n h w l a b st e = let i = index-by-bounds n h w l a b st e in for-with n h w l a b i.0 st e i.1

  -- an index of the loop's block is the loop's
  abbrev Behind : ℕ → ℕ → Type 0
  Behind x h = (m : ℕ) × (c : IsLoopOf R m h) × (index_row c.switches ≡ x)

  pub for-by-index : (n h w l x y : ℕ) → Stands P n (Loop h w l) → (at R x).node ≡ Index y → (at R x).block ≡ h
      → (a b : ℕ) × ForStands P n w x a b l
  for-by-index n h w l x y st e q =
      let u = index-stands x y e in
      let k = (table_of P).index_of x y u.within e in
      let z : Behind x (at R x).block = (k.0, k.1, k.3) in
      let o = subst (Behind x) q z in
      let m : o.0 ≡ n = (table_of P).one_loop o.0 n h o.1 (loop-of P n h w l st) in
      let s = loop-parts h o.1.switches o.1.last h w l (sym o.1.node ∙ ap (λ j. (at R j).node) m ∙ st.node) in
      let i : index_row w ≡ x = ap index_row (sym s.1) ∙ o.2 in
      let f : (at R (index_row w)).node ≡ Index y = ap (λ j. (at R j).node) i ∙ e in
      let d = bounds-by-index n h w l y st f in
      let F : ℕ → Type 0 = λ j. ForStands P n w j d.0 d.1 l in
      (d.0, d.1, subst F i (for-with n h w l d.0 d.1 y st d.2 f))

  module _ (n w x a b l : ℕ) (s : ForStands P n w x a b l) where
    abbrev rows_of_loop : IsLoop R n s.head w l
    rows_of_loop = loop-rows P n s.head w l s.loop

    -- the index stands in the block of the loop
    pub index-block : (at R x).block ≡ s.head
    index-block =
        let z = (table_of P).index_of x s.name s.index.within s.index.node in
        let c = (table_of P).loop_is z.0 (at R x).block z.1 in
        let f : z.1.switches + 3 ≡ w + 3 = z.3 ∙ s.behind in
        let q : z.1.switches ≡ w = omega (arith, f) in
        sym c.test.block ∙ ap (λ i. (at R i).block) q ∙ rows_of_loop.test.block

    -- it waits for the upper bound
    pub index-awaits : awaited P x ≡ Some b
    index-awaits =
        ap (λ z. awaited_of P x z) s.index.node ∙ ap (λ h. upper_at R h) index-block ∙ ap upper_of s.bounds.node

    -- the upper bound stands where the loop does
    upper-block : (at R b).block ≡ (at R n).block
    upper-block =
        let T = table_of P in
        let c = rows_of_loop in
        let y : (at R (index_row w)).node ≡ Index s.name = ap (λ j. (at R j).node) (sym s.behind) ∙ s.index.node in
        let d = bounds-before R c.start n c.carried c.from (three-by-index n s.head w l s.name s.loop y) in
        let q : bounds_row s.head ≡ d.0 = (let f = c.begins in let g = d.1 in omega arith) in
        let F : Node → Type 0 = λ z. HasNear z b in
        let near : HasNear (at R (bounds_row s.head)).node b = subst F (sym s.bounds.node) (inr refl) in
        (T.part_stands (bounds_row s.head) b s.bounds.within near).0 ∙ ap (λ j. (at R j).block) q ∙ d.2.beside.block

    -- round the index there is one loop more than round its upper bound
    deeper : depth R x ≡ suc (depth R b)
    deeper =
        let T = table_of P in
        let c = rows_of_loop in
        let h = s.head in
        let k = head-within n h w l s.loop in
        let e : (at R h).node ≡ LoopHead (h - 1) = c.before_test.head in
        let own : (at R h).block ≡ h = T.head_block h k (ap begins_block e) in
        let start : h - 1 ≡ c.start = (let f = c.begins in omega arith) in
        let D : ℕ → ℕ = λ i. loops_from R (length R) (at R i).node in
        let same : (at R (h - 1)).block ≡ (at R b).block =
        ap (λ i. (at R i).block) start ∙ c.start_of.beside.block ∙ sym upper-block in
        ap D (index-block ∙ sym own) ∙ depth-head R T h (h - 1) k e ∙ ap (λ i. suc (D i)) same

    -- and is another row
    pub upper-differs : b ≡ x → ⊥
    upper-differs e =
        let F : Node → Type 0 = λ z. HasOperand z b in
        let k = (table_of P).operand_is (bounds_row s.head) b s.bounds.within
        (subst F (sym s.bounds.node) (inr refl)) in
        false≢true (sym (ap (λ j. is_expression (at R j).node) e ∙ ap is_expression s.index.node) ∙ k)

    upper-within : b < length R
    upper-within =
        let F : Node → Type 0 = λ z. HasPart z b in
        let k = ((table_of P).formed.each (bounds_row s.head) s.bounds.within).parts b
        (subst F (sym s.bounds.node) (inr refl)) in
        let i = s.bounds.within in
        omega (arith, k.1)

-- where the index of a loop looks for its upper bound
pub upper-path : (S : Source) (n w x a b l : ℕ) (s : ForStands S.checked n w x a b l) (fs : List RowFact) (i k : ℕ)
    (p : Trail) → IsOnBy fs i p n → out_of fs (far_from S.checked x (Some b)) (Below i k) ≡ p
upper-path S n w x a b l s fs i k p o =
    let R = rows S.checked in
    let d = deeper S.checked n w x a b l s in
    let one : depth R x - depth R b ≡ 1 = omega (arith, d) in
    let far : far_from S.checked x (Some b) ≡ 1 =
    far-between S x b s.index.within (upper-within S.checked n w x a b l s) ∙ one in
    ap (λ d. out_of fs d (Below i k)) far ∙ ap path_of o.fact
