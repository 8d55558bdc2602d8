-- Lemmas on specs/OneProgram.antt: programs alike have one graph of their own.
use Rattle.std.proofs.Common.{◌≡◌, ◌+◌, ◌<◌, ◌≤◌, ◌⊎◌, inl, inr, ℕ, zero, suc, List, [], ◌∷◌, ◌++◌, length, map, refl}
use Rattle.std.proofs.Common.{sym, ap, subst, ◌∙◌}
use Rattle.std.specs.Prelude.{◌==◌, if◌then◌else◌, nat_eq, not}
use Rattle.std.proofs.lemmas.Bool.{cases_lt}
use Rattle.id_table.specs.declared.row.Row.{Row}
use Rattle.id_table.specs.declared.row.Node.TheVariants.{Head}
use Rattle.id_table.specs.Rows.{at}
use Rattle.id_check.specs.declared.checked.Checked.{Checked}
use Rattle.id_check.specs.Programs.{place, rows}
use Rattle.id_desugar.specs.Regions.{is_loop_head, loop_heads, loops_by, order_by, order_of, those}
use Rattle.id_instr.specs.Graph.{Parts}
use Rattle.id_instr.specs.declared.instr.Op.TheVariants as op
use Rattle.id_instr.specs.declared.instr.PortKind.TheVariants as port
use Rattle.id_build.specs.declared.arc.Form.TheVariants.{Plain}
use Rattle.id_build.specs.Made.{arc_of, arcs_in, first_in, graph_by, instrs_from, number_by, pieces_in}
use Rattle.id_build.specs.Own.{IsOwn, own_number}
use Rattle.id_build.specs.Rows as pieces
use Rattle.id_build.specs.Rows.{feeds, made}
use Rattle.id_build.specs.Schemas.{Numbered}
use Rattle.id_build.proofs.OneOwnLemmas.{one_own}
use Rattle.id_promises.specs.OneProgram.{AreAlike}
use Rattle.id_promises.proofs.SameFactsLemmas.{AreAlike-sym}
use Rattle.id_promises.proofs.SameGraphsLemmas.{Numbered-alike, all_heads_same, beyond, block_of_same, end_same}
use Rattle.id_promises.proofs.SameGraphsLemmas.{feeds_same, loop_heads_same}
use Rattle.id_promises.proofs.SameGraphsLemmas.{made_same, node_same, place_same}

module _ (P Q : Checked) (a : AreAlike P Q) where
  -- ---- the order of rows

  loops_by_same : (n : ℕ) (hs : List ℕ) → loops_by P n hs ≡ loops_by Q n hs
  loops_by_same n [] = refl
  loops_by_same n (h ∷ hs) =
      let rest = loops_by_same n hs in
      λ j. those (λ i. nat_eq (at (a.rows j) i).block h) n ++ rest j

  order_by_same : (n : ℕ) → order_by P n ≡ order_by Q n
  order_by_same zero = refl
  order_by_same (suc n) =
      let loops : loops_by P n (loop_heads P) ≡ loops_by Q n (loop_heads Q) =
      loops_by_same n (loop_heads P) ∙ ap (loops_by Q n) (loop_heads_same P Q a) in
      λ j. n ∷ (those (λ i. not (is_loop_head (at (a.rows j) (at (a.rows j) i).block).node)) n ++ loops j)

  order_same : order_of P ≡ order_of Q
  order_same = order_by_same (length (rows P)) ∙ ap (λ (X : List Row). order_by Q (length X)) a.rows

  -- ---- what rows make, also those behind the last

  head_same : (n p : ℕ) → pieces.made_of P n p Head ≡ pieces.made_of Q n p Head
  head_same n p = λ j. pieces.piece (Plain (op.Merge port.Signal)) p
      ∷ pieces.piece (Plain (op.Back (pieces.port_of (pieces.result_of (at (a.rows j) (end_same P Q a n j)).node)))) p
      ∷ []

  made_all : (n : ℕ) → made P n ≡ made Q n
  made_all n = by (cases_lt n (length (rows P)))
    where
      by : (n < length (rows P)) ⊎ (length (rows P) ≤ n) → made P n ≡ made Q n
      by (inl l) = made_same P Q a n l
      by (inr past) =
          let head : pieces.node P n ≡ Head = ap (λ (r : Row). r.node) (beyond (rows P) n past) in
          ap (pieces.made_of P n (place P n)) head ∙ head_same n (place P n)
          ∙ ap (pieces.made_of Q n (place P n)) (sym head ∙ node_same P Q a n)
          ∙ ap (λ e. pieces.made_of Q n e (pieces.node Q n)) (place_same P Q a n)

  first_in_same : (order : List ℕ) (m n : ℕ) → first_in P m order n ≡ first_in Q m order n
  first_in_same [] m n = refl
  first_in_same (x ∷ xs) m n =
      let rest = first_in_same xs (m + length (made P x)) n ∙ ap (λ ps. first_in Q (m + length ps) xs n) (made_all x) in
      λ j. if x == n then m else rest j

  pieces_in_same : (order : List ℕ) → pieces_in P order ≡ pieces_in Q order
  pieces_in_same [] = refl
  pieces_in_same (x ∷ xs) = let rest = pieces_in_same xs in λ j. made_all x j ++ rest j

  arcs_in_same : (F order : List ℕ) → arcs_in P F order ≡ arcs_in Q F order
  arcs_in_same F [] = refl
  arcs_in_same F (x ∷ xs) = let rest = arcs_in_same F xs in λ j. map (arc_of F x) (feeds_same P Q a x j) ++ rest j

  graph_by_same : (order F : List ℕ) → graph_by P order F ≡ graph_by Q order F
  graph_by_same order F = λ j. record {
    blocks = map (λ h. block_of_same P Q a (number_by F) h j) (all_heads_same P Q a j);
    instrs = instrs_from F 0 (pieces_in_same order j) (arcs_in_same F order j);
  }

  -- ---- numbers

  first_same : (n : ℕ) → first_in P 0 (order_of P) n ≡ first_in Q 0 (order_of Q) n
  first_same n = first_in_same (order_of P) 0 n ∙ ap (λ o. first_in Q 0 o n) order_same

  pub own_number_same : (n k : ℕ) → own_number P n k ≡ own_number Q n k
  own_number_same n k = ap (λ m. m + k) (first_same n)

-- the own graph of the one is that of the other
IsOwn-alike : (P Q : Checked) → AreAlike P Q → AreAlike Q P → (g : Parts) → IsOwn P g → IsOwn Q g
IsOwn-alike P Q a b g h = record {
  numbered =
      let numbers : own_number P ≡ own_number Q = λ j. λ n k. own_number_same P Q a n k j in
      subst (Numbered Q g) numbers (Numbered-alike P Q a b g (own_number P) h.numbered);
  firsts = h.firsts;
  are_firsts = record {
    many = (h.are_firsts).many ∙ ap (λ (X : List Row). length X) a.rows;
    at = λ n l. (h.are_firsts).at n (subst (λ (X : List Row). n < length X) (sym a.rows) l) ∙ first_same P Q a n;
  };
  is = h.is ∙ graph_by_same P Q a (order_of P) h.firsts ∙ ap (λ o. graph_by Q o h.firsts) (order_same P Q a);
}

pub one_graph : (P Q : Checked) → AreAlike P Q → (g h : Parts) → IsOwn P g → IsOwn Q h → g ≡ h
one_graph P Q a g h own other = one_own Q g h (IsOwn-alike P Q a (AreAlike-sym P Q a) g own) other
