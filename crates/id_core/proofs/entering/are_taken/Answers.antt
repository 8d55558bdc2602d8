-- One more entry takes its input; where one does not take its own, not all do.
use Rattle.std.proofs.Common.{◌≡◌, ℕ, zero, suc, ◌+◌, ◌<◌, ◌≤◌, List, [], ◌∷◌, length, take, get_or, Some, refl, sym}
use Rattle.std.proofs.Common.{ap, subst, ◌∙◌, arith}
use Rattle.std.proofs.lemmas.List.{take_all}
use Rattle.id_instr.specs.declared.instr.Op.TheVariants.{Merge}
use Rattle.id_instr.specs.Graph.{Parts}
use Rattle.id_value.specs.declared.Constant.{Constant}
use Rattle.id_ops.specs.Operators.{constant_value}
use Rattle.id_tag.specs.Kinds.{kind_of}
use Rattle.id_valid.specs.Roles.{op_at}
use Rattle.id_core.specs.Machines.{AreTaken}
use Rattle.id_core.proofs.entering.are_taken.Goals as goal

AreTaken-more : (g : Parts) (ns : List ℕ) (vs : List Constant) (i d : ℕ) (e : Constant) → i < length ns
    → length ns ≡ length vs → AreTaken g (take i ns) (take i vs)
    → op_at g (get_or ns i d) ≡ Some (Merge (kind_of (constant_value (get_or vs i e))))
    → AreTaken g (take (suc i) ns) (take (suc i) vs)
AreTaken-more g [] vs i d e lt same old new = let no : ⊥ = omega (arith, lt) in absurd no
AreTaken-more g (n ∷ ns) [] i d e lt same old new = let no : ⊥ = omega (arith, lt, same) in absurd no
AreTaken-more g (n ∷ ns) (v ∷ vs) zero d e lt same old new = (new, tt)
AreTaken-more g (n ∷ ns) (v ∷ vs) (suc i) d e lt same old new =
    (old.0, AreTaken-more g ns vs i d e (omega (arith, lt)) (omega (arith, same)) old.1 new)

AreTaken-at : (g : Parts) (ns : List ℕ) (vs : List Constant) (i d : ℕ) (e : Constant) → i < length ns
    → AreTaken g ns vs → op_at g (get_or ns i d) ≡ Some (Merge (kind_of (constant_value (get_or vs i e))))
AreTaken-at g [] vs i d e lt taken = let no : ⊥ = omega (arith, lt) in absurd no
AreTaken-at g (n ∷ ns) [] i d e lt taken = absurd taken
AreTaken-at g (n ∷ ns) (v ∷ vs) zero d e lt taken = taken.0
AreTaken-at g (n ∷ ns) (v ∷ vs) (suc i) d e lt taken = AreTaken-at g ns vs i d e (omega (arith, lt)) taken.1

pub loop-index-preserved : goal.loop-index-preserved
loop-index-preserved c =
    let g = c.args.graph.now in
    let ns = c.args.entries.now in
    let vs = c.args.inputs.now in
    let i = c.loop-index.index in
    let kind = c.kind.ensures ∙ ap kind_of c.value_of-value.ensures in
    let op = sym c.op_at.ensures ∙ c.if-not-is_merge.ensures.0 refl ∙ ap (λ k. Some (Merge k)) kind in
    let next : suc i ≡ i + 1 = omega arith in
    let P : ℕ → Type 0 = λ j. AreTaken g (take j ns) (take j vs) in
    subst P next (AreTaken-more g ns vs i _ _ c.loop-index-test.true c.requires c.loop-index.invariant op)

pub returns-then-not-is_merge : goal.returns-then-not-is_merge
returns-then-not-is_merge c =
    let kind = c.kind.ensures ∙ ap kind_of c.value_of-value.ensures in
    let wanted = ap (λ k. Some (Merge k)) kind in (
      λ no. cc,
      λ taken.
          let op = AreTaken-at c.args.graph.now c.args.entries.now c.args.inputs.now c.loop-index.index _ _
          c.loop-index-test.true taken in
          sym c.if-not-is_merge.true ∙ c.is_merge.ensures.1 (c.op_at.ensures ∙ op ∙ sym wanted),
    )

pub returns : goal.returns
returns c =
    let g = c.args.graph.now in
    let ns = c.args.entries.now in
    let vs = c.args.inputs.now in
    let i = c.loop-index.index in
    let all : length ns ≤ i = omega arith in
    let many : length vs ≤ i = omega (arith, all, c.requires) in
    let P : List ℕ → Type 0 = λ xs. AreTaken g xs vs in
    let Q : List Constant → Type 0 = λ ys. AreTaken g (take i ns) ys in
    (λ _. subst P (take_all i ns all) (subst Q (take_all i vs many) c.loop-index.invariant), λ _. refl)
