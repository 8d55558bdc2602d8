-- There is one main block, and there are as many inputs as entries that take them.
use Rattle.std.proofs.Common.{◌≡◌, ◌∷◌, List, [], length, sym, ap, subst, ◌∙◌}
use Rattle.std.proofs.lemmas.Bool.{eqb-true}
use Rattle.id_instr.specs.declared.instr.Block.{Block}
use Rattle.id_core.specs.Machines.{AreTaken}
use Rattle.id_core.proofs.InputsLemmas.{length-taken}
use Rattle.id_core.proofs.entering.takes_inputs.Goals as goal

same_first : (a b : Block) (xs : List Block) → xs ≡ a ∷ [] → xs ≡ b ∷ [] → a ≡ b
same_first a b xs one other = cc

pub returns-then-entries-values : goal.returns-then-entries-values
returns-then-entries-values c =
    let g = c.args.graph.now in
    let vs = c.args.inputs.now.values in
    let block = c.main_block.result.now in
    let P : Block → Type 0 = λ b. AreTaken g b.entries vs in (
      λ yes.
          let all : AreTaken g block.entries vs =
          rw (← c.graph.ensures.value, ← c.as_slice-entries.ensures, ← c.as_slice-values.ensures)
          (c.are_taken.ensures.0 yes) in
          record { taken = λ b main. subst P (same_first block b _ c.main_block.ensures.main main) all },
      λ takes.
          c.are_taken.ensures.1 (rw (c.graph.ensures.value, c.as_slice-entries.ensures, c.as_slice-values.ensures)
          (takes.taken block c.main_block.ensures.main)),
    )

pub returns-else-entries-values : goal.returns-else-entries-values
returns-else-entries-values c =
    let block = c.main_block.result.now in
    let other = c.if-entries-values.false in (
      λ yes. absurd (other (eqb-true _ _ yes)),
      λ takes.
          let same =
          length-taken c.args.graph.now block.entries c.args.inputs.now.values
          (takes.taken block c.main_block.ensures.main) in
          absurd (other (ap length c.as_slice-entries.ensures ∙ same ∙ sym (ap length c.as_slice-values.ensures))),
    )

pub are_taken-requires : goal.are_taken-requires
are_taken-requires c = c.if-entries-values.true
