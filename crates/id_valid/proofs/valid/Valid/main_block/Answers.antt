use Rattle.std.proofs.Common.{refl, subst}
use Rattle.id_valid.specs.Validator.{IsAnswer, IsMainBlock}
use Rattle.id_instr.specs.Graph.{Parts}
use Rattle.id_valid.proofs.ValidatorLemmas.{IsMainBlock-valid}
use Rattle.id_valid.proofs.valid.Valid.main_block.Goals as goal

-- a valid graph has an answer, and so a main block
pub unreachable-requires : goal.unreachable-requires
unreachable-requires c =
    let answer : IsAnswer c.self.inside.graph = (c.self.invariant.sound 0).answer refl
    in c.in-None.ensures answer.block answer.main

-- the graph is valid
pub returns-clause-kept : goal.returns-clause-kept
returns-clause-kept c =
    let P : Parts → Type 0 = λ g. IsMainBlock g c.in-Some.block.now
    in subst P c.self.view_is (IsMainBlock-valid _ _ c.self.invariant c.in-Some.ensures)
