-- One row more without edges.
use Rattle.std.proofs.Common.{ℕ, List, Vec, Global, sym, subst, arith}
use Rattle.id_value.specs.List.{Among}
use Rattle.id_source.specs.Links.{targets}
use Rattle.id_source.proofs.EdgesLemmas.{none-push}
use Rattle.id_source.proofs.edges.Edges.new.Goals as goal

pub loop-row-preserved : goal.loop-row-preserved
loop-row-preserved c =
    let F : List (Vec ℕ Global) → Type 0 = λ vs. (a b : ℕ) → Among b (targets vs a) → ⊥ in
    record {
      wide = grind (arith, c.in_ok-push.ensures.len, c.loop-row.invariant.wide);
      none = subst F (sym c.in_ok-push.ensures.items) (none-push _ _ c.new.ensures.items c.loop-row.invariant.none);
    }
