use Rattle.std.proofs.Common.{length, subst}
use Rattle.id_check.specs.Literals.{AreLiterals}
use Rattle.id_check.proofs.program.with_columns.Goals as goal

pub invariant_of-result : goal.invariant_of-result
invariant_of-result c =
    let t = c.args.tabled in
    let j = c.requires in
    record {
      tabled = t.tabled;
      named = t.named;
      distinct = t.distinct;
      is_main = j.is_main;
      bound = j.bound;
      kinded = j.kinded;
      deep = j.deep.each;
      accepted = j.accepted;
      literals = subst (λ rs. AreLiterals rs (length rs)) c.as_slice.ensures.value c.see_literals.ensures;
    }
