use Rattle.std.proofs.Common.{◌==◌, arith}
use Rattle.std.proofs.lemmas.Bool.Decides.{nat_tests}
use Rattle.id_valid.proofs.past.lower.Goals as goal

-- the number alone is the least that equals it
pub returns-else-number-end : goal.returns-else-number-end
returns-else-number-end c test least =
    c.earlier.ensures test (λ k. c.args.number == k) c.args.end least
    (record {
      past = omega arith;
      passes = grind (arith, nat_tests);
      before = λ k from below. grind (arith, nat_tests);
    })
