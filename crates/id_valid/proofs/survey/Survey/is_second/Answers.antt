use Rattle.std.proofs.Common.{◌≡◌, arith, sym}
use Rattle.id_valid.proofs.RolesLemmas.{is_second-zero}
use Rattle.id_valid.proofs.survey.Survey.is_second.Goals as goal

-- instruction 0 comes after none
pub returns-else-number-gt0 : goal.returns-else-number-gt0
returns-else-number-gt0 c =
    let none : c.args.number ≡ 0 = omega arith in rw none (sym (is_second-zero c.args.self.now.blocks))
