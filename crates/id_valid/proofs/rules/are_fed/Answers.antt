use Rattle.std.specs.Prelude.{IsSome}
use Rattle.id_instr.specs.declared.dests.Port.{Port}
use Rattle.id_instr.specs.declared.dests.Port.TheVariants.{Zero, One}
use Rattle.id_instr.specs.Ports.{port_kind}
use Rattle.id_valid.specs.Validator.{IsFed}
use Rattle.id_valid.proofs.rules.are_fed.Goals as goal

-- what holds of port 0 and of port 1 holds of each port
each_port : (P : Port → Type 0) → P Zero → P One → (p : Port) → P p
each_port P zero one Zero = zero
each_port P zero one One = one

pub returns-then-is_fed : goal.returns-then-is_fed
returns-then-is_fed c =
    let P : Port → Type 0 = λ p. IsSome (port_kind c.args.op p) → IsFed c.args.survey.now c.args.number c.args.op p in (
      λ yes. each_port P (c.is_fed.ensures.0 c.if-is_fed.true) (c.is_fed-then-is_fed.ensures.0 yes),
      λ all. c.is_fed-then-is_fed.ensures.1 (all One),
    )
