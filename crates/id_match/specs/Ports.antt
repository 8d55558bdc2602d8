-- The two ports of an instruction (docs/MACHINE.md, "The waiting-matching store").
use Rattle.std.specs.Prelude.{Bool, true, false}
use Rattle.id_instr.specs.declared.dests.Port.{Port}
use Rattle.id_instr.specs.declared.dests.Port.TheVariants.{Zero, One}

-- the port that is not this one
abbrev pub other_port : Port → Port
other_port Zero = One
other_port One = Zero

-- whether two ports are one
abbrev pub same_port : Port → Port → Bool
same_port Zero Zero = true
same_port Zero One = false
same_port One Zero = false
same_port One One = true
