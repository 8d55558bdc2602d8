-- What an instruction sends on a side.
use Rattle.std.proofs.Common.{◌≡◌, ℕ, Bool as Truth, Option, Some, None, [], slice_get, ap}
use Rattle.std.specs.Option.{option_map_or}
use Rattle.id_value.specs.List.{Among}
use Rattle.id_instr.specs.declared.dests.Dest.{Dest}
use Rattle.id_instr.specs.declared.instr.Instr.{Instr}
use Rattle.id_instr.specs.Graph.{Parts, arcs_on}
use Rattle.id_build.specs.Schemas.{Sends}

-- the destination is one of the instruction's of this number, on the side
pub sends_there : (g : Parts) (m : ℕ) (b : Truth) (d : Dest) (o : Option Instr) → slice_get g.instrs m ≡ o
    → Among d (option_map_or (arcs_on b) o []) → Sends g m b d
sends_there g m b d None is h = absurd h
sends_there g m b d (Some i) is h = record { instr = i; at = is; lists = h }

-- the destinations on a side of the instruction that is there
pub dests_are : (b : Truth) (o : Option Instr) (i : Instr) → o ≡ Some i → option_map_or (arcs_on b) o [] ≡ arcs_on b i
dests_are b o i e = ap (λ z. option_map_or (arcs_on b) z []) e
