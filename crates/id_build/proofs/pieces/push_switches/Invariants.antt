-- The switches so far, and those that are left.
use Rattle.std.proofs.Common.{◌≡◌, ◌++◌, ◌∷◌, drop}
use Rattle.id_instr.specs.declared.instr.Op.TheVariants.{Switch}
use Rattle.id_instr.specs.declared.instr.PortKind.TheVariants.{Signal}
use Rattle.id_build.specs.declared.arc.Form.TheVariants.{Plain}
use Rattle.id_build.specs.Rows.{piece, switches}
use Rattle.id_build.proofs.pieces.push_switches.Given as goal

abbrev pub invariant-loop-import : goal.invariant-loop-import
invariant-loop-import l =
    l.pieces.items ++ switches l.checked l.place (drop l.import-index l.imports)
    ≡ l.fn.pieces.items ++ piece (Plain (Switch Signal)) l.place ∷ switches l.checked l.place l.imports
