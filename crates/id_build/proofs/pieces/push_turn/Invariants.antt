-- What hands on so far, and what is left.
use Rattle.std.proofs.Common.{◌≡◌, ◌++◌, ◌∷◌, drop}
use Rattle.id_desugar.specs.Regions.{carried}
use Rattle.id_instr.specs.declared.instr.Op.TheVariants.{Next}
use Rattle.id_instr.specs.declared.instr.PortKind.TheVariants.{Signal}
use Rattle.id_build.specs.declared.arc.Form.TheVariants.{Plain}
use Rattle.id_build.specs.Rows.{for_each, piece}
use Rattle.id_build.proofs.pieces.push_turn.Given as goal

abbrev pub invariant-loop-part : goal.invariant-loop-part
invariant-loop-part l =
    l.pieces.items ++ for_each l.checked Next l.place (drop l.part (carried l.checked l.head) ++ l.imports)
    ≡ l.fn.pieces.items ++ piece (Plain (Next Signal)) l.place
    ∷ for_each l.checked Next l.place (carried l.checked l.head ++ l.imports)

abbrev pub invariant-loop-import : goal.invariant-loop-import
invariant-loop-import l =
    l.pieces.items ++ for_each l.checked Next l.place (drop l.import-index l.imports)
    ≡ l.fn.pieces.items ++ piece (Plain (Next Signal)) l.place
    ∷ for_each l.checked Next l.place (carried l.checked l.head ++ l.imports)
