-- The destinations of a graph that the schemas give are ports.
use Rattle.id_instr.specs.Graph.{parts}
use Rattle.id_build.specs.Own.{schemas_of}
use Rattle.id_build.proofs.SchemasLemmas.{PortsExist-schemas}
use Rattle.id_build.proofs.program.build.Goals as goal

pub known-requires-clause-exist : goal.known-requires-clause-exist
known-requires-clause-exist c =
    PortsExist-schemas c.args.kernel.now.checked.now (parts c.in_ok-blocks.blocks.items c.in_ok-blocks.instrs.items)
    (schemas_of c.in_ok-blocks.ensures.parts)
