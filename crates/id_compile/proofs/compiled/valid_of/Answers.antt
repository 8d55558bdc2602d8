-- The law says of each graph that the schemas give a program that it is valid.
use Rattle.id_build.specs.Own.{schemas_of}
use Rattle.id_compile.proofs.compiled.valid_of.Goals as goal

pub known-requires : goal.known-requires
known-requires c = c.valid.ensures c.args.checked.now c.args.graph (schemas_of c.requires)
