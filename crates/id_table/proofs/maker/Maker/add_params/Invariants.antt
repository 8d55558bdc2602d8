use Rattle.std.proofs.Common.{◌≡◌, drop}
use Rattle.id_grammar.specs.Tree.{params_tree}
use Rattle.id_table.specs.Rows.{add}
use Rattle.id_table.specs.Making.{parts}
use Rattle.id_table.proofs.maker.Maker.add_params.Given as goal

abbrev pub invariant-loop-param : goal.invariant-loop-param
invariant-loop-param l = add l.stand (parts l.self) (params_tree (drop l.param-index l.params)) ≡ add l.stand (parts l.initial.self) (params_tree l.params)
