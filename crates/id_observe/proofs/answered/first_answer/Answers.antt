-- What is told at the position is the first answer, or none.
use Rattle.std.proofs.Common.{sym, ◌∙◌}
use Rattle.id_observe.specs.Tellings.{value_told}
use Rattle.id_observe.proofs.WalksLemmas.{filter_map-found, filter_map-nothing}
use Rattle.id_observe.proofs.answered.first_answer.Goals as goal

pub returns-then-is_some : goal.returns-then-is_some
returns-then-is_some c =
    filter_map-found value_told c.args.tellings.now.items c.loop-position.position _ c.value_by-value.result
    c.telling.ensures c.loop-position.invariant
    (sym c.value_by-value.ensures) (sym c.is_some.ensures ∙ c.if-is_some.true)

pub loop-position-preserved : goal.loop-position-preserved
loop-position-preserved c =
    filter_map-nothing value_told c.args.tellings.now.items c.loop-position.position _ c.value_by-value.result
    c.telling.ensures c.loop-position.invariant
    (sym c.value_by-value.ensures) (sym c.is_some.ensures ∙ c.if-is_some.false)
