use Rattle.std.proofs.Common.{refl}
use Rattle.id_engine.proofs.HearLemmas.{hears_map, hears_some}
use Rattle.id_engine.proofs.JudgedLemmas.{JudgesSo-legal, JudgesSo-other, Listens-from, Listens-unheard, kept_so}
use Rattle.id_engine.proofs.judge.judge_prepared.Goals as goal

pub print_machine-requires : goal.print_machine-requires
print_machine-requires g c =
    let p = c.args.prepared.now in
    let h = hears_some _ _ (rw c.in-Ok-Legal.field-0-is at c.in-Ok-Legal.ensures.verdict) in
    kept_so p.compiled.graph p.inputs.values c.args.count h.0 _ c.in-Ok-Legal.machine c.in-Ok-Legal.events h.1

pub returns-in-Ok-Legal : goal.returns-in-Ok-Legal
returns-in-Ok-Legal g c =
    let p = c.args.prepared.now in
    Listens-from p.compiled.checked p.inputs.values p.compiled.text _ c.args.count c.args.names _ _
    c.print_machine.result c.refused.result c.refused.ensures
    (hears_map _ _ _ (λ trace h.
    JudgesSo-legal p.compiled.checked p.inputs.values p.compiled.text trace c.args.count c.args.names p.compiled.graph
    p.own
    c.in-Ok-Legal.ensures.own _ c.in-Ok-Legal.machine c.in-Ok-Legal.events c.sound.ensures c.complete.ensures
    c.legal_lists.ensures c.in-Ok-Legal.ensures.allowed
    h _ _ c.print_machine.result c.print_machine.ensures)
    (rw c.in-Ok-Legal.field-0-is at c.in-Ok-Legal.ensures.verdict))

pub returns-in-Ok-CannotFollow : goal.returns-in-Ok-CannotFollow
returns-in-Ok-CannotFollow g c =
    let p = c.args.prepared.now in
    Listens-from p.compiled.checked p.inputs.values p.compiled.text _ c.args.count c.args.names _ _ c.print_other.result
    c.refused-in-Ok-CannotFollow.result c.refused-in-Ok-CannotFollow.ensures
    (hears_map _ _ _ (λ trace h.
    JudgesSo-other p.compiled.checked p.inputs.values p.compiled.text trace c.args.count c.args.names p.compiled.graph
    p.own
    c.in-Ok-CannotFollow.ensures.own _ _ c.in-Ok-CannotFollow.ensures.allowed h _ _ c.print_other.result
    c.print_other.ensures)
    (rw c.in-Ok-CannotFollow.field-0-is at c.in-Ok-CannotFollow.ensures.verdict))

pub returns-in-Err : goal.returns-in-Err
returns-in-Err g c =
    let p = c.args.prepared.now in
    Listens-unheard p.compiled.checked p.inputs.values p.compiled.text _ c.args.count c.args.names _ _ c.in-Err.error
    c.in-Err.ensures.refused refl
