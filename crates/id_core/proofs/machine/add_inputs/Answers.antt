-- One more entry has its input, with the next number.
use Rattle.std.proofs.Common.{append_assoc}
use Rattle.id_core.proofs.InputsLemmas.{input_messages-add}
use Rattle.id_core.proofs.machine.add_inputs.Goals as goal

pub loop-index-preserved : goal.loop-index-preserved
loop-index-preserved c =
    let more =
    input_messages-add 2 c.args.entries.now c.args.inputs.now c.loop-index.index _ _ _ _ c.loop-index-test.true
    c.requires c.value_of-value.ensures
    c.start_message.ensures in
    rw (c.in_ok-push_back.ensures.messages, c.loop-index.invariant, more, append_assoc)
