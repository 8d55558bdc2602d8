-- A message for each destination, and those that start a block.
use Rattle.std.proofs.Common.{◌+◌, length, ap, sym, ◌∙◌}
use Rattle.id_record.specs.Sends.{sent}
use Rattle.id_record.proofs.SendsLemmas.{length-entered, length-out}
use Rattle.id_record.proofs.outputs.count_sent.Goals as goal

pub returns-in-Out : goal.returns-in-Out
returns-in-Out c = sym (length-out c.args.op c.args.dests.now c.args.tag c.args.fired.now c.in-Out.is)

pub returns-in-Entered : goal.returns-in-Entered
returns-in-Entered c =
    ap (λ k. length c.args.dests.now + k) c.count_started.ensures
    ∙ sym (length-entered c.args.op c.args.dests.now c.args.tag c.in-Entered.field-0)
    ∙ ap (λ f. length (sent c.args.op c.args.dests.now c.args.tag f)) (sym c.in-Entered.is)
