-- A message for all that is fired, and one for each reply.
use Rattle.std.proofs.Common.{◌≡◌, ◌+◌, ◌++◌, length, length-append, ap, sym, ◌∙◌, arith}
use Rattle.id_record.specs.Sends.{replies, sent}
use Rattle.id_record.proofs.SendsLemmas.{length-numbered, length-replies}
use Rattle.id_record.proofs.outputs.Outputs.len.Goals as goal

pub returns : goal.returns
returns c =
    let o = c.self.inside in
    let fired = sent o.op o.dests.now o.tag o.fired in
    let whole : c.count_sent.result + length o.readers.now ≡ length (fired ++ replies o.value o.readers.now) =
    omega (arith, length-append fired (replies o.value o.readers.now), length-replies o.value o.readers.now, c.count_sent.ensures) in
    whole
    ∙ sym (length-numbered o.envelope.number o.envelope.position o.envelope.stamp 0 (fired ++ replies o.value o.readers.now))
    ∙ ap length c.self.view_is
