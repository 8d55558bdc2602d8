-- Where another front or another end stands there, the message is not said.
use Rattle.std.proofs.Common.{◌≡◌, ◌∙◌}
use Rattle.id_trace.specs.Traces.{payload_text}
use Rattle.id_judge.proofs.GivenLemmas.{not_false}
use Rattle.id_judge.proofs.TextLemmas.{other_end}
use Rattle.id_judge.proofs.line.said.Goals as goal

pub returns-clause-none : goal.returns-clause-none
returns-clause-none c =
    let is : c.as_slice.result.now ≡ payload_text c.args.message.now.payload =
    c.as_slice.ensures ∙ c.in_ok-say.ensures in
    other_end c.args.body.now c.as_slice.result.now c.args.message.now is c.in-Some.rest.now c.in-Some.ensures.some
    (λ e. not_false c.begins_end.result c.if-begins_end.false (c.begins_end.ensures.1 e))
