-- One more destination has one more token, with the next number.
use Rattle.std.proofs.Common.{◌≡◌, append_assoc, sym, ap, ◌∙◌, arith}
use Rattle.id_tag.specs.Plains.{message_of, tag_in, whole}
use Rattle.id_record.proofs.SendsLemmas.{numbered-more, numbered_as}
use Rattle.id_step.proofs.sending.send_plain.Goals as goal

pub loop-number-preserved : goal.loop-number-preserved
loop-number-preserved c =
    let e = c.args.like.now in
    let r = c.plain_to.result in
    let i = c.loop-number.number in
    let said = ap (λ m. m.payload) c.plain_to.ensures in
    let more =
    numbered-more e.sender e.position e.stamp (tag_in e) (whole e.value) c.args.dests.now i _ (message_of r).payload
    c.loop-number-test.true said in
    let same : message_of r ≡ numbered_as e.sender e.position e.stamp i (message_of r).payload =
    c.plain_to.ensures ∙ ap (λ x. numbered_as e.sender e.position e.stamp i x) (sym said) in (
      omega (arith, c.push_plain_reserved.ensures.room, c.loop-number.invariant.0),
      rw (c.push_plain_reserved.ensures.messages, c.loop-number.invariant.1, more, same, append_assoc),
    )
