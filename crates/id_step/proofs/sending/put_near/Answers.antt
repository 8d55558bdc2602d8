-- One more destination has one more token, with the next number.
use Rattle.std.proofs.Common.{◌≡◌, ◌<◌, ◌+◌, ◌-◌, ◌++◌, ◌∷◌, [], length, map, take, take_all, append_assoc, sym, ap}
use Rattle.std.proofs.Common.{◌∙◌, arith}
use Rattle.id_record.specs.Sends.{numbered, token_to}
use Rattle.std.proofs.lemmas.Grind.{common_steps}
use Rattle.id_tag.specs.Plains.{message_of, tag_in, whole}
use Rattle.id_record.proofs.SendsLemmas.{numbered-more, numbered_as}
use Rattle.id_step.proofs.sending.put_near.Goals as goal

pub loop-number-preserved : goal.loop-number-preserved
loop-number-preserved c =
    let a = c.args in
    let e = a.mark in
    let r = c.plain_under.result in
    let i = c.loop-number.number in
    let inside : i < length c.args.dests.now = omega (arith, c.loop-number-test.true) in
    let said = ap (λ m. m.payload) c.plain_under.ensures in
    let more =
    numbered-more e.sender e.position e.stamp (tag_in a.token.now) (whole a.value) c.args.dests.now i _
    (message_of r).payload inside said in
    let same : message_of r ≡ numbered_as e.sender e.position e.stamp i (message_of r).payload =
    c.plain_under.ensures ∙ ap (λ x. numbered_as e.sender e.position e.stamp i x) (sym said) in (
      omega (arith, c.push_reserved.ensures.room, c.loop-number.invariant.0),
      rw (c.push_reserved.ensures.messages, c.loop-number.invariant.1, more, same, append_assoc),
      grind (arith, common_steps),
    )

-- at the end the last destination has its token in the place of the one at hand
pub returns-clause-messages : goal.returns-clause-messages
returns-clause-messages c =
    let a = c.args in
    let e = a.mark in
    let ds = a.dests.now in
    let r = c.put_next.new.token in
    let n = length ds - 1 in
    let many = c.if-len-eq0.false in
    let is : c.loop-number.number ≡ n = omega (arith, c.loop-number-test.false, c.loop-number.auto.number-end) in
    let inside : n < length ds = grind (arith, common_steps, many) in
    let count : n + 1 ≡ length ds = grind (arith, common_steps, many) in
    let whole_list : take (n + 1) ds ≡ ds = ap (λ k. take k ds) count ∙ take_all (length ds) ds (omega arith) in
    let said = ap (λ m. m.payload) c.put_next.ensures in
    let more =
    numbered-more e.sender e.position e.stamp (tag_in a.token.now) (whole a.value) ds n _ (message_of r).payload inside
    said in
    let same : message_of r ≡ numbered_as e.sender e.position e.stamp n (message_of r).payload =
    c.put_next.ensures ∙ ap (λ x. numbered_as e.sender e.position e.stamp n x) (sym said) in
    let sofar =
    ap (λ k. numbered e.sender e.position e.stamp 0 (map (token_to (tag_in a.token.now) (whole a.value)) (take k ds)))
    is in
    let all =
    ap (λ xs. numbered e.sender e.position e.stamp 0 (map (token_to (tag_in a.token.now) (whole a.value)) xs))
    whole_list in
    ap (λ xs. xs ++ message_of r ∷ []) c.loop-number.invariant.1
    ∙ append_assoc c.args.near.now.messages _ (message_of r ∷ [])
    ∙ ap (λ xs. c.args.near.now.messages ++ xs) (ap (λ xs. xs ++ message_of r ∷ []) sofar
    ∙ ap (λ m. numbered e.sender e.position e.stamp 0 (map (token_to (tag_in a.token.now) (whole a.value)) (take n ds))
    ++ m ∷ []) same ∙ sym more ∙ all)
