-- The event of the line follows, or why none can.
use Rattle.std.proofs.Common.{◌≡◌, Bor, Err, List, Some, true, ℕ, length, set, slice_get, ap, subst, ◌∙◌}
use Rattle.std.specs.Prelude.{IfSome}
use Rattle.id_tag.specs.Routes.{route_of}
use Rattle.id_core.specs.Steps.{State, next_stamp}
use Rattle.id_judge.specs.Benches.{BenchView, number_for, world_in}
use Rattle.id_judge.specs.Lines.{Advances, AreStamps, BeginsAt, Compares, IsFound, IsLineCause, IsOther, behind}
use Rattle.id_judge.proofs.GivenLemmas.{not_false}
use Rattle.id_judge.proofs.ReadLemmas.{advances, element_is, if_err_more, if_ok_all, if_ok_more, left_at, left_is}
use Rattle.id_judge.proofs.ReadLemmas.{no_stamp_left, other_element, other_line, own_from, own_to, stamp_at}
use Rattle.id_judge.proofs.ReadLemmas.{stamps_after}
use Rattle.id_judge.proofs.lines.follow_line.Goals as goal
use Rattle.id_judge.proofs.lines.follow_line.Goals.{In-Some, After-begins_number}

-- the body stands behind two words
here : (c : In-Some) → c.behind-body.result.now ≡ behind (behind c.args.text.now)
here c = c.behind-body.ensures ∙ ap behind c.behind-second.ensures

found : (c : In-Some)
    → IsFound c.args.bench.now.flight c.behind-body.result.now c.in-Some.said.position c.in-Some.said.message
    c.in-Some.said.past.now
found c =
    let body = c.behind-body.result.now in
    let there : IsFound c.bench.inside.flight body c.in-Some.said.position c.in-Some.said.message
    c.in-Some.said.past.now =
    subst (λ o. IfSome o (λ s. IsFound c.bench.inside.flight body s.position s.message s.past.now)) c.in-Some.is
    c.in_ok-said.ensures.some in
    subst (λ (b : BenchView). IsFound b.flight body c.in-Some.said.position c.in-Some.said.message
    c.in-Some.said.past.now) c.bench.view_is there

-- the number that is looked for is that of the message's element
route_is : (c : After-begins_number) → c.route-number.result ≡ number_for c.args.bench.now c.in-Some.said.message
route_is c =
    c.route-number.ensures.exact
    ∙ ap (route_of c.in-Some.said.message.payload)
    (c.len.ensures ∙ c.bench.inside.elements.ok.0 ∙ ap (λ (b : BenchView). length b.elements) c.bench.view_is)

number_is : (c : After-begins_number) → c.from.result ≡ number_for c.args.bench.now c.in-Some.said.message
number_is c = c.from.ensures ∙ route_is c

pub returns-then-not-begins_number-clause-cause : goal.returns-then-not-begins_number-clause-cause
returns-then-not-begins_number-clause-cause c =
    let at = goal.at.returns-then-not-begins_number-clause-cause c in
    other_element c.args.bench.now c.args.text.now c.behind-body.result.now c.in-Some.said.position
    c.in-Some.said.message c.in-Some.said.past.now
    (here at.In-Some) (found at.In-Some)
    (λ own. not_false c.begins_number.result c.if-not-begins_number.true
    (c.begins_number.ensures.1
    (own_to c.args.text.now c.behind-second.result.now _ c.from.result c.behind-second.ensures
    (number_is at.After-begins_number) own)))

own : (c : After-begins_number) → c.begins_number.result ≡ true
    → BeginsAt (behind c.args.text.now) (number_for c.args.bench.now c.in-Some.said.message)
own c so =
    own_from c.args.text.now c.behind-second.result.now (number_for c.args.bench.now c.in-Some.said.message)
    c.from.result c.behind-second.ensures (number_is c)
    (c.begins_number.ensures.0 so)

-- its last stamp
last_at : (c : After-begins_number) (s : State)
    → slice_get (world_in c.args.bench.now).elements (number_for c.args.bench.now c.in-Some.said.message) ≡ Some s
    → slice_get c.args.stamps.now.items c.route-number.result ≡ Some s.stamp
last_at c s element =
    ap (slice_get c.args.stamps.now.items) (route_is c)
    ∙ stamp_at c.args.stamps.now.items (world_in c.args.bench.now) (number_for c.args.bench.now c.in-Some.said.message)
    s c.requires element

pub advance-stamp-requires-clause-left : goal.advance-stamp-requires-clause-left
advance-stamp-requires-clause-left c =
    let at = goal.at.advance-stamp-requires-clause-left c in
    let b = c.args.bench.now in
    let text = c.args.text.now in
    let body = c.behind-body.result.now in
    let k = c.in-Some.said.position in
    let m = c.in-Some.said.message in
    let past = c.in-Some.said.past.now in
    let o = own at.After-begins_number c.if-not-begins_number.false in
    let d = c.in-Ok.ensures.delivers in
    let e = element_is b text body k m past (here at.In-Some) (found at.In-Some) o c.in-Ok.step c.deliver.new.bench d in
    let l = left_is b text body k m past (here at.In-Some) (found at.In-Some) o c.in-Ok.step c.deliver.new.bench d in
    left_at c.args.stamps.now.items (world_in b) (number_for b m) c.route-number.result d.follows.can.state m c.requires
    e l
    (route_is at.After-begins_number)

pub returns-in-Ok-clause-follows : goal.returns-in-Ok-clause-follows
returns-in-Ok-clause-follows c =
    let at = goal.at.returns-in-Ok-clause-follows c in
    let b = c.args.bench.now in
    let text = c.args.text.now in
    let body = c.behind-body.result.now in
    let k = c.in-Some.said.position in
    let m = c.in-Some.said.message in
    let past = c.in-Some.said.past.now in
    let o = own at.After-begins_number c.if-not-begins_number.false in
    let d = c.in-Ok.ensures.delivers in
    let new = c.deliver.new.bench in
    let stamp = c.advance-stamp.result in
    let e = element_is b text body k m past (here at.In-Some) (found at.In-Some) o c.in-Ok.step new d in
    let next : stamp ≡ next_stamp d.follows.can.state m =
    c.advance-stamp.ensures.next d.follows.can.state.stamp (last_at at.After-begins_number d.follows.can.state e) in
    if_ok_more (λ (tail : Bor (List ℕ)). Compares text past stamp c.in-Ok.step tail.now)
    (λ tail. Advances b text tail.now new) c.compare.result
    (λ tail same.
    advances b text body k m past (here at.In-Some) (found at.In-Some) o c.in-Ok.step new d tail.now stamp next same)
    c.compare.ensures.same

pub returns-in-Ok-clause-stamps : goal.returns-in-Ok-clause-stamps
returns-in-Ok-clause-stamps c =
    let at = goal.at.returns-in-Ok-clause-stamps c in
    let b = c.args.bench.now in
    let m = c.in-Some.said.message in
    let o = own at.After-begins_number c.if-not-begins_number.false in
    let d = c.in-Ok.ensures.delivers in
    let new = c.deliver.new.bench in
    let stamp = c.advance-stamp.result in
    let xs = c.args.stamps.now.items in
    let e = element_is b c.args.text.now c.behind-body.result.now c.in-Some.said.position m c.in-Some.said.past.now
    (here at.In-Some) (found at.In-Some) o
    c.in-Ok.step new d in
    let next : stamp ≡ next_stamp d.follows.can.state m =
    c.advance-stamp.ensures.next d.follows.can.state.stamp (last_at at.After-begins_number d.follows.can.state e) in
    let are : AreStamps c.advance-stamp.new.stamps.items (world_in new) =
    c.advance-stamp.ensures.stamps ∙ ap (λ j. set xs j stamp) (route_is at.After-begins_number)
    ∙ stamps_after b.graph (length b.elements) (world_in b) (world_in new) d.event xs m stamp d.follows d.of c.requires
    next in
    if_ok_all _ c.compare.result (λ tail. are)

pub returns-in-Ok-clause-cause : goal.returns-in-Ok-clause-cause
returns-in-Ok-clause-cause c =
    let at = goal.at.returns-in-Ok-clause-cause c in
    let b = c.args.bench.now in
    let text = c.args.text.now in
    let body = c.behind-body.result.now in
    let k = c.in-Some.said.position in
    let m = c.in-Some.said.message in
    let past = c.in-Some.said.past.now in
    let o = own at.After-begins_number c.if-not-begins_number.false in
    let d = c.in-Ok.ensures.delivers in
    let new = c.deliver.new.bench in
    let stamp = c.advance-stamp.result in
    let e = element_is b text body k m past (here at.In-Some) (found at.In-Some) o c.in-Ok.step new d in
    let next : stamp ≡ next_stamp d.follows.can.state m =
    c.advance-stamp.ensures.next d.follows.can.state.stamp (last_at at.After-begins_number d.follows.can.state e) in
    if_err_more (IsOther text past stamp c.in-Ok.step) (IsLineCause b.graph (length b.elements) (world_in b) text)
    c.compare.result
    (λ cause other. other_line b text body k m past (here at.In-Some) (found at.In-Some) o c.in-Ok.step new d stamp next
    cause other) c.compare.ensures.other

pub returns-in-Err-StampEnd-clause-cause : goal.returns-in-Err-StampEnd-clause-cause
returns-in-Err-StampEnd-clause-cause c =
    let at = goal.at.returns-in-Err-StampEnd-clause-cause c in
    let o = own at.After-begins_number c.if-not-begins_number.false in
    no_stamp_left c.args.bench.now c.args.text.now c.behind-body.result.now c.in-Some.said.position
    c.in-Some.said.message c.in-Some.said.past.now
    (here at.In-Some) (found at.In-Some) o
    (c.in-Err-StampEnd.ensures.end (ap (λ x. Err x) c.in-Err-StampEnd.field-0-is))
