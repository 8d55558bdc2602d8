-- Each step goes on with the stretch, and at each end nothing is near.
use Rattle.std.proofs.Common.{◌<◌, ◌+◌, ◌++◌, ◌∷◌, [], ap, true, false, refl, sym, arith, ◌∙◌}
use Rattle.std.proofs.lemmas.Grind.{common_steps}
use Rattle.std.proofs.lemmas.Bool.{false≢true}
use Rattle.id_tag.specs.declared.plain.PlainToken.{PlainToken}
use Rattle.id_tag.specs.Plains.{message_of}
use Rattle.id_record.specs.declared.step.Step.TheVariants as step
use Rattle.id_step.specs.Replays.{ElementView}
use Rattle.id_step.specs.Storage.{element_at}
use Rattle.id_step.proofs.StretchesLemmas.{AtHand, ends_back, ends_empty, ends_left, for_at, hand_next, hand_same}
use Rattle.id_step.proofs.StretchesLemmas.{hand_start, hand_took, hand_turn}
use Rattle.id_step.specs.Fits.{IsFor}
use Rattle.id_step.proofs.stretch.run.Goals as goal
use Rattle.id_step.proofs.stretch.run.Goals.{in-Next, in-Went+else-not-turn}

pub loop-done-init : goal.loop-done-init
loop-done-init g c = record {
  hand = hand_start c.args.most c.args.position (element_at c.args.storage.now) c.args.list.now.messages
      c.args.near.now.messages c.remove.new.self.messages
      (message_of c.args.first) c.requires.kept c.requires.for_it c.requires.there c.requires.first c.requires.empty
      c.remove.ensures.messages;
  own = grind (arith, common_steps);
  room = grind (arith, common_steps, c.requires.empty);
  room_near = c.requires.room_near;
}

pub loop-done-preserved : goal.loop-done-preserved
loop-done-preserved g c =
    let a = c.args in
    let l = c.loop-done in
    let n = c.go_on.new in
    let e = element_at a.storage.now in
    let took =
    hand_took l.done a.most a.position e l.storage n.self a.list.now.messages (message_of l.token) l.near.messages
    l.list.messages in
    let h : AtHand (l.done + 1) a.most a.position e (element_at n.self) a.list.now.messages
    (message_of c.match-go_on.token) n.near.messages c.match-go_on.list.messages =
    elim c.match-go_on.branch [
      | in-Next w ↦
          let next = message_of n.token in
          let b = took (n.near.messages ++ next ∷ []) n.list.messages step.Went true l.invariant.hand
          w.in-Next.ensures.became c.requires.there (λ w. refl) in
          rw (w.token-is, w.list-is) (hand_next (l.done + 1) a.most a.position _ _ _ _ n.near.messages _ next b refl)
      | in-Went+else-not-turn w ↦
          let b = took n.near.messages n.list.messages step.Went true l.invariant.hand w.in-Went.ensures.became
          c.requires.there (λ w. refl) in
          let within = w.turn.ensures.turns w.if-not-turn.false in
          let turns : 0 < c.may_turn-turns.result = omega (arith, within) in
          let one = c.may_turn-turns.ensures.alone turns in
          let first =
          for_at (IsFor e.graph e.count e.number) a.list.now.messages a.position (message_of a.first) c.requires.first
          c.requires.for_it in
          let fit = c.requires.fit (c.may_turn-turns.ensures.asked turns) in
          rw (
            w.token-is,
            w.list-is,
          ) (hand_turn (l.done + 1) a.most a.position e (element_at n.self) a.list.now.messages n.near.messages
          n.list.messages
          w.turn.new.list.messages (message_of a.first) (message_of w.turn.new.token) b
          (c.go_on.ensures.empty w.in-Went.is) one first tt tt fit
          (w.turn.ensures.took w.if-not-turn.false) (w.turn.ensures.left w.if-not-turn.false))
    ] in
    let graph =
    ap (λ (v : ElementView). v.graph) h.stretch.element
    ∙ sym (ap (λ (v : ElementView). v.graph) l.invariant.hand.stretch.element) in
    record {
      hand = h;
      own = grind (arith, common_steps, graph, l.invariant.own);
      room = c.has_room.ensures.list c.if-not-has_room.false;
      room_near = c.has_room.ensures.near c.if-not-has_room.false;
    }

pub returns-then-not-turn-clause-kept : goal.returns-then-not-turn-clause-kept
returns-then-not-turn-clause-kept g c =
    let a = c.args in
    let l = c.loop-done in
    let n = c.go_on.new in
    (hand_took l.done a.most a.position _ l.storage n.self _ (message_of l.token) l.near.messages l.list.messages
    n.near.messages n.list.messages step.Went true
    l.invariant.hand c.in-Went.ensures.became c.requires.there (λ w. refl)).kept

pub returns-then-not-turn-clause-ran : goal.returns-then-not-turn-clause-ran
returns-then-not-turn-clause-ran g c =
    let a = c.args in
    let l = c.loop-done in
    let n = c.go_on.new in
    let b = hand_took l.done a.most a.position _ l.storage n.self _ (message_of l.token) l.near.messages l.list.messages
    n.near.messages n.list.messages step.Went true
    l.invariant.hand c.in-Went.ensures.became c.requires.there (λ w. refl) in
    let lt = c.loop-done-test.true in
    rw (c.turn.ensures.same c.if-not-turn.true) (
      record {
        n = l.done + 1;
        some = omega arith;
        few = omega (arith, lt);
        stretch = ends_empty (l.done + 1) a.most a.position _ _ _ _ _ true b (c.go_on.ensures.empty c.in-Went.is);
      },
      b.behind,
    )

pub returns-in-Failed-clause-kept : goal.returns-in-Failed-clause-kept
returns-in-Failed-clause-kept g c =
    let a = c.args in
    let l = c.loop-done in
    let n = c.go_on.new in
    let x = c.in-Failed.ensures.became in
    (hand_took l.done a.most a.position _ l.storage n.self _ (message_of l.token) l.near.messages l.list.messages
    n.near.messages n.list.messages x.0 false
    l.invariant.hand x.1 c.requires.there (λ w. absurd (false≢true w))).kept

pub returns-in-Failed-clause-ran : goal.returns-in-Failed-clause-ran
returns-in-Failed-clause-ran g c =
    let a = c.args in
    let l = c.loop-done in
    let n = c.go_on.new in
    let x = c.in-Failed.ensures.became in
    let b = hand_took l.done a.most a.position _ l.storage n.self _ (message_of l.token) l.near.messages l.list.messages
    n.near.messages n.list.messages x.0 false
    l.invariant.hand x.1 c.requires.there (λ w. absurd (false≢true w)) in
    let e = ends_back (l.done + 1) a.most a.position _ _ _ _ _ c.give_back.new.list.messages false b
    c.give_back.ensures.messages c.requires.there in
    let lt = c.loop-done-test.true in
    (record { n = l.done + 1; some = omega arith; few = omega (arith, lt); stretch = e.0 }, e.1)

pub returns-in-Apart-clause-ran : goal.returns-in-Apart-clause-ran
returns-in-Apart-clause-ran g c =
    let a = c.args in
    let l = c.loop-done in
    let n = c.go_on.new in
    let x = c.in-Apart.ensures.became in
    let h = hand_same l.done a.most a.position _ _ _ _ (message_of l.token) _ _ _ _ l.invariant.hand x.0 in
    let same = ap (λ (t : PlainToken). (n.list.messages ++ n.near.messages) ++ message_of t ∷ []) x.1 in
    let e = ends_left l.done a.most a.position _ _ _ (message_of l.token) _ _ c.leave.new.list.messages h
    (c.leave.ensures.messages ∙ same) c.requires.there in
    let lt = c.loop-done-test.true in
    (record { n = l.done; few = lt; stretch = e.stretch; last = e.last; some = e.some }, e.before)

pub returns-in-Memory-clause-ran : goal.returns-in-Memory-clause-ran
returns-in-Memory-clause-ran g c =
    let a = c.args in
    let l = c.loop-done in
    let n = c.go_on.new in
    let x = c.in-Memory.ensures.became in
    let h = hand_same l.done a.most a.position _ _ _ _ (message_of l.token) _ _ _ _ l.invariant.hand x.0 in
    let same = ap (λ (t : PlainToken). (n.list.messages ++ n.near.messages) ++ message_of t ∷ []) x.1 in
    let e = ends_left l.done a.most a.position _ _ _ (message_of l.token) _ _ c.leave-in-Memory.new.list.messages h
    (c.leave-in-Memory.ensures.messages ∙ same) c.requires.there in
    let lt = c.loop-done-test.true in
    record { n = l.done; few = lt; stretch = e.stretch; last = e.last; some = e.some }

pub returns-then-not-has_room-clause-kept : goal.returns-then-not-has_room-clause-kept
returns-then-not-has_room-clause-kept g c =
    let a = c.args in
    let l = c.loop-done in
    let n = c.go_on.new in
    let e = element_at a.storage.now in
    let took =
    hand_took l.done a.most a.position e l.storage n.self a.list.now.messages (message_of l.token) l.near.messages
    l.list.messages in
    let h : AtHand (l.done + 1) a.most a.position e (element_at n.self) a.list.now.messages
    (message_of c.match-go_on.token) n.near.messages c.match-go_on.list.messages =
    elim c.match-go_on.branch [
      | in-Next w ↦
          let next = message_of n.token in
          let b = took (n.near.messages ++ next ∷ []) n.list.messages step.Went true l.invariant.hand
          w.in-Next.ensures.became c.requires.there (λ w. refl) in
          rw (w.token-is, w.list-is) (hand_next (l.done + 1) a.most a.position _ _ _ _ n.near.messages _ next b refl)
      | in-Went+else-not-turn w ↦
          let b = took n.near.messages n.list.messages step.Went true l.invariant.hand w.in-Went.ensures.became
          c.requires.there (λ w. refl) in
          let within = w.turn.ensures.turns w.if-not-turn.false in
          let turns : 0 < c.may_turn-turns.result = omega (arith, within) in
          let one = c.may_turn-turns.ensures.alone turns in
          let first =
          for_at (IsFor e.graph e.count e.number) a.list.now.messages a.position (message_of a.first) c.requires.first
          c.requires.for_it in
          let fit = c.requires.fit (c.may_turn-turns.ensures.asked turns) in
          rw (
            w.token-is,
            w.list-is,
          ) (hand_turn (l.done + 1) a.most a.position e (element_at n.self) a.list.now.messages n.near.messages
          n.list.messages
          w.turn.new.list.messages (message_of a.first) (message_of w.turn.new.token) b
          (c.go_on.ensures.empty w.in-Went.is) one first tt tt fit
          (w.turn.ensures.took w.if-not-turn.false) (w.turn.ensures.left w.if-not-turn.false))
    ] in
    h.kept

pub returns-then-not-has_room-clause-ran : goal.returns-then-not-has_room-clause-ran
returns-then-not-has_room-clause-ran g c =
    let a = c.args in
    let l = c.loop-done in
    let n = c.go_on.new in
    let e = element_at a.storage.now in
    let took =
    hand_took l.done a.most a.position e l.storage n.self a.list.now.messages (message_of l.token) l.near.messages
    l.list.messages in
    let h : AtHand (l.done + 1) a.most a.position e (element_at n.self) a.list.now.messages
    (message_of c.match-go_on.token) n.near.messages c.match-go_on.list.messages =
    elim c.match-go_on.branch [
      | in-Next w ↦
          let next = message_of n.token in
          let b = took (n.near.messages ++ next ∷ []) n.list.messages step.Went true l.invariant.hand
          w.in-Next.ensures.became c.requires.there (λ w. refl) in
          rw (w.token-is, w.list-is) (hand_next (l.done + 1) a.most a.position _ _ _ _ n.near.messages _ next b refl)
      | in-Went+else-not-turn w ↦
          let b = took n.near.messages n.list.messages step.Went true l.invariant.hand w.in-Went.ensures.became
          c.requires.there (λ w. refl) in
          let within = w.turn.ensures.turns w.if-not-turn.false in
          let turns : 0 < c.may_turn-turns.result = omega (arith, within) in
          let one = c.may_turn-turns.ensures.alone turns in
          let first =
          for_at (IsFor e.graph e.count e.number) a.list.now.messages a.position (message_of a.first) c.requires.first
          c.requires.for_it in
          let fit = c.requires.fit (c.may_turn-turns.ensures.asked turns) in
          rw (
            w.token-is,
            w.list-is,
          ) (hand_turn (l.done + 1) a.most a.position e (element_at n.self) a.list.now.messages n.near.messages
          n.list.messages
          w.turn.new.list.messages (message_of a.first) (message_of w.turn.new.token) b
          (c.go_on.ensures.empty w.in-Went.is) one first tt tt fit
          (w.turn.ensures.took w.if-not-turn.false) (w.turn.ensures.left w.if-not-turn.false))
    ] in
    let d = ends_left (l.done + 1) a.most a.position _ _ _ (message_of c.match-go_on.token) _ _
    c.leave-then-not-has_room.new.list.messages h
    c.leave-then-not-has_room.ensures.messages c.requires.there in
    let lt = c.loop-done-test.true in
    (record { n = l.done + 1; some = omega arith; few = omega (arith, lt); stretch = d.stretch }, d.behind)

pub returns-clause-ran : goal.returns-clause-ran
returns-clause-ran g c =
    let a = c.args in
    let l = c.loop-done in
    let e = ends_left l.done a.most a.position _ _ _ (message_of l.token) _ _ c.leave-2.new.list.messages
    l.invariant.hand c.leave-2.ensures.messages c.requires.there in (
      record { n = l.done; some = grind (arith, common_steps); few = grind (arith, common_steps); stretch = e.stretch },
      e.behind,
    )
