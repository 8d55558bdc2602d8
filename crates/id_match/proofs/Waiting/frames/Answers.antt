-- the front and what is behind it have as many firsts as there are frames
use Rattle.std.proofs.Common.{◌≡◌, ◌+◌, ◌∙◌, List, ℕ, ap, arith}
use Rattle.std.proofs.lemmas.Grind.{common_steps}
use Rattle.std.specs.List.{count_by}
use Rattle.std.specs.Map.{keys_of}
use Rattle.id_match.specs.declared.front.Pair.{Pair}
use Rattle.id_match.specs.Front.{front_entries}
use Rattle.id_match.specs.Frames.{is_first}
use Rattle.id_match.specs.Rear.{rear_entries}
use Rattle.id_match.proofs.EntriesLemmas.{len-from_entries}
use Rattle.id_match.proofs.FramedLemmas.{distinct_rear}
use Rattle.id_match.proofs.FramesLemmas.{frames_of-rear}
use Rattle.id_match.proofs.Waiting.frames.Goals as goal

-- no more wait than are counted
pub firsts_behind-requires : goal.firsts_behind-requires
firsts_behind-requires c =
    let counted = c.rear.invariant.1 ∙ len-from_entries (rear_entries c.rear.inside.keys.entries c.rear.inside.frames)
    (distinct_rear c.rear.inside.frames c.rear.inside.keys.entries c.rear.invariant.0.unique c.rear.invariant.0.single) in
    omega (arith, counted, c.rear.invariant.2)

pub returns : goal.returns
returns c =
    let front : c.deref.result.now ≡ c.self.inside.front.items = grind (arith, common_steps) in
    let firsts : List Pair → ℕ = λ f. count_by (is_first c.args.self.now) (keys_of (front_entries f)) in
    record {
      frames = ap (λ n. n + c.firsts_behind.result) (c.firsts_in_front.ensures.exact ∙ ap firsts front)
          ∙ ap (λ n. firsts c.self.inside.front.items + n) c.firsts_behind.ensures.exact
          ∙ frames_of-rear c.self.inside.front.items (rear_entries c.rear.inside.keys.entries c.rear.inside.frames) c.self.inside.rear
          c.args.self.now c.rear.view_is c.self.view_is c.self.invariant
          (distinct_rear c.rear.inside.frames c.rear.inside.keys.entries c.rear.invariant.0.unique c.rear.invariant.0.single);
    }
