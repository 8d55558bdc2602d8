use Rattle.std.proofs.Common.{◌≡◌, ℕ, List, ◌∷◌, [], ◌++◌, length, get_or, rules, subst, ◌∙◌, ap}
use Rattle.id_inbox.specs.Doors.{DoorView}
use Rattle.id_elements.proofs.ListsLemmas.{IsMerging, merging, same_inbox}
use Rattle.id_elements.proofs.doors.absorb_all.Goals as goal
use Rattle.id_elements.proofs.doors.absorb_all.Goals.{After-index_mut}

number_is : (c : After-index_mut) → c.len-number.result ≡ length c.pop.new.self.items
number_is c = search rules

so_far : (c : After-index_mut)
    → IsMerging c.args.doors.now.items c.args.theirs.items (c.pop.new.self.items ++ c.in-Some.other ∷ [])
    c.loop-other.doors.items
so_far c =
    subst (λ (ts : List DoorView). IsMerging c.args.doors.now.items c.args.theirs.items ts c.loop-other.doors.items)
    c.in-Some.ensures.items c.loop-other.invariant

door_is : (c : After-index_mut)
    → c.index_mut.result.now ≡ get_or c.loop-other.doors.items (length c.pop.new.self.items) c.index_mut.result.now
door_is c =
    c.index_mut.ensures.value ∙ ap (λ (k : ℕ). get_or c.loop-other.doors.items k c.index_mut.result.now) (number_is c)

pub absorb-requires : goal.absorb-requires
absorb-requires c = same_inbox _ _ _ _ _ _ c.requires.queues (so_far c) (door_is c)

pub loop-other-preserved : goal.loop-other-preserved
loop-other-preserved c = let a = (goal.at.loop-other-preserved c).After-index_mut in
    rw (number_is a) (merging _ _ _ _ _ _ _ c.requires.queues c.requires.parts (so_far a) (door_is a) c.absorb.ensures)
