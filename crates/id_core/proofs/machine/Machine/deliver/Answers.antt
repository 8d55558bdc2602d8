-- The delivery is the one that the definitions speak of: the message at the position, given to the element that it is
-- for.
use Rattle.std.proofs.Common.{◌≡◌, ◌<◌, ◌∙◌, Some, length, refl, sym, ap, subst}
use Rattle.std.specs.Prelude.{IfSome}
use Rattle.std.specs.List.{remove}
use Rattle.std.proofs.lemmas.Option.{slice_get_read}
use Rattle.id_tag.specs.declared.Message.{Message}
use Rattle.id_tag.specs.Routes.{route_of}
use Rattle.id_step.specs.Fits.{IsFor}
use Rattle.id_step.specs.Takes.{Handles}
use Rattle.id_core.proofs.MachinesLemmas.{IsGiven, IsMachine-given, is_for, told-given}
use Rattle.id_core.proofs.machine.Machine.deliver.Goals as goal
use Rattle.id_core.proofs.machine.Machine.deliver.Goals.{After-index_mut}

given : (c : After-index_mut)
    → IsGiven c.self.inside.graph.now (length c.self.inside.elements.items) c.self.inside.elements.items
    c.self.inside.flight.messages
    c.args.position c.route-number.result c.message-message.result c.index_mut.result.now
given c =
    let es = c.self.inside.elements.items in
    let many : c.len.result ≡ length es = c.len.ensures ∙ c.self.inside.elements.ok.0 in
    let below : c.route-number.result < length es =
    subst (λ n. c.route-number.result < n) many c.route-number.ensures.below in
    record {
      there = c.message-message.ensures;
      routed = sym (c.route-number.ensures.exact ∙ ap (route_of c.message-message.result.payload) many);
      element = slice_get_read es _ _ _ refl below c.index_mut.ensures.value;
    }

-- it is the message at the position that the element was given
handles : (c : goal.After-self-1)
    → Handles c.index_mut.result.now c.take_at.new.self c.message-message.result c.self.inside.flight.messages
    (remove c.self.inside.flight.messages c.args.position) c.take_at.new.list.messages c.take_at.result
handles c =
    let told = c.take_at.ensures in
    let same : told.message ≡ c.message-message.result =
    let both : Some told.message ≡ Some c.message-message.result = sym told.at ∙ c.message-message.ensures in cc in
    subst (λ (m : Message). Handles c.index_mut.result.now c.take_at.new.self m c.self.inside.flight.messages
    (remove c.self.inside.flight.messages c.args.position) c.take_at.new.list.messages c.take_at.result) same
    told.handles

pub take_at-requires-clause-for_it : goal.take_at-requires-clause-for_it
take_at-requires-clause-for_it c =
    let e = c.index_mut.result.now in
    subst (λ o. IfSome o (IsFor e.graph e.count e.number)) (sym c.message-message.ensures)
    (is_for (given (goal.at.take_at-requires-clause-for_it c).After-index_mut) c.self.invariant)

pub invariant_of-self : goal.invariant_of-self
invariant_of-self c =
    IsMachine-given (given (goal.at.invariant_of-self c).After-index_mut) c.self.invariant c.take_at.result (handles c)

pub returns : goal.returns
returns c =
    let told =
    told-given (given (goal.at.returns c).After-index_mut) c.self.invariant c.self.view_is c.take_at.result
    (handles c) in
    record { world = told.world; step = told.step; end = told.end; err = told.err }
