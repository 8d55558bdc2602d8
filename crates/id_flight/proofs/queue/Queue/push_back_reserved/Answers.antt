-- The message is the last, and the others stay.
use Rattle.std.proofs.Common.{◌++◌, ◌∷◌, [], sym, ap, subst, ◌∙◌, arith}
use Rattle.std.specs.Prelude.{All}
use Rattle.std.proofs.lemmas.List.Elements.{All-push}
use Rattle.std.proofs.lemmas.Grind.{common_steps}
use Rattle.id_flight.specs.Parcels.{IsWithin}
use Rattle.id_flight.proofs.ParcelsLemmas.{all-kept, messages-more}
use Rattle.id_flight.proofs.queue.Queue.push_back_reserved.Goals as goal

pub returns-clause-messages : goal.returns-clause-messages
returns-clause-messages c =
    let made = c.parcel_for-parcel in
    messages-more c.self.inside.asides.items made.new.asides.items c.self.inside.parcels.items c.push_back_reserved.new.self.items made.result c.args.message
    made.ensures.others c.self.invariant.0 made.ensures.is c.push_back_reserved.ensures.items
    ∙ ap (λ v. v.messages ++ c.args.message ∷ []) c.self.view_is

pub parcel_for-parcel-requires : goal.parcel_for-parcel-requires
parcel_for-parcel-requires c = grind arith

pub push_back_reserved-requires : goal.push_back_reserved-requires
push_back_reserved-requires c = grind arith

pub invariant_of-self : goal.invariant_of-self
invariant_of-self c =
    let made = c.parcel_for-parcel in
    let more = made.new.asides.items in (
      subst (λ ps. All (IsWithin more) ps) (sym c.push_back_reserved.ensures.items)
          (All-push (IsWithin more) c.self.inside.parcels.items made.result
          (all-kept c.self.inside.asides.items more c.self.inside.parcels.items made.ensures.others c.self.invariant.0) made.ensures.within),
      grind (arith, common_steps),
      grind (arith, common_steps),
    )

pub returns-clause-room : goal.returns-clause-room
returns-clause-room c = grind arith
