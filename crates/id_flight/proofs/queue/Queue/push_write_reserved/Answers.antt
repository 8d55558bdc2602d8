-- The write is the last, the others stay, and nothing more stands aside.
use Rattle.std.proofs.Common.{◌++◌, ◌∷◌, [], refl, sym, ap, subst, ◌∙◌, arith}
use Rattle.std.specs.Prelude.{All}
use Rattle.std.proofs.lemmas.List.Elements.{All-push}
use Rattle.id_tag.specs.declared.Message.{Message}
use Rattle.id_tag.specs.declared.Payload.TheVariants.{Write}
use Rattle.id_tag.specs.Plains.{cell_of, message_of, tag_in, whole}
use Rattle.std.proofs.lemmas.Grind.{common_steps}
use Rattle.id_flight.specs.Parcels.{IsWithin}
use Rattle.id_flight.proofs.ParcelsLemmas.{messages-more}
use Rattle.id_flight.proofs.queue.Queue.push_write_reserved.Goals as goal

pub invariant_of-self : goal.invariant_of-self
invariant_of-self c =
    let asides = c.self.inside.asides.items in
    let p = c.packed_write.result in (
      subst (λ ps. All (IsWithin asides) ps) (sym c.push_back_reserved.ensures.items)
          (All-push (IsWithin asides) c.self.inside.parcels.items p c.self.invariant.0 (c.packed_write.ensures.within asides)),
      grind (arith, common_steps),
      grind (arith, common_steps),
    )

pub returns-clause-messages : goal.returns-clause-messages
returns-clause-messages c =
    let asides = c.self.inside.asides.items in
    let p = c.packed_write.result in
    let t = c.args.like.now in
    let m : Message = record (message_of t) { payload = Write (cell_of c.args.cell) (whole c.args.value) (tag_in t) } in
    messages-more asides asides c.self.inside.parcels.items c.push_back_reserved.new.self.items p m (λ q w. (w, refl)) c.self.invariant.0
    (c.packed_write.ensures.is asides) c.push_back_reserved.ensures.items
    ∙ ap (λ v. v.messages ++ m ∷ []) c.self.view_is
