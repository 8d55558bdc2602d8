-- the frame that is made has the key under which its name is put
use Rattle.std.proofs.Common.{◌∙◌, Some, sym, ap, subst}
use Rattle.slab.specs.Slab.{Updates, get}
use Rattle.id_match.specs.Rear.{MakesFrame}
use Rattle.id_match.proofs.FramedLemmas.{made_in, none_in, tells_kept, updates_reserved}
use Rattle.id_match.proofs.rear.keep_first.Goals as goal

pub returns-in-Ok-insert : goal.returns-in-Ok-insert
returns-in-Ok-insert c short =
    let old = c.args.frames.now in
    let mid = c.new_frame.new.frames in
    let slab = c.insert_reserved.new.self in
    let key = c.vacant_key.result in
    let makes : MakesFrame old slab key c.args.tag.instr c.args.half = record {
      vacant = ap (λ s. get s key) (sym c.new_frame.ensures.same) ∙ c.vacant_key.ensures.vacant;
      frame = c.in-Ok.frame;
      only = c.in-Ok.ensures.only;
      updates = updates_reserved old mid slab mid.capacity key _ c.new_frame.ensures.same
          (subst (λ k. Updates mid slab k (Some c.in-Ok.frame)) (c.insert_reserved.ensures.key ∙ sym c.vacant_key.ensures.value)
          c.insert_reserved.ensures.updates);
    } in
    record {
      holds = made_in c.args.keys.now.entries old c.requires.framed c.args.tag c.args.name c.requires.own _ slab key c.args.half c.requires.absent
          c.in-Ok-insert.ensures.updates.0 c.in-Ok-insert.ensures.unique makes;
      tells = tells_kept c.args.half short c.args.room _
          (none_in c.args.keys.now.entries old c.requires.framed c.args.tag c.args.name c.requires.own c.requires.absent) c.in-Ok.ensures.room;
    }
