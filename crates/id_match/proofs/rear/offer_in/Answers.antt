-- the frame is written in its place
use Rattle.std.proofs.Common.{nat_eq, sym, ap, subst}
use Rattle.std.specs.Map.{lookup}
use Rattle.slab.proofs.SlabLemmas.{Updates-with_value}
use Rattle.id_match.specs.Rear.{Sets, TellsOf, after_came, halves_in}
use Rattle.id_match.proofs.rear.offer_in.Goals as goal

pub returns-clause-tells : goal.returns-clause-tells
returns-clause-tells c =
    subst (λ l. TellsOf c.offer.result c.args.half c.args.short c.args.room (lookup (nat_eq c.args.instr) l))
    (sym (ap halves_in c.index_mut.ensures.value)) c.offer.ensures.tells

pub returns-clause-writes : goal.returns-clause-writes
returns-clause-writes c = record {
  frame = c.offer.new.self;
  sets = subst (λ l. Sets l c.offer.new.self.halves.items c.args.instr (after_came c.offer.result c.args.half (lookup (nat_eq c.args.instr) l)))
      (sym (ap halves_in c.index_mut.ensures.value)) c.offer.ensures.sets;
  updates = Updates-with_value c.args.frames.now c.args.key c.offer.new.self c.requires;
}
