-- the rest of the list tells
use Rattle.std.proofs.Common.{ℕ, ◌≡◌, ◌<◌, ◌∙◌, ap, sym, length, get_or, arith}
use Rattle.std.proofs.lemmas.Grind.{common_steps}
use Rattle.id_match.specs.declared.meeting.Half.{Half}
use Rattle.id_match.proofs.FramedLemmas.{any_default, find_here}
use Rattle.id_match.proofs.rear.Frame.find.Goals as goal

pub returns-then-index-instr-clause-found : goal.returns-then-index-instr-clause-found
returns-then-index-instr-clause-found c = λ d.
    let within : c.loop-i.i < length c.args.self.now.halves.items = grind (arith, common_steps) in
    let own : (get_or c.args.self.now.halves.items c.loop-i.i d).0 ≡ c.args.instr =
    ap (λ (x : ℕ × Half). x.0) (any_default c.args.self.now.halves.items c.loop-i.i d c.index.result.now within ∙ sym c.index.ensures)
    ∙ c.if-index-instr.true in
    (own, sym c.loop-i.invariant ∙ find_here c.args.self.now.halves.items c.loop-i.i c.args.instr d within own)
