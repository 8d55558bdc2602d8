-- Where nothing waits, the store is one in which nothing waits.
use Rattle.std.proofs.Common.{◌∙◌, ap, sym}
use Rattle.std.specs.FinMap.{empty_of_len}
use Rattle.id_step.specs.Storage.{element_at}
use Rattle.id_step.proofs.storage.Storage.give_back.Goals as goal

pub returns-then-len-eq0 : goal.returns-then-len-eq0
returns-then-len-eq0 c =
    let none = empty_of_len c.args.self.now.waiting (sym c.len.ensures.len ∙ c.if-len-eq0.true) in
    ap (λ w. element_at (record c.args.self.now { waiting = w })) (c.new.ensures.empty ∙ sym none)
