-- The row waits in the queue for its binder.
use Rattle.std.proofs.Common.{ap, sym, ◌∙◌}
use Rattle.std.proofs.lemmas.Result.{on_ok_weaker}
use Rattle.id_facts.specs.Cells.{items, out_of, queue_of}
use Rattle.id_facts.proofs.WaitsLemmas.{waits-for, waits-nobody}
use Rattle.id_facts.proofs.waits.wait_for.Goals as goal

pub returns-in-Some : goal.returns-in-Some
returns-in-Some c =
    let P = c.args.checked.now in
    let es = (items c.args.cells.now) in
    let b = sym c.awaited-binder.ensures ∙ c.in-Some.is in
    let d = c.distance.ensures in
    let o = c.out_of-outside.ensures ∙ ap (λ k. out_of es k c.args.path) d in
    let q = c.queue_of.ensures.queue ∙ ap (λ t. queue_of t c.in-Some.there) o in
    on_ok_weaker c.add.result
    (λ g. waits-for P es _ _ c.args.path c.args.row c.args.user c.in-Some.there c.queue_of.result b q
    c.queue_of.ensures.within g) c.add.ensures

pub returns-in-None : goal.returns-in-None
returns-in-None c =
    waits-nobody c.args.checked.now (items c.args.cells.now) _ c.args.path c.args.row c.args.user
    (sym c.awaited-binder.ensures ∙ c.in-None.is)
