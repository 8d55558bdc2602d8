-- the sort changes the order of pages alone, and their cells are in order then
use Rattle.std.proofs.Common.{rules}
use Rattle.std.proofs.lemmas.List.Sorted.{answers_always}
use Rattle.id_bank.proofs.OrderLemmas.{cells-listed}
use Rattle.id_bank.proofs.ordered.Goals as goal

pub returns : goal.returns
returns c =
    cells-listed (λ e. (e.0, e.1.now)) c.args.pages.now.entries c.in_ok-order.ensures.unique c.in_ok-order.order.items
    c.sort_by_key.new.self.items
    c.in_ok-order.ensures.items c.in_ok-sort_by_key.ensures.permutation
    (c.in_ok-sort_by_key.ensures.sorted (λ e. (e.0.1, e.0.0)) (answers_always _ _ _ (λ f a r g h. search rules)))
