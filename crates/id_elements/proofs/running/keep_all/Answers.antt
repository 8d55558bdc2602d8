use Rattle.std.proofs.Common.{◌≡◌, ◌∷◌, [], ◌++◌, ap, arith}
use Rattle.std.specs.List.{sum_by}
use Rattle.std.proofs.lemmas.List.Sums.{sum_by_push}
use Rattle.id_flight.specs.Queues.{QueueView}
use Rattle.id_inbox.specs.Hands.{weight_in}
use Rattle.id_elements.proofs.running.keep_all.Goals as goal

pub loop-letter-preserved : goal.loop-letter-preserved
loop-letter-preserved c = λ f.
    let a = c.in_ok-keep_rest.ensures f in
    let b = c.loop-letter.invariant f in
    let d : weight_in f c.loop-letter.letters.items ≡ weight_in f (c.pop.new.self.items ++ c.in-Some.letter ∷ []) =
    ap (weight_in f) c.in-Some.ensures.items in
    omega (arith, a, b, d, sum_by_push (λ (q : QueueView). sum_by f q.messages) c.pop.new.self.items c.in-Some.letter)
