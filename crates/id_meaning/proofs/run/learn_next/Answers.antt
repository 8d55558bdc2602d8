-- The news are added and followed.
use Rattle.std.proofs.Common.{ℕ, drop, subst}
use Rattle.id_facts.specs.Cells.{items}
use Rattle.id_meaning.specs.Following.{Goes}
use Rattle.id_meaning.specs.Read.{Read}
use Rattle.id_meaning.proofs.run.learn_next.Goals as goal

pub returns : goal.returns
returns c =
    let b = c.in_ok-followed.followed in
    let fs = c.args.facts.now in
    let ds = c.learn_behind.new.facts in
    let F : Read → Type 0 = λ r. Goes r (drop c.len-done.result (items r.cells)) fs ds in
    let G : ℕ → Type 0 = λ d. Goes b (drop d (items b.cells)) fs ds in
    record {
      follows = c.in_ok-followed.ensures;
      kept = c.rules.ensures.kept;
      goes = subst G c.len-done.ensures (subst F c.rules.ensures.is c.in_ok-learn_behind.ensures);
    }
