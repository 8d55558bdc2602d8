-- Where the next round has as many facts, these are all of it.
use Rattle.std.proofs.Common.{◌≡◌, ◌+◌, ℕ, suc, length, subst, sym, ◌∙◌, arith}
use Rattle.std.proofs.lemmas.Bool.{eqb-true}
use Rattle.id_source.specs.Sources.{Source, source}
use Rattle.id_facts.specs.Listed.{IsRound}
use Rattle.id_why.proofs.RoundLemmas.{round-ended}
use Rattle.id_why.proofs.reasons.has_ended.Goals as goal

pub returns-in-Ok : goal.returns-in-Ok
returns-in-Ok c = λ e.
    let n = c.args.n in
    let S : Source = source c.args.checked.now c.args.inputs.now in
    let next : n + 1 ≡ suc n = omega arith in
    let F : ℕ → Type 0 = λ m. IsRound S m c.in-Ok.next in
    round-ended S n c.args.facts.now c.in-Ok.next c.requires.facts (subst F next c.in-Ok.ensures.facts)
    (sym c.len.ensures ∙ eqb-true c.len.result c.len-in-Ok.result e ∙ c.len-in-Ok.ensures)
