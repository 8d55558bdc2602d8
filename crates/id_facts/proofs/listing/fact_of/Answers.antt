-- The fact of each sort, and what an error says nothing of.
use Rattle.std.proofs.Common.{arith, rules, w64, ◌≡◌, IfOk, subst, sym}
use mir.Val.{SFits}
use Rattle.std.proofs.lemmas.Int.{to_z-of_z}
use Rattle.std.proofs.lemmas.Grind.{common_steps}
use Rattle.id_facts.specs.declared.facts.RowFact.{RowFact}
use Rattle.id_facts.specs.Listed.{fact_of}
use Rattle.id_source.proofs.TurnsLemmas.{if_err}
use Rattle.id_facts.proofs.listing.fact_of.Goals as goal

pub returns-in_err-path_at-in-On : goal.returns-in_err-path_at-in-On
returns-in_err-path_at-in-On c = if_err _ c.from_residual.result c.from_residual.ensures.0

pub returns-in_err-name_at-in-Shape : goal.returns-in_err-name_at-in-Shape
returns-in_err-name_at-in-Shape c =
    if_err _ c.from_residual-in_err-name_at-in-Shape.result c.from_residual-in_err-name_at-in-Shape.ensures.0

pub returns-in_ok-path_at-in-On : goal.returns-in_ok-path_at-in-On
returns-in_ok-path_at-in-On c = grind (arith, common_steps)

pub returns-in-Has : goal.returns-in-Has
returns-in-Has c = rw c.in-Has.is c.has_of.ensures

pub returns-in-Put : goal.returns-in-Put
returns-in-Put c =
    let fits : SFits w64 c.in-Put.index = search rules in
    let F : RowFact → Type 0 = λ f. IfOk c.put_of.result (λ v. v ≡ fact_of c.args.checked.now c.args.facts.now f) in
    subst F (sym c.in-Put.is) (rw (to_z-of_z w64 c.in-Put.index fits) at c.put_of.ensures)

pub returns-in-Ask : goal.returns-in-Ask
returns-in-Ask c =
    let fits : SFits w64 c.in-Ask.index = search rules in
    let F : RowFact → Type 0 = λ f. IfOk c.ask_of.result (λ v. v ≡ fact_of c.args.checked.now c.args.facts.now f) in
    subst F (sym c.in-Ask.is) (rw (to_z-of_z w64 c.in-Ask.index fits) at c.ask_of.ensures)
