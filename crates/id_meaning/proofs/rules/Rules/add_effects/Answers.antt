-- What follows from a fact of each sort.
use Rattle.std.proofs.Common.{rules, w64, ◌≡◌, ◌++◌, OnOk, subst, sym}
use mir.Val.{SFits}
use Rattle.std.proofs.lemmas.Int.{to_z-of_z}
use Rattle.id_facts.specs.declared.facts.RowFact.{RowFact}
use Rattle.id_meaning.specs.Effects.{effects}
use Rattle.id_meaning.proofs.rules.Rules.add_effects.Goals as goal

pub returns-in-On : goal.returns-in-On
returns-in-On c = rw c.in-On.is c.add_from_turned.ensures

pub returns-in-Has : goal.returns-in-Has
returns-in-Has c = rw c.in-Has.is c.add_from_value.ensures

pub returns-in-Shape : goal.returns-in-Shape
returns-in-Shape c = rw c.in-Shape.is c.add_from_shape.ensures

pub returns-in-Put : goal.returns-in-Put
returns-in-Put c =
    let fits : SFits w64 c.in-Put.index = search rules in
    let found = c.add_put.new.found.items in
    let F : RowFact → Type 0 =
    λ f. OnOk c.add_put.result
    (found ≡ c.args.found.now.items ++ effects c.args.self.now.checked.now c.args.self.now.links.now
    c.args.self.now.waits.now c.args.self.now.cells.now f) in
    subst F (sym c.in-Put.is) (rw (to_z-of_z w64 c.in-Put.index fits) at c.add_put.ensures)

pub returns-in-Ask : goal.returns-in-Ask
returns-in-Ask c =
    let fits : SFits w64 c.in-Ask.index = search rules in
    let found = c.add_asked.new.found.items in
    let F : RowFact → Type 0 =
    λ f. OnOk c.add_asked.result
    (found ≡ c.args.found.now.items ++ effects c.args.self.now.checked.now c.args.self.now.links.now
    c.args.self.now.waits.now c.args.self.now.cells.now f) in
    subst F (sym c.in-Ask.is) (rw (to_z-of_z w64 c.in-Ask.index fits) at c.add_asked.ensures)
