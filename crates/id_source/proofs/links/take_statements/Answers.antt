-- The last statement goes where it stands from the row on, and else none of those before it does.
use Rattle.std.proofs.Common.{◌≡◌, [], arith}
use Rattle.std.proofs.lemmas.List.{nil_from_length}
use Rattle.id_source.proofs.EdgesLemmas.{takes-init, takes-step, takes-some, takes-none}
use Rattle.id_source.proofs.links.take_statements.Goals as goal

pub loop-statement-init : goal.loop-statement-init
loop-statement-init c = takes-init c.args.turns.now c.args.waiting.now.items c.args.first c.args.from c.requires

pub returns-then-statement-first : goal.returns-then-statement-first
returns-then-statement-first c =
    takes-some _ _ _ _ c.pop.new.self.items _ c.in-Some.statement c.args.first c.args.from c.loop-statement.invariant
    c.in-Some.ensures.items
    c.in_ok-push.ensures.items (omega arith)

pub loop-statement-preserved : goal.loop-statement-preserved
loop-statement-preserved c =
    takes-step _ _ _ _ _ c.pop.new.self.items c.in-Some.statement c.args.first c.args.from c.loop-statement.invariant
    c.in-Some.ensures.items
    (omega arith) c.in_ok-add_from.ensures

pub returns : goal.returns
returns c =
    let none = c.in_default.ensures.cases in
    let old : c.loop-statement.waiting.items ≡ [] = nil_from_length _ (omega (arith, none.0)) in
    let new : c.pop.new.self.items ≡ [] = nil_from_length _ (omega (arith, none.1)) in
    takes-none _ _ _ _ _ c.args.first c.args.from c.loop-statement.invariant old new
