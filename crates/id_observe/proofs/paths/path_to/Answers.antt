use Rattle.std.proofs.Common.{inl, inr, ap, sym, subst, ◌∙◌, ◌≡◌, ◌⊎◌, ◌≤◌, ◌+◌, ◌++◌, ◌∷◌, [], Some, None, arith}
use Rattle.std.specs.Option.{option_copied}
use Rattle.std.specs.HashMap.{get}
use Rattle.id_tag.specs.Tags.{same_context}
use Rattle.id_observe.specs.Paths.{steps_to}
use Rattle.id_observe.proofs.PathsLemmas.{Walks, Walks-begin, Walks-goes, Walks-ends}
use Rattle.id_observe.proofs.paths.path_to.Goals.{else-loop-taken-test, then-loop-taken-test+in-None}
use Rattle.id_observe.proofs.paths.path_to.Goals as goal

pub loop-taken-init : goal.loop-taken-init
loop-taken-init c =
    Walks-begin c.args.graph.now (get same_context c.args.enters.now) c.args.most c.args.tag _ c.new-steps.ensures.items

-- one step more was passed
pub loop-taken-preserved : goal.loop-taken-preserved
loop-taken-preserved c =
    let enter = get same_context c.args.enters.now in
    let found : enter c.loop-taken.at.context ≡ Some c.in-Some.enter.now =
    sym c.get.ensures.value ∙ ap option_copied c.in-Some.is in
    let passed = c.in_ok-push-in-Some.ensures.items ∙ ap (λ x. c.loop-taken.steps.items ++ x ∷ []) c.step_of.ensures in
    subst (Walks c.args.graph.now enter c.args.most c.args.tag (c.loop-taken.taken + 1) c.in-Some.enter.now)
    (sym passed)
    (Walks-goes c.args.graph.now enter c.args.most c.args.tag c.loop-taken.taken c.loop-taken.at c.in-Some.enter.now
    c.loop-taken.steps.items
    c.loop-taken-test.true found c.loop-taken.invariant)

pub returns : goal.returns
returns c =
    let enter = get same_context c.args.enters.now in
    let walk : (enter c.loop-taken.at.context ≡ None) ⊎ (c.args.most ≤ c.loop-taken.taken) →
    c.reverse.new.self.items ≡ steps_to c.args.graph.now enter c.args.most c.args.tag =
    λ e. c.reverse.ensures.items
    ∙ sym (Walks-ends c.args.graph.now enter c.args.most c.args.tag c.loop-taken.taken c.loop-taken.at
    c.loop-taken.steps.items e
    c.loop-taken.invariant) in
    c.new.ensures ∙ walk (elim c.loop-taken-test.branch [
      | else-loop-taken-test w ↦ inr (omega (arith, w.loop-taken-test.false))
      | then-loop-taken-test+in-None w ↦ inl (sym w.get.ensures.value ∙ ap option_copied w.in-None.is)
    ])
