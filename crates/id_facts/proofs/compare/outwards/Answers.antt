-- The deeper path goes out by a step, and of two that are as deep both.
use Rattle.std.proofs.Common.{Less, Greater, ap, ◌∙◌, arith}
use Rattle.id_facts.specs.Listed.{steps_in_all}
use Rattle.id_facts.specs.Depths.{compared, outside}
use Rattle.id_facts.proofs.CompareLemmas.{step-both, step-first, step-second}
use Rattle.id_facts.proofs.compare.outwards.Goals as goal

pub returns-then-deep-there-clause-same : goal.returns-then-deep-there-clause-same
returns-then-deep-there-clause-same c =
    let P = c.args.checked.now in
    let fs = c.args.tree.now in
    let s = step-second P fs c.depth-deep.ensures.kept c.args.a c.args.b c.args.found c.depth-deep.result
    c.depth-there.result c.depth-deep.ensures.is
    c.depth-there.ensures.is c.if-deep-there.true in
    ap (λ t. compared P fs c.args.a t Less) c.outside.ensures ∙ s.0

pub returns-then-deep-there-clause-nearer : goal.returns-then-deep-there-clause-nearer
returns-then-deep-there-clause-nearer c =
    let s = step-second c.args.checked.now c.args.tree.now c.depth-deep.ensures.kept c.args.a c.args.b c.args.found
    c.depth-deep.result c.depth-there.result
    c.depth-deep.ensures.is c.depth-there.ensures.is c.if-deep-there.true in
    let e = ap steps_in_all c.outside.ensures in
    let less = s.1 in
    omega (arith, e, less)

pub returns-then-there-deep-clause-same : goal.returns-then-there-deep-clause-same
returns-then-there-deep-clause-same c =
    let P = c.args.checked.now in
    let fs = c.args.tree.now in
    let s = step-first P fs c.depth-deep.ensures.kept c.args.a c.args.b c.args.found c.depth-deep.result
    c.depth-there.result c.depth-deep.ensures.is
    c.depth-there.ensures.is c.if-there-deep.true in
    ap (λ t. compared P fs t c.args.b Greater) c.outside-then-there-deep.ensures ∙ s.0

pub returns-then-there-deep-clause-nearer : goal.returns-then-there-deep-clause-nearer
returns-then-there-deep-clause-nearer c =
    let s = step-first c.args.checked.now c.args.tree.now c.depth-deep.ensures.kept c.args.a c.args.b c.args.found
    c.depth-deep.result c.depth-there.result
    c.depth-deep.ensures.is c.depth-there.ensures.is c.if-there-deep.true in
    let e = ap steps_in_all c.outside-then-there-deep.ensures in
    let less = s.1 in
    omega (arith, e, less)

pub returns-else-there-deep-clause-same : goal.returns-else-there-deep-clause-same
returns-else-there-deep-clause-same c =
    let P = c.args.checked.now in
    let fs = c.args.tree.now in
    let x = c.if-deep-there.false in
    let y = c.if-there-deep.false in
    let s = step-both P fs c.depth-deep.ensures.kept c.args.a c.args.b c.args.found c.depth-deep.result
    c.depth-there.result c.depth-deep.ensures.is
    c.depth-there.ensures.is (omega (arith, x, y)) c.requires in
    ap (λ t. compared P fs t c.outside-else-there-deep-2.result c.compare_last-last.result)
    c.outside-else-there-deep.ensures
    ∙ ap (λ t. compared P fs (outside fs c.args.a) t c.compare_last-last.result) c.outside-else-there-deep-2.ensures
    ∙ ap (λ o. compared P fs (outside fs c.args.a) (outside fs c.args.b) o) c.compare_last-last.ensures ∙ s.0

pub returns-else-there-deep-clause-nearer : goal.returns-else-there-deep-clause-nearer
returns-else-there-deep-clause-nearer c =
    let x = c.if-deep-there.false in
    let y = c.if-there-deep.false in
    let s = step-both c.args.checked.now c.args.tree.now c.depth-deep.ensures.kept c.args.a c.args.b c.args.found
    c.depth-deep.result c.depth-there.result
    c.depth-deep.ensures.is c.depth-there.ensures.is (omega (arith, x, y)) c.requires in
    let e = ap steps_in_all c.outside-else-there-deep.ensures in
    let f = ap steps_in_all c.outside-else-there-deep-2.ensures in
    let less = s.1 in
    omega (arith, e, f, less)
