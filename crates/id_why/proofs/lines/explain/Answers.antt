-- The things are gone through one after another.
use Rattle.std.proofs.Common.{◌≡◌, ◌+◌, suc, ap, arith, ◌∙◌, []}
use Rattle.id_why.specs.Things.{with_all}
use Rattle.id_why.proofs.WalkLemmas.{walk-end, walk-more, walk-none}
use Rattle.id_why.proofs.lines.explain.Goals as goal

pub loop-number-init : goal.loop-number-init
loop-number-init c =
    walk-none c.args.checked.now c.args.links.now c.args.known.now c.requires.indexed c.requires.args c.requires.apart
    c.add_all.new.self
    c.new-lines.result.items
    (c.in_ok-add_all.ensures ∙ ap (λ ts. with_all ts c.as_slice.result.now) c.in_ok-things.ensures
    ∙ ap (with_all []) (c.as_slice.ensures.value ∙ c.in_ok-first.ensures))
    c.new-lines.ensures.items

pub loop-number-preserved : goal.loop-number-preserved
loop-number-preserved c =
    let n = c.loop-number.number in
    let next : n + 1 ≡ suc n = omega arith in
    walk-more c.args.checked.now c.args.links.now c.args.known.now c.requires.indexed c.requires.args c.requires.apart n
    (n + 1) c.loop-number.things
    c.add_all-in-loop-number.new.self c.loop-number.lines.items c.push.new.self.items c.thing.result c.in_ok-line.line
    next c.loop-number.invariant
    c.thing.ensures c.in_ok-line.ensures
    (c.in_ok-add_all-2.ensures ∙ ap (with_all c.loop-number.things) c.as_slice-in-loop-number.ensures.value)
    c.in_ok-push.ensures.items

pub returns-then-number-len : goal.returns-then-number-len
returns-then-number-len c =
    walk-end c.args.checked.now c.args.links.now c.args.known.now c.requires.indexed c.requires.args c.requires.apart
    c.loop-number.number
    c.loop-number.things c.loop-number.lines.items c.loop-number.invariant (let q = c.len.ensures in let l =
    c.if-number-len.true in omega arith)
