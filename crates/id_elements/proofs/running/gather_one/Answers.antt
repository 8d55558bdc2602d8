use Rattle.std.proofs.Common.{arith}
use Rattle.id_elements.specs.Gathered.{states_of}
use Rattle.id_elements.proofs.GatheredLemmas.{whole_parts}
use Rattle.id_elements.proofs.running.gather_one.Goals as goal

pub returns-clause-stops : goal.returns-clause-stops
returns-clause-stops c = c.into_parts-theirs.ensures.kept.stops

pub returns-clause-whole : goal.returns-clause-whole
returns-clause-whole c start whole =
    let p = c.into_parts-theirs in
    rw c.in_ok-insert.ensures.items
    (whole_parts start c.args.doors.now.items c.absorb_all.new.doors.items (states_of c.args.elements.now.items)
    c.args.left.now.messages c.keep_all.new.left.messages
    c.args.worker p.result.doors.items p.result.element p.result.own.messages p.result.came.messages
    p.result.back.messages p.result.stray.messages
    p.result.letters.items
    p.ensures.doors p.ensures.element p.ensures.own p.ensures.came p.ensures.back p.ensures.stray p.ensures.letters
    c.absorb_all.ensures p.ensures.kept
    (λ f.
    (
    let a = c.in_ok-keep_rest.ensures f in
    let b = c.in_ok-keep_rest-2.ensures f in
    let d = c.in_ok-keep_rest-3.ensures f in
    let e = c.in_ok-keep_rest-4.ensures f in
    let h = c.in_ok-keep_all.ensures f in
    omega (arith, a, b, d, e, h)
    )) whole)
