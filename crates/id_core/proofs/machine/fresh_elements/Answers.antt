-- One more element has the next number, and is fresh.
use Rattle.std.proofs.Common.{◌≡◌, length, sym, ap, ◌∙◌, arith}
use Rattle.std.proofs.lemmas.List.Elements.{All-push}
use Rattle.std.proofs.lemmas.List.{length_push, map_push, replicate_more}
use Rattle.id_core.specs.Machines.{IsElement}
use Rattle.id_core.proofs.MachinesLemmas.{AreElements-push}
use Rattle.id_core.proofs.machine.fresh_elements.Goals as goal

pub loop-number-preserved : goal.loop-number-preserved
loop-number-preserved c =
    let items = c.loop-number.elements.items in
    let made : IsElement c.args.graph.now c.args.count.number (length items) c.keeping.result = record {
      number = ap (λ v. v.number) c.keeping.ensures ∙ sym c.loop-number.invariant.0;
      count_is = ap (λ v. v.count) c.keeping.ensures;
      graph = ap (λ v. v.graph) c.keeping.ensures;
    } in (
      rw (c.push_reserved.ensures.items, length_push items c.keeping.result, c.loop-number.invariant.0),
      omega arith,
      omega arith,
      rw c.push_reserved.ensures.items
          (AreElements-push c.args.graph.now c.args.count.number items c.keeping.result c.loop-number.invariant.3 made),
      rw c.push_reserved.ensures.items
          (All-push (λ e. e.keeps ≡ c.args.keeps) items c.keeping.result c.loop-number.invariant.4
          (ap (λ v. v.keeps) c.keeping.ensures)),
      rw (
        c.push_reserved.ensures.items,
        map_push (λ e. e.state) items c.keeping.result,
        c.loop-number.invariant.5,
        ap (λ v. v.state) c.keeping.ensures,
        replicate_more,
      ),
    )
