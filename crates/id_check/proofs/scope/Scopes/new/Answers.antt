use Rattle.std.proofs.Common.{◌≡◌, ◌+◌, false, None, length, replicate, ap, ◌∙◌, arith, rules}
use Rattle.std.proofs.lemmas.List.{length-replicate}
use Rattle.id_table.specs.Lent.{list_of}
use Rattle.id_check.specs.Names.{in_scope, keys}
use Rattle.id_check.proofs.NoneLemmas.{all_same, bound_none, waiting_none}
use Rattle.id_check.proofs.TakingLemmas.{taking_start}
use Rattle.id_check.proofs.scope.Scopes.new.Goals as goal

pub invariant_of-result : goal.invariant_of-result
invariant_of-result c =
    let R = list_of c.args.rows.now in
    let rows = c.len-count.ensures in
    let hs = c.in_ok-held.ensures.items_if_clones_equal (λ y h. h) in
    let bs = c.in_ok-bound.ensures.items_if_clones_equal (λ y h. search rules) in
    let sized : length c.in_ok-bound.bound.items ≡ c.len.result = ap length bs ∙ length-replicate c.len.result None in
    let named : length c.in_ok-bound.bound.items ≡ length c.args.rows.now.table.now.names.items =
    omega (arith, sized, c.len.ensures, c.args.rows.now.table.now.names.ok.0) in
    let names : c.len-names.result ≡ length c.args.rows.now.table.now.names.items =
    omega (arith, named, c.len-names.ensures, c.in_ok-bound.bound.ok.0) in
    let os = c.in_ok-binders.ensures ∙ ap (λ n. replicate n None) rows in
    let ls = c.in_ok-last.ensures ∙ ap (λ n. replicate (n + n) None) names in
    let es = c.in_ok-earlier.ensures ∙ ap (λ n. replicate n None) rows in
    record {
      inside = omega arith;
      closed = record {
        long = ap length hs ∙ length-replicate c.len-count.result false ∙ rows;
        each = λ i less. all_same c.in_ok-held.held.items c.len-count.result i false hs;
      };
      named = named;
      waiting =
          waiting_none R (keys (length c.args.rows.now.table.now.names.items)) c.in_ok-binders.binders.items
          c.in_ok-last.last.items
          c.in_ok-earlier.earlier.items os ls es;
    }

pub returns-clause-begun : goal.returns-clause-begun
returns-clause-begun c =
    let R = list_of c.args.rows.now in
    let bs = c.in_ok-bound.ensures.items_if_clones_equal (λ y h. search rules) in
    let os = c.in_ok-binders.ensures ∙ ap (λ n. replicate n None) c.len-count.ensures in
    taking_start R 0 c.in_ok-bound.bound.items c.in_ok-binders.binders.items
    (record { each = λ x t less. ap (in_scope t) (all_same c.in_ok-bound.bound.items c.len.result x None bs) })
    (bound_none R c.in_ok-binders.binders.items os)
