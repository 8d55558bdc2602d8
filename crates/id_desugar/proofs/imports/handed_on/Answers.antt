-- The upper bound of an index, the variables, and the imports of the head.
use Rattle.std.proofs.Common.{◌≡◌, ◌<◌, ◌+◌, refl, [], ◌∷◌, true, ◌++◌, ap, sym, ◌∙◌, subst, arith, append_assoc}
use Rattle.std.proofs.Common.{if◌then◌else◌, IfOk}
use Rattle.std.proofs.lemmas.List.{get_or_default}
use Rattle.id_check.specs.Programs.{rows}
use Rattle.id_table.specs.declared.row.Row.{Row}
use Rattle.id_table.specs.Rows.{at}
use Rattle.id_table.specs.Tables.{is_switches}
use Rattle.id_desugar.specs.Regions.{bound_of, imports_of, is_loop_head, nexts_of}
use Rattle.id_desugar.proofs.EndsLemmas.{row_inside}
use Rattle.id_desugar.proofs.FilledLemmas.{switches_hand}
use Rattle.id_desugar.proofs.OwnLemmas.{switches_head}
use Rattle.id_desugar.proofs.imports.handed_on.Goals.{then-has_index+in_ok-push, else-has_index}
use Rattle.id_desugar.proofs.imports.handed_on.Goals as goal

pub add_nexts-requires : goal.add_nexts-requires
add_nexts-requires c =
    let P = c.args.spans.now.ends.checked.now in
    let here = ap (λ (r : Row). r.block) c.row_at-head.ensures in
    subst (λ z. is_loop_head (at (rows P) z).node ≡ true) (sym here) (switches_head P c.args.switches c.requires.node).1

pub overflow_add-head : goal.overflow_add-head
overflow_add-head c =
    let P = c.args.spans.now.ends.checked.now in
    let here = ap (λ (r : Row). r.block) c.row_at-head.ensures in
    let within = row_inside (rows P) c.args.switches is_switches refl c.requires.node in
    omega (arith, here, (switches_head P c.args.switches c.requires.node).0, within, c.args.spans.now.ends.few)

pub overflow_cast-head : goal.overflow_cast-head
overflow_cast-head c =
    let P = c.args.spans.now.ends.checked.now in
    let here = ap (λ (r : Row). r.block) c.row_at-head.ensures in
    let within = row_inside (rows P) c.args.switches is_switches refl c.requires.node in
    omega (arith, here, (switches_head P c.args.switches c.requires.node).0, within, c.args.spans.now.ends.few)

pub bounds-lists-head : goal.bounds-lists-head
bounds-lists-head c =
    let P = c.args.spans.now.ends.checked.now in
    let here = ap (λ (r : Row). r.block) c.row_at-head.ensures in
    let within = row_inside (rows P) c.args.switches is_switches refl c.requires.node in
    omega (arith, here, (switches_head P c.args.switches c.requires.node).0, within, c.requires.lists.many)

pub returns : goal.returns
returns c =
    let P = c.args.spans.now.ends.checked.now in
    let s = c.args.switches in
    let g = c.row_at-head.result.block in
    let here : g ≡ (at (rows P) s).block = ap (λ (r : Row). r.block) c.row_at-head.ensures in
    let within = row_inside (rows P) s is_switches refl c.requires.node in
    let w = switches_head P s c.requires.node in
    let low : g < s = omega (arith, w.0, here) in
    let bound : c.if-has_index.list.items ≡ bound_of P g = elim c.if-has_index.branch [
      | then-has_index+in_ok-push v ↦
          ap (λ l. l.items) v.list-is ∙ v.in_ok-push.ensures.items
          ∙ ap (λ z. z ++ ((g + 2) ∷ [])) c.new-list.ensures.items
          ∙ sym (ap (λ t. if t then ((g + 2) ∷ []) else []) (sym c.has_index.ensures ∙ v.if-has_index.true))
      | else-has_index v ↦
          ap (λ l. l.items) v.list-is ∙ c.new-list.ensures.items
          ∙ sym (ap (λ t. if t then ((g + 2) ∷ []) else []) (sym c.has_index.ensures ∙ v.if-has_index.false))
    ] in
    let own : c.extend_from_slice.new.self.items ≡ imports_of P s =
    c.in_ok-extend_from_slice.ensures.items ∙ ap (λ z. z ++ c.as_slice.result.now) c.in_ok-add_nexts.ensures
    ∙ ap (λ z. (z ++ nexts_of P g) ++ c.as_slice.result.now) bound
    ∙ append_assoc (bound_of P g) (nexts_of P g) c.as_slice.result.now
    ∙ ap (λ z. bound_of P g ++ (nexts_of P g ++ z)) (c.as_slice.ensures ∙ c.index-lists-head.is
    ∙ get_or_default c.args.lists.now g c.index-lists-head.result [] (omega (arith, low, within, c.requires.lists.many))
    ∙ c.requires.lists.imported g low (omega (arith, low, within)))
    ∙ switches_hand P s g c.requires.node here (subst (λ z. is_loop_head (at (rows P) z).node ≡ true) (sym here) w.1) in
    subst (λ z. IfOk c.new.result (λ i. i ≡ z)) own c.new.ensures
