-- The marks say which instructions are labels.
use Rattle.std.proofs.Common.{◌≡◌, true, false, ap, sym, ◌∙◌}
use Rattle.std.specs.Prelude.{slice_get, unwrap_or}
use Rattle.id_observe.specs.Observed.{is_label}
use Rattle.id_observe.proofs.ObservedLemmas.{is_label-from_mark}
use Rattle.id_observe.proofs.shown.name_if_label.Goals as goal

pub returns-in_ok-name : goal.returns-in_ok-name
returns-in_ok-name c =
    let g = c.args.paths.now.graph.now in
    let mark : is_label g c.args.tag.instr ≡ true =
    sym (is_label-from_mark g c.args.tag.instr)
    ∙ ap (λ ms. unwrap_or (slice_get ms c.args.tag.instr) false) (sym c.requires) ∙ sym c.mark_at.ensures ∙
    c.if-mark_at.true in
    rw (mark, c.in_ok-name.ensures, c.in_ok-value.ensures)

pub returns-else-mark_at : goal.returns-else-mark_at
returns-else-mark_at c =
    let g = c.args.paths.now.graph.now in
    let mark : is_label g c.args.tag.instr ≡ false =
    sym (is_label-from_mark g c.args.tag.instr)
    ∙ ap (λ ms. unwrap_or (slice_get ms c.args.tag.instr) false) (sym c.requires) ∙ sym c.mark_at.ensures ∙
    c.if-mark_at.false in
    rw mark
