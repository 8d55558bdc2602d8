-- The entries of a loop are those of what it carries on beside its variables, these, and then its imports.
use Rattle.std.proofs.Common.{◌∙◌, ◌^◌, ◌≤◌, ◌++◌, List, ℕ, ap, length, map, refl, sym, subst}
use Rattle.std.proofs.lemmas.List.{append_assoc, map-append}
use Rattle.id_desugar.specs.Regions.{carried, first_variable, imports_of, nexts_of, order_of}
use Rattle.id_build.specs.Made.{number_by}
use Rattle.id_build.specs.Rows.{Entry, entries_by, entries_row, import_entries, node, param_entry, variable_entries}
use Rattle.id_build.proofs.LoopsLemmas.{head_inside, loop_head_is}
use Rattle.id_build.proofs.BuildableLemmas.{is_order}
use Rattle.id_build.proofs.FitsLemmas.{entries_fit}
use Rattle.id_build.proofs.PassesLemmas.{few_in, firsts_in}
use Rattle.id_build.proofs.program.loop_entries.Goals as goal

pub push_imported-requires : goal.push_imported-requires
push_imported-requires c =
    let S = c.args.slots.now in
    let P = S.kernel.now.checked.now in
    let F = S.firsts.items in
    let h = c.args.head in
    let order = order_of P in
    let z = loop_head_is (node P h) c.requires in
    let fit = entries_fit P order F (is_order P order refl) (firsts_in S order refl) (few_in S order refl) in
    subst (λ e. number_by F e (length (imports_of P h)) ≤ 2 ^ 32) (sym c.entries_row-imported.ensures)
    (fit h z.0 (head_inside P h c.requires) z.1)

pub returns : goal.returns
returns c =
    let P = c.args.slots.now.kernel.now.checked.now in
    let h = c.args.head in
    let f : Entry → ℕ = λ q. number_by c.args.slots.now.firsts.items q.row q.part in
    let cs = map param_entry (carried P h) in
    let bs = variable_entries (first_variable P h) (nexts_of P h) in
    let vs = cs ++ bs in
    let ws : ℕ → List Entry = λ e. import_entries e 0 (imports_of P h) in
    let e = c.entries_row-imported.result in
    let z = loop_head_is (node P h) c.requires in
    c.in_ok-push_imported.ensures
    ∙ ap (λ xs. xs ++ map f (ws e)) (c.in_ok-push_variables.ensures
    ∙ ap (λ (xs : List ℕ). xs ++ map f vs) c.new-entries.ensures.items)
    ∙ ap (λ k. map f vs ++ map f (ws k)) c.entries_row-imported.ensures ∙ sym (map-append f vs (ws (entries_row P h)))
    ∙ ap (map f) (append_assoc cs bs (ws (entries_row P h))) ∙ ap (λ n. map f (entries_by P h n)) (sym z.1)
