-- The pieces of the row are its own, since there were none.
use Rattle.std.proofs.Common.{◌∙◌, ◌++◌, List, [], ap, refl, subst, sym}
use Rattle.std.specs.Prelude.{All}
use Rattle.id_desugar.specs.Regions.{order_of}
use Rattle.id_build.specs.declared.arc.Piece.{Piece}
use Rattle.id_build.specs.Made.{Fits, instrs_from}
use Rattle.id_build.specs.Rows.{made}
use Rattle.id_build.proofs.BuildableLemmas.{is_order}
use Rattle.id_build.proofs.FitsLemmas.{row_fits}
use Rattle.id_build.proofs.PassesLemmas.{few_in, firsts_in}
use Rattle.id_build.proofs.program.add_bare.Goals as goal

pub push_bare-requires : goal.push_bare-requires
push_bare-requires c =
    let S = c.args.slots.now in
    let P = S.kernel.now.checked.now in
    let F = S.firsts.items in
    let order = order_of P in
    let fit = row_fits P order F (is_order P order refl) (firsts_in S order refl) (few_in S order refl) c.args.n in
    let own = c.as_slice.ensures.value ∙ c.in_ok-push_pieces.ensures
    ∙ ap (λ (x : List Piece). x ++ made P c.args.n) c.requires in
    subst (λ (x : List Piece). All (λ (p : Piece). Fits F p.form) x) (sym own) fit

pub returns-clause-bare : goal.returns-clause-bare
returns-clause-bare c =
    let S = c.args.slots.now in
    let own = c.as_slice.ensures.value ∙ c.in_ok-push_pieces.ensures
    ∙ ap (λ (x : List Piece). x ++ made S.kernel.now.checked.now c.args.n) c.requires in
    c.in_ok-push_bare.ensures
    ∙ ap (λ (x : List Piece). c.args.instrs.now.items ++ instrs_from S.firsts.items 0 x []) own
