-- The list that stands at the row.
use Rattle.std.proofs.Common.{◌∙◌, [], List, ℕ, ap, get_or}
use Rattle.id_build.proofs.SlotsLemmas.{listed_at}
use Rattle.id_build.proofs.loops.imports_at.Goals as goal

pub returns : goal.returns
returns c =
    let k = c.args.kernel.now in
    c.get.ensures ∙ ap (λ (l : List (List ℕ)). get_or l c.args.row []) k.imported ∙ listed_at k.checked.now c.args.row
