-- What a loop carries on stands right behind its head.
use Rattle.std.proofs.Common.{◌≡◌, ◌∙◌, ap, arith, refl, sym}
use Rattle.id_check.specs.Programs.{rows}
use Rattle.id_table.specs.declared.row.Node.TheVariants.{Carried}
use Rattle.id_table.specs.Tables.{is_carried}
use Rattle.id_desugar.proofs.EndsLemmas.{row_inside}
use Rattle.id_build.specs.Rows.{node}
use Rattle.id_build.proofs.BuildableLemmas.{carried_head}
use Rattle.id_build.proofs.feeds.push_of_loop.Goals as goal

pub push_carried-requires : goal.push_carried-requires
push_carried-requires c =
    let P = c.args.slots.now.kernel.now.checked.now in
    let is : node P c.args.n ≡ Carried c.in-Carried.kind = ap (λ r. r.node) (sym c.requires.row) ∙ c.in-Carried.is in
    let within = row_inside (rows P) c.args.n is_carried refl (ap is_carried is) in
    omega (arith, (carried_head P c.args.n within is).1, ap (λ r. r.block) c.requires.row)
