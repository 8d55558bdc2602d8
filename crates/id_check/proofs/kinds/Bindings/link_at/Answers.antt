use Rattle.std.proofs.Common.{arith, ap, sym, ◌∙◌, get_or}
use Rattle.std.specs.Prelude.{None}
use Rattle.id_table.specs.Lent.{list_of}
use Rattle.id_table.specs.Rows.{at}
use Rattle.id_table.specs.declared.row.Row.{Row}
use Rattle.id_check.specs.Kinds.{link_of}
use Rattle.id_check.specs.Scopes.{user_of}
use Rattle.id_check.proofs.LinksLemmas.{part_of, user_below}
use Rattle.id_check.proofs.kinds.Bindings.link_at.Goals as goal

pub returns : goal.returns
returns c =
    let node = ap (λ (r : Row). r.node) c.at-node.ensures in
    c.link_of.ensures
    ∙ ap (λ o. link_of o c.at-node.result.node) (c.binder_at.ensures
    ∙ ap (λ k. get_or c.args.self.now.binders.now k None) c.user_of.ensures)
    ∙ ap (λ n. link_of (get_or c.args.self.now.binders.now (user_of c.args.i n) None) n) node

pub link_of-requires-clause-binder : goal.link_of-requires-clause-binder
link_of-requires-clause-binder c = λ b e.
    let R = list_of c.args.self.now.rows.now in
    let formed = c.args.self.now.rows.now.table.now.formed in
    let node = ap (λ (r : Row). r.node) c.at-node.ensures in
    let u = user_of c.args.i (at R c.args.i).node in
    let less = c.args.self.now.within u b (user_below R c.args.i formed c.requires)
    (sym (c.binder_at.ensures
    ∙ ap (λ k. get_or c.args.self.now.binders.now k None) (c.user_of.ensures ∙ ap (user_of c.args.i) node)) ∙ e) in
    omega (arith, c.args.self.now.rows.now.few)

pub link_of-requires-clause-parts : goal.link_of-requires-clause-parts
link_of-requires-clause-parts c = λ a h.
    let node = ap (λ (r : Row). r.node) c.at-node.ensures in
    let less = part_of a c.args.self.now.rows.now.table.now.formed c.requires (sym node) h in
    omega (arith, c.args.self.now.rows.now.few)
