-- All waits by the fact: where it turns its row On the name, or what the loop has, and an index that has a value.
use Rattle.std.proofs.Common.{[], ◌∷◌, ap, sym, ◌∙◌}
use Rattle.std.proofs.lemmas.Result.{on_ok_weaker}
use Rattle.id_facts.specs.Cells.{items}
use Rattle.id_facts.specs.Waits.{counts_of}
use Rattle.id_source.specs.Links.{users_of}
use Rattle.id_facts.proofs.WaitsLemmas.{each-none, no-counts, no-users, waits-at, waits-none, waits-on}
use Rattle.id_facts.proofs.waits.wait.Goals as goal

pub returns-in-Name : goal.returns-in-Name
returns-in-Name c =
    let P = c.args.checked.now in
    let l = c.args.links.now in
    let e = ap (λ z. users_of l c.in-On.row z) (sym c.node_of.ensures ∙ c.in-Name.is) in
    rw c.in-On.is
    (on_ok_weaker c.wait_for.result
    (λ g. waits-on P l (items c.args.cells.now) _ _ c.in-On.path c.in-On.row (c.in-On.row ∷ []) e g)
    c.wait_for.ensures)

pub returns-in-Loop : goal.returns-in-Loop
returns-in-Loop c =
    let P = c.args.checked.now in
    let l = c.args.links.now in
    let e = ap (λ z. users_of l c.in-On.row z) (sym c.node_of.ensures ∙ c.in-Loop.is) ∙ sym c.of.ensures in
    rw c.in-On.is
    (on_ok_weaker c.wait_each.result
    (λ g. waits-on P l (items c.args.cells.now) _ _ c.in-On.path c.in-On.row c.of.result.now e g)
    c.wait_each.ensures)

pub returns-in_default-node_of : goal.returns-in_default-node_of
returns-in_default-node_of c =
    let P = c.args.checked.now in
    let l = c.args.links.now in
    let d = c.in_default-node_of in
    let e = ap (λ z. users_of l c.in-On.row z) (sym c.node_of.ensures)
    ∙ no-users l c.in-On.row c.node_of.result d.not-Name d.not-Loop in
    rw c.in-On.is (waits-on P l (items c.args.cells.now) _ _ c.in-On.path c.in-On.row [] e
    (each-none P (items c.args.cells.now) _ c.in-On.path c.in-On.row))

pub returns-in-Index : goal.returns-in-Index
returns-in-Index c =
    let P = c.args.checked.now in
    let h = c.in-Has in
    let e = ap (λ z. counts_of h.row z) (sym c.node_of-in-Has.ensures ∙ c.in-Index.is) in
    rw h.is (on_ok_weaker c.wait_for-in-Index.result
    (λ g. waits-at P c.args.links.now (items c.args.cells.now) _ _ h.path h.row h.value (h.row ∷ []) e g)
    c.wait_for-in-Index.ensures)

pub returns-in_default-node_of-2 : goal.returns-in_default-node_of-2
returns-in_default-node_of-2 c =
    let P = c.args.checked.now in
    let h = c.in-Has in
    let e = ap (λ z. counts_of h.row z) (sym c.node_of-in-Has.ensures)
    ∙ no-counts h.row c.node_of-in-Has.result c.in_default-node_of-2.not-Index in
    rw h.is (waits-at P c.args.links.now (items c.args.cells.now) _ _ h.path h.row h.value [] e
    (each-none P (items c.args.cells.now) _ h.path h.row))

pub returns-in_default : goal.returns-in_default
returns-in_default c =
    waits-none c.args.checked.now c.args.links.now (items c.args.cells.now) c.args.waits.now c.args.fact
    c.in_default.not-On c.in_default.not-Has
