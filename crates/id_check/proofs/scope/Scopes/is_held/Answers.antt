use Rattle.std.proofs.Common.{false, ◌∙◌, arith}
use Rattle.std.proofs.lemmas.List.{get_or_default}
use Rattle.id_check.proofs.scope.Scopes.is_held.Goals as goal

pub index-requires : goal.index-requires
index-requires c =
    let p = c.args.self.now in
    let inside = p.inside in
    let long = p.closed.long in
    let less = c.requires in
    omega arith

pub returns : goal.returns
returns c =
    let p = c.args.self.now in
    let inside = p.inside in
    let long = p.closed.long in
    let less = c.requires in
    c.index.ensures
    ∙ (get_or_default p.held.items c.args.row c.index.result.now false (omega arith)
    ∙ p.closed.each c.args.row (omega arith))
