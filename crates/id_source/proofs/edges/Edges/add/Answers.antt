-- An edge is added to those of its row.
use Rattle.std.proofs.Common.{◌∷◌, ◌++◌, [], refl, arith, ap, sym, ◌∙◌}
use Rattle.std.specs.Vec.{with_item}
use Rattle.id_source.specs.declared.edges.Edges.{Edges}
use Rattle.id_source.proofs.EdgesLemmas.{gains-one, kept-one, targets-at}
use Rattle.id_source.proofs.edges.Edges.add.Goals as goal

pub returns-in_err-push-clause-kept : goal.returns-in_err-push-clause-kept
returns-in_err-push-clause-kept c =
    let E = c.args.self.now in
    let F : Edges = record { rows = with_item E.rows c.args.from c.push.new.self } in
    let old =
    ap (λ v. v.items) c.index_mut.ensures.value
    ∙ sym (targets-at E.rows.items c.args.from c.index_mut.result.now (omega arith)) in
    kept-one E F c.args.from c.push.new.self refl (omega arith) (c.in_err-push.ensures.items ∙ old)

pub returns-in_ok-push-clause-gains : goal.returns-in_ok-push-clause-gains
returns-in_ok-push-clause-gains c =
    let E = c.args.self.now in
    let old =
    ap (λ v. v.items) c.index_mut.ensures.value
    ∙ sym (targets-at E.rows.items c.args.from c.index_mut.result.now (omega arith)) in
    gains-one E _ c.args.from c.args.to c.push.new.self refl (omega arith) (c.in_ok-push.ensures.items
    ∙ ap (λ xs. xs ++ c.args.to ∷ []) old)

pub returns-in_ok-push-clause-kept : goal.returns-in_ok-push-clause-kept
returns-in_ok-push-clause-kept c =
    let E = c.args.self.now in
    let F : Edges = record { rows = with_item E.rows c.args.from c.push.new.self } in
    let old =
    ap (λ v. v.items) c.index_mut.ensures.value
    ∙ sym (targets-at E.rows.items c.args.from c.index_mut.result.now (omega arith)) in
    (gains-one E F c.args.from c.args.to c.push.new.self refl (omega arith) (c.in_ok-push.ensures.items
    ∙ ap (λ xs. xs ++ c.args.to ∷ []) old)).kept
