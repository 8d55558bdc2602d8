use Rattle.std.proofs.Common.{set, true, sym, ◌∙◌, subst, add-one, arith}
use Rattle.id_check.specs.Names.{AreTaken}
use Rattle.id_check.proofs.ScopesLemmas.{confines_is, or_false}
use Rattle.id_table.specs.Lent.{list_of}
use Rattle.id_check.specs.Scopes.{closes, confines, held}
use Rattle.id_check.proofs.PassingLemmas.{by_nodes}
use Rattle.id_check.proofs.TakingLemmas.{taken_more, taken_same}
use Rattle.id_check.proofs.scope.close_row.Goals as goal

pub returns-then-closes : goal.returns-then-closes
returns-then-closes c =
    let R = (list_of c.args.rows.now) in
    let s = c.args.scope in
    let b = c.args.binder in
    let hs = c.args.held.now.items in
    let row = c.requires.within in
    let inside = c.requires.inside in
    let is = confines_is R s b c.requires.behind inside
    ∙ by_nodes closes R s b c.at.result c.at-2.result c.closes.result c.at.ensures c.at-2.ensures c.closes.ensures
    ∙ c.if-closes.true in
    subst (λ n. AreTaken R s n (set hs b true)) (sym (add-one b))
    (taken_more R s b hs (omega arith) is c.requires.taken)

pub returns-else-closes : goal.returns-else-closes
returns-else-closes c =
    let R = (list_of c.args.rows.now) in
    let s = c.args.scope in
    let b = c.args.binder in
    let hs = c.args.held.now.items in
    let is = confines_is R s b c.requires.behind c.requires.inside
    ∙ by_nodes closes R s b c.at.result c.at-2.result c.closes.result c.at.ensures c.at-2.ensures c.closes.ensures
    ∙ c.if-closes.false in
    subst (λ n. AreTaken R s n hs) (sym (add-one b))
    (taken_same R s b hs (or_false (held R b s) (confines R s b) is) c.requires.taken)
