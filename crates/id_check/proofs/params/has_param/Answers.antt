use Rattle.std.proofs.Common.{◌<◌, ◌+◌, length, ◌∙◌, arith}
use Rattle.std.specs.Coded.{le_prop}
use Rattle.std.proofs.Math.Logic.{∥∥₁_elim}
use Rattle.std.proofs.Props.{props}
use Rattle.std.proofs.lemmas.Bool.Decides.{nat_tests}
use Rattle.id_table.specs.Lent.{list_of}
use Rattle.id_check.proofs.ParamsLemmas.{has_param-own, has_param-past, head_low}
use Rattle.id_check.proofs.params.has_param.Goals as goal

pub overflow_sub-len : goal.overflow_sub-len
overflow_sub-len c =
    let t = c.args.rows.now in
    let d = c.requires in
    let low : c.args.head + 1 < length (list_of t) =
    ∥∥₁_elim t.tabled le_prop (λ w. head_low (list_of t) w c.args.head d.0 d.1) in
    omega (arith, low, c.len.ensures)

pub overflow_sub-len-2 : goal.overflow_sub-len-2
overflow_sub-len-2 c =
    let t = c.args.rows.now in
    let d = c.requires in
    let low : c.args.head + 1 < length (list_of t) =
    ∥∥₁_elim t.tabled le_prop (λ w. head_low (list_of t) w c.args.head d.0 d.1) in
    omega (arith, low, c.len.ensures)

pub returns-then-index-len : goal.returns-then-index-len
returns-then-index-len c =
    let t = c.args.rows.now in
    let R = list_of t in
    let d = c.requires in
    let less = c.if-index-len.true in
    c.is_param_of.ensures
    ∙ ∥∥₁_elim t.tabled (hlevel props) (λ w.
    let low = head_low R w c.args.head d.0 d.1 in
    has_param-own R w c.args.head d.0 d.1 c.args.index (omega (arith, low, less, c.len.ensures)))

-- there is no such row
pub returns-else-index-len : goal.returns-else-index-len
returns-else-index-len c =
    let t = c.args.rows.now in
    let R = list_of t in
    let d = c.requires in
    let past = c.if-index-len.false in
    ∥∥₁_elim t.tabled (hlevel props) (λ w.
    let low = head_low R w c.args.head d.0 d.1 in
    let no = has_param-past R w c.args.head d.0 d.1 c.args.index (omega (arith, low, past, c.len.ensures)) in
    grind (arith, nat_tests))
