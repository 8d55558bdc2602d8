use Rattle.std.proofs.Common.{◌≡◌, ◌<◌, ◌+◌, ℕ, [], ◌∷◌, length, ap, ◌∙◌, sym, arith}
use Rattle.std.specs.Coded.{le_prop}
use Rattle.std.proofs.Math.Logic.{∥∥₁_elim}
use Rattle.std.proofs.Props.{props}
use Rattle.id_table.specs.declared.row.Row.{Row}
use Rattle.id_check.specs.declared.cause.CheckCause.TheVariants.{MainKind}
use Rattle.id_check.specs.Causes.{is_array_param}
use Rattle.id_table.specs.Lent.{list_of}
use Rattle.id_check.proofs.ParamsLemmas.{array_behind, array_found, array_past, head_low, param_low, without_next}
use Rattle.id_check.proofs.params.first_array.Goals as goal

below : {i n m : ℕ} → i < n → n ≡ m → i < m
below l e = omega (arith, l, e)

-- the row that was read is that of the table
array : {r s : Row} → r ≡ s → is_array_param s.node ≡ is_array_param r.node
array e = ap (λ (q : Row). is_array_param q.node) (sym e)

pub overflow_step-i : goal.overflow_step-i
overflow_step-i c =
    let t = c.args.rows.now in
    let d = c.requires in
    let low : c.args.head + 1 < length (list_of t) =
    ∥∥₁_elim t.tabled le_prop (λ w. head_low (list_of t) w c.args.head d.0 d.1) in
    omega (arith, low)

-- the row is none of the parameters
pub returns-then-not-is_param_of : goal.returns-then-not-is_param_of
returns-then-not-is_param_of c =
    let t = c.args.rows.now in
    let d = c.requires in
    let h = c.loop-i.invariant in
    ∥∥₁_elim t.tabled (hlevel props) (λ w.
    array_behind (list_of t) w c.args.head d.0 d.1 c.loop-i.i h.behind (omega (
      arith,
      c.loop-i-test.true,
      c.len-count.ensures,
    ))
    (sym c.is_param_of.ensures ∙ c.if-not-is_param_of.true) h.low h.without)

pub returns-then-is_array_param : goal.returns-then-is_array_param
returns-then-is_array_param c =
    let t = c.args.rows.now in
    let d = c.requires in
    let h = c.loop-i.invariant in
    let less = below c.loop-i-test.true c.len-count.ensures in
    ap (λ (q : Row). MainKind q.place ∷ []) c.at-row.ensures
    ∙ ∥∥₁_elim t.tabled (hlevel props) (λ w.
    array_found (list_of t) w c.args.head d.0 d.1 c.loop-i.i h.behind less
    (sym c.is_param_of.ensures ∙ c.if-not-is_param_of.false) h.without (array c.at-row.ensures
    ∙ sym c.is_array_param.ensures ∙ c.if-is_array_param.true))

pub loop-i-preserved : goal.loop-i-preserved
loop-i-preserved c =
    let t = c.args.rows.now in
    let d = c.requires in
    let h = c.loop-i.invariant in
    let less = below c.loop-i-test.true c.len-count.ensures in
    record {
      behind = let l = h.behind in omega arith;
      low = ∥∥₁_elim t.tabled le_prop (λ w.
          param_low (list_of t) w c.args.head d.0 d.1 c.loop-i.i h.behind less (sym c.is_param_of.ensures
          ∙ c.if-not-is_param_of.false));
      without = without_next (list_of t) c.args.head c.loop-i.i h.behind h.without
          (array c.at-row.ensures ∙ sym c.is_array_param.ensures ∙ c.if-is_array_param.false);
    }

pub returns : goal.returns
returns c =
    let t = c.args.rows.now in
    let d = c.requires in
    let h = c.loop-i.invariant in
    let past = c.loop-i-test.false in
    ∥∥₁_elim t.tabled (hlevel props)
    (λ w. array_past (list_of t) w c.args.head d.0 d.1 c.loop-i.i h.behind (omega (arith, past, c.len-count.ensures))
    h.low h.without)
