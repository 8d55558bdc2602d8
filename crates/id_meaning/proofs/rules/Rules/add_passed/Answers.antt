-- What comes where the row is an argument, and where it is none.
use Rattle.std.proofs.Common.{◌≡◌, ◌∷◌, [], ◌++◌, ◌∙◌, ℕ, List, Option, OnOk, Result, append_assoc, ap, arith, length}
use Rattle.std.proofs.Common.{rules}
use Rattle.std.specs.declared.alloc.AllocError.{AllocError}
use Rattle.std.proofs.lemmas.Grind.{common_steps}
use Rattle.std.proofs.lemmas.Result.{on_ok_weaker}
use Rattle.id_table.specs.declared.row.Node.{Node}
use Rattle.id_table.specs.declared.row.Node.TheVariants.{Arg}
use Rattle.id_check.specs.declared.checked.Checked.{Checked}
use Rattle.id_check.specs.Programs.{rows}
use Rattle.id_meaning.specs.declared.calls.OnCall.{OnCall}
use Rattle.id_facts.specs.declared.cells.Cells.{Cells}
use Rattle.id_facts.specs.declared.facts.RowFact.{RowFact}
use Rattle.id_facts.specs.declared.facts.RowFact.TheVariants.{On}
use Rattle.id_facts.specs.declared.facts.RowValue.{RowValue}
use Rattle.id_facts.specs.declared.facts.Trail.{Trail}
use Rattle.id_facts.specs.Cells.{values}
use Rattle.id_meaning.specs.Effects.{param_haves, param_row, passed_of}
use Rattle.id_source.proofs.TurnsLemmas.{on_ok}
use Rattle.id_meaning.proofs.rules.Rules.add_passed.Goals as goal

module _ (P : Checked) (cells : Cells) (g : RowFact) (p : Trail) (k : OnCall) where
  argument : (z : Node) (e i v : ℕ) (param : Option ℕ) (vs : List RowValue) → z ≡ Arg e i v → e ≡ k.enter → vs ≡ values
      cells g p v
      → param ≡ param_row (length (rows P)) k.head i → On p v ∷ param_haves k.path param vs ≡ passed_of P cells g p k z
  argument z e i v param vs is same had row = grind (arith, common_steps)

  passed : (z : Node) (e i v : ℕ) (param : Option ℕ) (vs : List RowValue) (r : Result (Unit {0}) AllocError) (old on new
      : List RowFact)
      → z ≡ Arg e i v → e ≡ k.enter → on ≡ old ++ On p v ∷ [] → vs ≡ values cells g p v → param ≡ param_row (length
      (rows P)) k.head i
      → OnOk r (new ≡ on ++ param_haves k.path param vs) → OnOk r (new ≡ old ++ passed_of P cells g p k z)
  passed z e i v param vs r old on new is same pushed had row ok =
      on_ok_weaker r (λ added. added ∙ ap (λ ys. ys ++ param_haves k.path param vs) pushed ∙ append_assoc old (On p v ∷
      []) (param_haves k.path param vs)
      ∙ ap (λ ys. old ++ ys) (argument z e i v param vs is same had row)) ok

pub returns-in_err-push-in-Arg : goal.returns-in_err-push-in-Arg
returns-in_err-push-in-Arg c = on_ok _ c.from_residual.result c.from_residual.ensures.0

pub returns-in_err-values-in-Arg : goal.returns-in_err-values-in-Arg
returns-in_err-values-in-Arg c = on_ok _ c.from_residual-in_err-values-in-Arg.result
    c.from_residual-in_err-values-in-Arg.ensures.0

pub returns-in_ok-values-in-Arg : goal.returns-in_ok-values-in-Arg
returns-in_ok-values-in-Arg c =
    let table = c.args.self.now.checked.now.table in
    let count : c.len.result ≡ length table.rows.items = omega (arith, c.len.ensures, table.rows.ok.0) in
    passed c.args.self.now.checked.now c.args.lookup.now.cells.now c.args.lookup.now.followed c.args.path c.args.call
    c.args.node
    c.in-Arg.enter c.in-Arg.index c.in-Arg.value
    c.param_row-param.result c.as_slice.result.now c.add_param.result c.args.found.now.items c.push.new.self.items
    c.add_param.new.found.items
    c.in-Arg.is c.if-enter-call.true c.in_ok-push-in-Arg.ensures.items (c.as_slice.ensures.value ∙
    c.in_ok-values-in-Arg.ensures)
    (c.param_row-param.ensures ∙ ap (λ n. param_row n c.args.call.head c.in-Arg.index) count) c.add_param.ensures

pub returns-in_default : goal.returns-in_default
returns-in_default c = search rules

pub returns-in_default-2 : goal.returns-in_default-2
returns-in_default-2 c = search rules
