-- What comes where the call is that of the row, and where it is not.
use Rattle.std.proofs.Common.{◌≡◌, ◌∷◌, [], ◌++◌, ◌∙◌, ℕ, Option, Some, ap, arith, length, rules}
use Rattle.std.proofs.lemmas.Grind.{common_steps}
use Rattle.std.proofs.lemmas.Result.{on_ok_weaker}
use Rattle.id_check.specs.declared.checked.Checked.{Checked}
use Rattle.id_check.specs.Programs.{rows}
use Rattle.id_meaning.specs.declared.calls.OnCall.{OnCall}
use Rattle.id_facts.specs.declared.facts.RowValue.{RowValue}
use Rattle.id_meaning.specs.Effects.{param_haves, param_row, pass_by}
use Rattle.id_meaning.proofs.calls.add_pass_by.Goals as goal

passed : (P : Checked) (e i : ℕ) (v : RowValue) (call : Option OnCall) (k : OnCall) (param : Option ℕ) → call ≡ Some k
    → k.enter ≡ e → param ≡ param_row (length (rows P)) k.head i
    → param_haves k.path param (v ∷ []) ≡ pass_by P e i v call
passed P e i v call k param is same row = grind (arith, common_steps)

pub returns-in-Some : goal.returns-in-Some
returns-in-Some c =
    let table = c.args.checked.now.table in
    let count : c.len.result ≡ length table.rows.items = omega (arith, c.len.ensures, table.rows.ok.0) in
    let row = c.param_row-param.ensures ∙ ap (λ n. param_row n c.in-Some.call.head c.args.index) count in
    on_ok_weaker c.add_param.result (λ added. added ∙ ap (λ ys. c.args.found.now.items ++ ys)
    (passed c.args.checked.now c.args.enter c.args.index c.args.value c.args.call c.in-Some.call
    c.param_row-param.result
    c.in-Some.is c.if-call-enter.true row))
    c.add_param.ensures

pub returns-in_default : goal.returns-in_default
returns-in_default c = search rules

pub returns-in_default-2 : goal.returns-in_default-2
returns-in_default-2 c = search rules
