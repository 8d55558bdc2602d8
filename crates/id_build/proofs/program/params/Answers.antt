-- The entries are the parameters, which stand right behind the head.
use Rattle.std.proofs.Common.{◌≡◌, ◌∙◌, ◌<◌, true, inl, inr, ap, sym, map, arith, length}
use Rattle.std.proofs.lemmas.Bool.{cases_lt}
use Rattle.id_table.specs.declared.row.Row.{Row}
use Rattle.id_table.specs.Tables.{is_param}
use Rattle.id_check.specs.Programs.{rows}
use Rattle.id_table.specs.Turns.{params_at, params_below}
use Rattle.id_build.specs.Made.{number_by}
use Rattle.id_build.specs.Rows.{node}
use Rattle.id_desugar.specs.Ends.{end_of}
use Rattle.id_desugar.proofs.EndsLemmas.{begun_inside}
use Rattle.id_build.proofs.BlocksLemmas.{end_behind, entries_next, is_taken, none_past, params_between, params_entries}
use Rattle.id_build.proofs.BlocksLemmas.{params_start, params_stop}
use Rattle.id_build.proofs.program.params.Goals as goal
use Rattle.id_build.proofs.program.params.Goals.{else-loop-n-test, then-loop-n-test+then-not-is_param}

pub loop-n-init : goal.loop-n-init
loop-n-init c =
    let P = c.args.slots.now.kernel.now.checked.now in
    let F = c.args.slots.now.firsts.items in
    let h = c.args.head in
    let within = begun_inside P h (omega (arith, c.end_of-end.ensures, c.if-end-head.false)) in
    c.new-entries.ensures.items ∙ ap (map (λ x. number_by F x 0)) (sym (params_start P h within c.requires))

pub loop-n-preserved : goal.loop-n-preserved
loop-n-preserved c =
    let P = c.args.slots.now.kernel.now.checked.now in
    let F = c.args.slots.now.firsts.items in
    let h = c.args.head in
    let n = c.loop-n.n in
    let low : h < n = omega (arith, c.loop-n.auto.n) in
    let high : n < end_of P h = omega (arith, c.loop-n-test.true, c.end_of-end.ensures) in
    let is : is_param (node P n) ≡ true =
    ap (λ (r : Row). is_param r.node) (sym c.row_at.ensures) ∙ sym c.is_param.ensures ∙ c.if-not-is_param.false in
    let within = begun_inside P h (omega (arith, c.end_of-end.ensures, c.if-end-head.false)) in
    let taken = is_taken P h n within c.requires low high is in
    entries_next P F c.loop-n.entries.items c.push_param.new.entries.items h n taken c.loop-n.invariant
    c.in_ok-push_param.ensures

pub returns : goal.returns
returns c =
    let P = c.args.slots.now.kernel.now.checked.now in
    let F = c.args.slots.now.firsts.items in
    let h = c.args.head in
    let l = begun_inside P h (omega (arith, c.end_of-end.ensures, c.if-end-head.false)) in
    let t = c.requires in
    let n = c.loop-n.n in
    let low : h < n = omega (arith, c.loop-n.auto.n) in
    let ends : c.end_of-end.result ≡ end_of P h = c.end_of-end.ensures in
    let auto = c.loop-n.auto.n-end (omega (arith, ends, end_behind P h l t)) in
    let all : params_below (rows P) h n ≡ params_at (rows P) h = elim c.loop-n-test.branch [
      | else-loop-n-test w ↦ (
          let is : n ≡ end_of P h = omega (arith, ends, auto, w.loop-n-test.false) in
          ap (params_below (rows P) h) is ∙ params_between P h l t
          )
      | then-loop-n-test+then-not-is_param w ↦ (
          let high : n < end_of P h = omega (arith, w.loop-n-test.true, ends) in
          let no = ap (λ (r : Row). is_param r.node) (sym w.row_at.ensures) ∙ sym w.is_param.ensures
          ∙ w.if-not-is_param.true in
          params_stop P h n l t low high no
          )
    ] in
    c.loop-n.invariant ∙ ap (map (λ x. number_by F x 0)) all ∙ sym (params_entries P F h t)

-- a head that nothing ends for is past the end of the table
pub returns-then-end-head : goal.returns-then-end-head
returns-then-end-head c =
    let P = c.args.slots.now.kernel.now.checked.now in
    let F = c.args.slots.now.firsts.items in
    let h = c.args.head in
    elim (cases_lt h (length (rows P))) [
      | inl l ↦ absurd (omega (arith, end_behind P h l c.requires, c.end_of-end.ensures, c.if-end-head.true))
      | inr l ↦
          c.new-entries.ensures.items ∙ ap (map (λ x. number_by F x 0)) (sym (none_past P h (length (rows P)) l))
          ∙ sym (params_entries P F h c.requires)
    ]
