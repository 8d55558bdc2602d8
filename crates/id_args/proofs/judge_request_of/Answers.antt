use Rattle.std.proofs.Common.{◌≡◌, ◌∙◌, None, ap, codes, map, refl, rules, subst, sym}
use Rattle.clap.specs.Words.{found_of, rows_of}
use Rattle.id_args.specs.Matches.{IsNumberOf}
use Rattle.id_args.specs.Requests.{AreLogs, gives_input, names_log}
use Rattle.id_args.proofs.MatchesLemmas.{no_judge, true_false, words_that}
use Rattle.id_args.proofs.judge_request_of.Goals as goal

pub returns-in_default : goal.returns-in_default
returns-in_default c =
    let rows = rows_of (found_of c.args.matches.now) in
    let none : c.number_of.result ≡ None = search rules in
    no_judge rows (λ count logs n is are. subst (IsNumberOf 32 (codes "elements") rows) none c.number_of.ensures count n)

pub returns-then-not-are_logs : goal.returns-then-not-are_logs
returns-then-not-are_logs c =
    let rows = rows_of (found_of c.args.matches.now) in
    let found = words_that (λ w. w.now) names_log rows c.args.words.now c.in_ok-logs.logs.items c.in_ok-logs.ensures c.requires.words in
    no_judge rows (λ count logs n is are.
    true_false (sym (c.are_logs.ensures.1 (subst AreLogs (is ∙ sym found ∙ ap (map (λ w. w.now)) (sym c.as_slice.ensures.value)) are)) ∙ search rules))

pub returns : goal.returns
returns c =
    let rows = rows_of (found_of c.args.matches.now) in
    let found = words_that (λ w. w.now) names_log rows c.args.words.now c.in_ok-logs.logs.items c.in_ok-logs.ensures c.requires.words in
    let given = words_that (λ w. w.now) gives_input rows c.args.words.now c.in_ok-inputs.inputs.items c.in_ok-inputs.ensures c.requires.words in
    let are : AreLogs (map (λ w. w.now) c.in_ok-logs.logs.items) =
    subst (λ ws. AreLogs (map (λ w. w.now) ws)) c.as_slice.ensures.value (c.are_logs.ensures.0 (search rules)) in
    (refl, c.requires.file, found, are, given, search rules, search rules)
