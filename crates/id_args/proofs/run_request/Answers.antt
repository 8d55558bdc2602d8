use Rattle.std.proofs.Common.{◌≡◌, None, codes, rules, subst}
use Rattle.clap.specs.Words.{found_of, rows_of}
use Rattle.id_args.specs.Matches.{IsNumberOf}
use Rattle.id_args.proofs.MatchesLemmas.{no_run}
use Rattle.id_args.proofs.run_request.Goals as goal

pub returns-in_default : goal.returns-in_default
returns-in_default c =
    let rows = rows_of (found_of c.args.matches.now) in
    let none : c.number_of.result ≡ None = search rules in
    no_run rows (λ count steps order n s o. subst (IsNumberOf 32 (codes "elements") rows) none c.number_of.ensures count n)

pub returns-in_default-steps_of : goal.returns-in_default-steps_of
returns-in_default-steps_of c =
    let rows = rows_of (found_of c.args.matches.now) in
    let none : c.steps_of.result ≡ None = search rules in
    no_run rows (λ count steps order n s o. subst (IsNumberOf 64 (codes "steps") rows) none c.steps_of.ensures steps s)
