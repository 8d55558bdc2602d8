use Rattle.std.proofs.Common.{◌≡◌, None, codes, rules, subst}
use Rattle.clap.specs.Words.{found_of, rows_of}
use Rattle.id_args.specs.Matches.{IsNumberOf}
use Rattle.id_args.proofs.MatchesLemmas.{no_why}
use Rattle.id_args.proofs.why_request.Goals as goal

pub returns-in_default : goal.returns-in_default
returns-in_default c =
    let rows = rows_of (found_of c.args.matches.now) in
    let none : c.number_of.result ≡ None = search rules in
    no_why rows (subst (IsNumberOf 32 (codes "rounds") rows) none c.number_of.ensures)
