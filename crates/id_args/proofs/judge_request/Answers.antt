use Rattle.std.proofs.Common.{Some, None, map, refl}
use Rattle.clap.specs.Words.{found_of, rows_of}
use Rattle.id_args.proofs.MatchesLemmas.{judge_words-read, no_judge, no_logs}
use Rattle.id_args.proofs.judge_request.Goals as goal

pub judge_request_of-requires-clause-words : goal.judge_request_of-requires-clause-words
judge_request_of-requires-clause-words c = judge_words-read (found_of c.args.matches.now) (Some (map (λ w. w.now) c.in-Some.words.now)) c.in-Some.ensures

pub returns-in-None : goal.returns-in-None
returns-in-None c =
    let rows = rows_of (found_of c.args.matches.now) in
    no_judge rows (λ count logs n. no_logs rows None refl (judge_words-read (found_of c.args.matches.now) None c.in-None.ensures) logs)
