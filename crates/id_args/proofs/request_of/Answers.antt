use Rattle.std.proofs.Common.{◌∙◌, codes, sym}
use Rattle.clap.specs.Words.{found_of, rows_of}
use Rattle.clap.proofs.WalkLemmas.{first_value-rows}
use Rattle.id_args.proofs.MatchesLemmas.{no_file, none_some}
use Rattle.id_args.proofs.request_of.Goals as goal

pub request_of_file-requires : goal.request_of_file-requires
request_of_file-requires c = sym (c.in-Some.ensures ∙ first_value-rows (found_of c.args.matches.now) (codes "FILE"))

pub returns-in-None : goal.returns-in-None
returns-in-None c = no_file c.args.name.now (rows_of (found_of c.args.matches.now))
    (λ file h. none_some ((c.in-None.ensures ∙ first_value-rows (found_of c.args.matches.now) (codes "FILE")) ∙ h))
