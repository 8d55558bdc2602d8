use Rattle.std.proofs.Common.{◌∙◌}
use Rattle.clap.specs.Words.{found_of}
use Rattle.id_args.proofs.MatchesLemmas.{is_set-read}
use Rattle.id_args.proofs.has_flag.Goals as goal

pub returns : goal.returns
returns c = c.unwrap_or.ensures ∙ is_set-read _ (found_of c.args.matches.now) c.args.id.now c.get_one.result c.get_one.ensures.none c.get_one.ensures.value
