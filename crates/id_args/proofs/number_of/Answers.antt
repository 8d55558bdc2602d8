use Rattle.std.specs.Str.Parse.{ParsesUnsigned, ExplainsUnsignedError, HasUnsignedDigitsIfOk}
use Rattle.clap.specs.Words.{found_of}
use Rattle.id_args.proofs.MatchesLemmas.{IsNumberOf-read}
use Rattle.id_args.proofs.number_of.Goals as goal

pub returns : goal.returns
returns c = IsNumberOf-read 32 (λ bs r. ParsesUnsigned 32 10 bs r × ExplainsUnsignedError 10 bs r × HasUnsignedDigitsIfOk bs r)
    (found_of c.args.matches.now) c.args.id.now c.get_one.result c.get_one.ensures.none c.get_one.ensures.value (λ t r h. h.0)
