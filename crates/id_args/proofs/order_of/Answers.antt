use Rattle.std.specs.Str.Parse.{ParsesUnsigned, ExplainsUnsignedError, HasUnsignedDigitsIfOk}
use Rattle.clap.specs.Words.{found_of}
use Rattle.id_args.proofs.MatchesLemmas.{HasOrder-tried, no_order}
use Rattle.id_args.proofs.order_of.Goals as goal

pub returns-in-Ok : goal.returns-in-Ok
returns-in-Ok c = HasOrder-tried (λ bs r. ParsesUnsigned 64 10 bs r × ExplainsUnsignedError 10 bs r × HasUnsignedDigitsIfOk bs r)
    (found_of c.args.matches.now) c.in-Ok.order c.in-Ok.ensures.none c.in-Ok.ensures.value (λ t r h. h.0)

pub returns-in-Err : goal.returns-in-Err
returns-in-Err c = no_order (λ bs r. ParsesUnsigned 64 10 bs r × ExplainsUnsignedError 10 bs r × HasUnsignedDigitsIfOk bs r)
    (found_of c.args.matches.now) c.in-Err.field-0 c.in-Err.ensures.none c.in-Err.ensures.value (λ t r h. h.0)
