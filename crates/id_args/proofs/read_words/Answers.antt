use Rattle.std.proofs.Common.{map}
use Rattle.clap.specs.Words.{app_of}
use Rattle.id_args.proofs.MatchesLemmas.{AskFor-given, AskFor-told}
use Rattle.id_args.proofs.read_words.Goals as goal

pub returns-in-Ok : goal.returns-in-Ok
returns-in-Ok g c = AskFor-given (app_of c.in_ok-command.field-0) (map g.S.AsStr.text c.without_help.result.now) _ c.in-Ok.matches c.request_by.result
    c.in_ok-command.ensures c.without_help.ensures c.in-Ok.ensures.matches c.in-Ok.ensures.kinds c.request_by.ensures

pub returns-in-Err : goal.returns-in-Err
returns-in-Err g c = AskFor-told (app_of c.in_ok-command.field-0) (map g.S.AsStr.text c.without_help.result.now) _ c.in-Err.error c.answer_for.result
    c.in_ok-command.ensures c.without_help.ensures c.in-Err.ensures.kinds c.answer_for.ensures
