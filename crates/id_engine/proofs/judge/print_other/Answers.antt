use Rattle.std.proofs.Common.{refl}
use Rattle.id_engine.specs.Judgements.PrintsJudged.{none_out}
use Rattle.id_engine.proofs.JudgedLemmas.{PrintsOther-from}
use Rattle.id_engine.proofs.judge.print_other.Goals as goal

pub returns : goal.returns
returns g c =
    PrintsOther-from c.args.position c.args.cause c.cause_bytes-why.result.now _ _ c.put_other-written.result
    c.printed.result
    c.cause_bytes-why.ensures c.put_other-written.ensures c.printed.ensures

pub returns-then-position-eq18446744073709551615 : goal.returns-then-position-eq18446744073709551615
returns-then-position-eq18446744073709551615 g c = none_out refl
