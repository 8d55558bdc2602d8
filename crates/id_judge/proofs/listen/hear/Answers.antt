-- All lines were read, or one is the first that can't follow.
use Rattle.std.proofs.Common.{subst}
use Rattle.std.specs.Prelude.{IfNone, IfSome}
use Rattle.id_judge.specs.declared.verdict.Verdict.TheVariants.{Legal}
use Rattle.id_judge.specs.Listening.{HearsAll, HearsWrong}
use Rattle.id_judge.proofs.HearLemmas.{hears_legal, hears_wrong}
use Rattle.id_judge.proofs.listen.hear.Goals as goal

pub returns-in-None-clause-verdict : goal.returns-in-None-clause-verdict
returns-in-None-clause-verdict g c =
    let a = g.L.Log.ahead c.args.log.now in
    let new = c.read_log.new.judge in
    let heard : HearsAll a c.args.judge new =
    subst (λ o. IfNone o (HearsAll a c.args.judge new)) c.in-None.is c.in_ok-read_log.ensures.heard in
    λ h vs count keeps on read.
    hears_legal a c.args.judge new h vs count keeps (λ n. Legal c.in_ok-machine-in-None.machine n) c.lines-lines.result
    on read heard c.lines-lines.ensures
    (λ text now has. c.in_ok-machine-in-None.ensures h vs count keeps text now has)

pub returns-clause-verdict : goal.returns-clause-verdict
returns-clause-verdict g c =
    let a = g.L.Log.ahead c.args.log.now in
    let k = c.read_log.new.judge.lines in
    let wrong : HearsWrong a c.args.judge k c.in-Some.cause =
    subst (λ o. IfSome o (HearsWrong a c.args.judge k)) c.in-Some.is c.in_ok-read_log.ensures.refuses in
    λ h vs count keeps on read. hears_wrong a c.args.judge h vs count keeps k c.lines.result c.in-Some.cause on read
    wrong c.lines.ensures
