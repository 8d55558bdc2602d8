-- One of the logs can't be opened.
use Rattle.std.proofs.Common.{◌∙◌, None, ap, map, option_map, subst}
use Rattle.std.proofs.lemmas.Option.{slice_get-get_or, slice_get-map}
use Rattle.id_log.specs.Logs.{MayBreak}
use Rattle.id_merge.proofs.KnownLemmas.{MayBreak-merged}
use Rattle.id_merge.proofs.merged.open_merged.Goals as goal

pub returns-in-Err-clause-lost : goal.returns-in-Err-clause-lost
returns-in-Err-clause-lost g c =
    MayBreak-merged None (map (λ n. g.T.Logs.told c.args.logs.now n.now) c.args.names.now) c.loop-i.i _ c.in-Err.fault
    (slice_get-map (λ n. g.T.Logs.told c.args.logs.now n.now) c.args.names.now c.loop-i.i
    ∙ ap (option_map (λ n. g.T.Logs.told c.args.logs.now n.now)) (slice_get-get_or c.args.names.now c.loop-i.i _ c.loop-i-test.true))
    (subst (λ o. MayBreak o c.in-Err.fault) (c.loop-i.invariant.1 _) c.in-Err.ensures.lost)
