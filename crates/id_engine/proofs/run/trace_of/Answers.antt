use Rattle.id_engine.proofs.TraceLemmas.{IsTraceOf-asked, IsTraceOf-unasked}
use Rattle.id_engine.proofs.run.trace_of.Goals as goal

pub returns-then-trace : goal.returns-then-trace
returns-then-trace c = IsTraceOf-asked c.args.trace c.args.run.now.world c.order.result c.if-trace.true c.order.ensures

pub returns-else-trace : goal.returns-else-trace
returns-else-trace c =
    IsTraceOf-unasked c.args.trace c.args.run.now.world c.merge_records.result c.if-trace.false
    c.merge_records.ensures.all
