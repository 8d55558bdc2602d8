-- What an error says nothing of.
use Rattle.id_source.proofs.TurnsLemmas.{if_err}
use Rattle.id_source.proofs.links.link.Goals as goal

pub returns-in_err-turns-clause-turns : goal.returns-in_err-turns-clause-turns
returns-in_err-turns-clause-turns c = if_err _ c.from_residual.result c.from_residual.ensures.0

pub returns-in_err-turns-clause-reads : goal.returns-in_err-turns-clause-reads
returns-in_err-turns-clause-reads c = if_err _ c.from_residual.result c.from_residual.ensures.0

pub returns-in_err-turns-clause-args : goal.returns-in_err-turns-clause-args
returns-in_err-turns-clause-args c = if_err _ c.from_residual.result c.from_residual.ensures.0

pub returns-in_err-reads-clause-turns : goal.returns-in_err-reads-clause-turns
returns-in_err-reads-clause-turns c =
    if_err _ c.from_residual-in_err-reads.result c.from_residual-in_err-reads.ensures.0

pub returns-in_err-reads-clause-reads : goal.returns-in_err-reads-clause-reads
returns-in_err-reads-clause-reads c =
    if_err _ c.from_residual-in_err-reads.result c.from_residual-in_err-reads.ensures.0

pub returns-in_err-reads-clause-args : goal.returns-in_err-reads-clause-args
returns-in_err-reads-clause-args c = if_err _ c.from_residual-in_err-reads.result c.from_residual-in_err-reads.ensures.0

pub returns-in_err-args-clause-turns : goal.returns-in_err-args-clause-turns
returns-in_err-args-clause-turns c = if_err _ c.from_residual-in_err-args.result c.from_residual-in_err-args.ensures.0

pub returns-in_err-args-clause-reads : goal.returns-in_err-args-clause-reads
returns-in_err-args-clause-reads c = if_err _ c.from_residual-in_err-args.result c.from_residual-in_err-args.ensures.0

pub returns-in_err-args-clause-args : goal.returns-in_err-args-clause-args
returns-in_err-args-clause-args c = if_err _ c.from_residual-in_err-args.result c.from_residual-in_err-args.ensures.0
