use Rattle.id_engine.proofs.judge.verdict_of.Goals as goal

pub returns-in-Ok-hear-clause-verdict : goal.returns-in-Ok-hear-clause-verdict
returns-in-Ok-hear-clause-verdict g c = c.in-Ok-hear.ensures.verdict _ _ _ _ c.in-Ok.ensures.judges c.in-Ok.ensures.read
