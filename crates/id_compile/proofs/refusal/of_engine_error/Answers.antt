-- The cause alone is told of most errors.
use Rattle.id_compile.proofs.refusal.of_engine_error.Goals as goal

pub returns-in-Compile : goal.returns-in-Compile
returns-in-Compile c = rw c.in-Compile.is c.of_compile_error.ensures

pub returns-in-BadElements : goal.returns-in-BadElements
returns-in-BadElements c = rw c.in-BadElements.is c.plain.ensures

pub returns-in-BadSteps : goal.returns-in-BadSteps
returns-in-BadSteps c = rw c.in-BadSteps.is c.plain-in-BadSteps.ensures

pub returns-in-BadRounds : goal.returns-in-BadRounds
returns-in-BadRounds c = rw c.in-BadRounds.is c.plain-in-BadRounds.ensures

pub returns-in-TooManyFacts : goal.returns-in-TooManyFacts
returns-in-TooManyFacts c = rw c.in-TooManyFacts.is c.plain-in-TooManyFacts.ensures

pub returns-in-Memory : goal.returns-in-Memory
returns-in-Memory c = rw c.in-Memory.is c.plain-in-Memory.ensures

pub returns-in-Write : goal.returns-in-Write
returns-in-Write c = rw c.in-Write.is c.plain-in-Write.ensures
