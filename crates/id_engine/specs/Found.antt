-- The facts of a round of a text's program, as they are held until they are printed.
use Rattle.std.specs.Prelude.{List}
use Rattle.id_source.specs.declared.Fact.{Fact}
use Rattle.id_facts.specs.Listed.{facts_in}
use Rattle.id_engine.specs.declared.commands.Found.{Found}

-- the facts of the source that were found, in order
abbrev pub facts_found : Found → List Fact
facts_found f = facts_in f.prepared.compiled.checked f.round.paths f.round.rows.items
