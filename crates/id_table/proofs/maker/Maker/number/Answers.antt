use Rattle.std.proofs.Common.{ap, ◌∙◌}
use Rattle.id_table.specs.Texts.{texts}
use Rattle.id_table.proofs.NamesLemmas.{number_of-texts, with_name-texts}
use Rattle.id_table.proofs.maker.Maker.number.Goals as goal

pub returns-clause-number : goal.returns-clause-number
returns-clause-number c =
    c.in_ok-number.ensures.index ∙ number_of-texts c.args.self.now.numbers.keys (record { name = c.args.name })

pub returns-clause-names : goal.returns-clause-names
returns-clause-names c =
    ap texts c.in_ok-number.ensures.keys ∙ with_name-texts c.args.self.now.numbers.keys (record { name = c.args.name })
