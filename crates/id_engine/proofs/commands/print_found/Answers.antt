use Rattle.id_engine.proofs.commands.print_found.Goals as goal

pub returns : goal.returns
returns g c = rw (c.checked.ensures, c.text.ensures.value) at c.write_round.ensures
