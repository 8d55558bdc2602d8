-- The pen has the text, the program and the facts.
use Rattle.id_print.proofs.rows.write_round.Goals as goal

pub returns : goal.returns
returns g c = rw (c.new.ensures, c.into_parts-tree.ensures.facts, c.as_slice.ensures.value) at c.put_rows.ensures.prints
