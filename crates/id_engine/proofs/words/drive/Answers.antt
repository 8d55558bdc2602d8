use Rattle.id_engine.proofs.words.drive.Goals as goal

pub returns : goal.returns
returns g c = record {
  asked = c.read_words-asked.result;
  read = c.read_words-asked.ensures;
  done = c.drive_asked.ensures.asked;
  answered = c.drive_asked.ensures.unasked;
}
