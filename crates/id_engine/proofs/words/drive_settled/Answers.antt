-- what stands between the three calls
use Rattle.id_engine.proofs.words.drive_settled.Goals as goal

pub returns : goal.returns
returns g c = record {
  status = c.answer_words-status.result;
  out_told = g.D.Device.view c.answer_words-status.new.out.writer;
  err_told = g.F.Device.view c.answer_words-status.new.err.writer;
  err_settled = g.F.Device.view c.settle-settled.new.err.writer;
  answered = c.answer_words-status.ensures;
  settled = c.settle-settled.ensures.settled;
  sent = c.send_on.result;
  sent_on = c.send_on.ensures;
}
