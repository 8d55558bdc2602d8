use Rattle.std.proofs.Common.{◌∙◌}
use Rattle.std.proofs.lemmas.Bool.{false≢true}
use Rattle.id_print.proofs.run_reports.unnamed_report.Goals as goal

pub returns : goal.returns
returns c =
    let held = c.in_ok-held.ensures in
    record {
      answer_is = held.answer;
      sorted = λ is. absurd (false≢true is);
      rise = λ is. absurd (false≢true is);
      none = λ is. c.new-2.ensures ∙ c.new.ensures.items;
      held = held.held;
      held_rise = held.held_rise;
      waits = held.waiting;
      waits_rise = held.waiting_rise;
      ends = c.in_ok-ending.ensures;
    }
