use Rattle.id_compile.proofs.AnsweredLemmas.{ok_all}
use Rattle.id_engine.proofs.program.print_asked.Goals as goal

pub returns-in-Check : goal.returns-in-Check
returns-in-Check g c = record {
  shown = rw c.in-Check.is c.check_text.ensures.shown;
  taken = rw c.in-Check.is c.check_text.ensures.taken;
  ran = rw c.in-Check.is (ok_all c.check_text.result _ (λ n. tt));
  cut = rw c.in-Check.is c.check_text.ensures.cut;
  front = rw c.in-Check.is (λ e. tt);
  silent = c.check_text.ensures.silent;
  refused = rw c.in-Check.is c.check_text.ensures.refused;
  inside = c.check_text.ensures.inside;
}

pub returns-in-Graph : goal.returns-in-Graph
returns-in-Graph g c = record {
  shown = rw c.in-Graph.is c.graph_text.ensures.shown;
  taken = rw c.in-Graph.is c.graph_text.ensures.taken;
  ran = rw c.in-Graph.is (ok_all c.graph_text.result _ (λ n. tt));
  cut = rw c.in-Graph.is c.graph_text.ensures.cut;
  front = rw c.in-Graph.is (λ e. tt);
  silent = c.graph_text.ensures.silent;
  refused = rw c.in-Graph.is c.graph_text.ensures.refused;
  inside = c.graph_text.ensures.inside;
}

pub returns-in-Draw : goal.returns-in-Draw
returns-in-Draw g c = record {
  shown = rw c.in-Draw.is c.draw_text.ensures.shown;
  taken = rw c.in-Draw.is c.draw_text.ensures.taken;
  ran = rw c.in-Draw.is (ok_all c.draw_text.result _ (λ n. tt));
  cut = rw c.in-Draw.is c.draw_text.ensures.cut;
  front = rw c.in-Draw.is (λ e. tt);
  silent = c.draw_text.ensures.silent;
  refused = rw c.in-Draw.is c.draw_text.ensures.refused;
  inside = c.draw_text.ensures.inside;
}

pub returns-in-Run : goal.returns-in-Run
returns-in-Run g c = record {
  shown = rw c.in-Run.is (rw c.as_slice-words.ensures.value at c.engine.ensures.shown);
  taken = rw c.in-Run.is (rw c.as_slice-words.ensures.value at c.engine.ensures.taken);
  ran = rw c.in-Run.is (rw c.as_slice-words.ensures.value at c.engine.ensures.ran);
  cut = rw c.in-Run.is (rw c.as_slice-words.ensures.value at c.engine.ensures.cut);
  front = rw c.in-Run.is (rw c.as_slice-words.ensures.value at c.engine.ensures.front);
  silent = c.engine.ensures.silent;
  refused = rw c.in-Run.is (rw c.as_slice-words.ensures.value at c.engine.ensures.refused);
  inside = c.engine.ensures.inside;
}

pub returns-in-Facts : goal.returns-in-Facts
returns-in-Facts g c = record {
  shown = rw c.in-Facts.is (rw c.as_slice.ensures.value at c.facts_text.ensures.shown);
  taken = rw c.in-Facts.is (rw c.as_slice.ensures.value at c.facts_text.ensures.taken);
  ran = rw c.in-Facts.is (ok_all c.facts_text.result _ (λ n. tt));
  cut = rw c.in-Facts.is (rw c.as_slice.ensures.value at c.facts_text.ensures.cut);
  front = rw c.in-Facts.is (λ e. tt);
  silent = c.facts_text.ensures.silent;
  refused = rw c.in-Facts.is (rw c.as_slice.ensures.value at c.facts_text.ensures.refused);
  inside = c.facts_text.ensures.inside;
}

pub returns-in-Why : goal.returns-in-Why
returns-in-Why g c = record {
  shown = rw c.in-Why.is (rw c.as_slice-in-Why.ensures.value at c.reasons_text.ensures.shown);
  taken = rw c.in-Why.is (rw c.as_slice-in-Why.ensures.value at c.reasons_text.ensures.taken);
  ran = rw c.in-Why.is (ok_all c.reasons_text.result _ (λ n. tt));
  cut = rw c.in-Why.is (rw c.as_slice-in-Why.ensures.value at c.reasons_text.ensures.cut);
  front = rw c.in-Why.is (λ e. tt);
  silent = c.reasons_text.ensures.silent;
  refused = rw c.in-Why.is (rw c.as_slice-in-Why.ensures.value at c.reasons_text.ensures.refused);
  inside = c.reasons_text.ensures.inside;
}

pub returns-in-Judge : goal.returns-in-Judge
returns-in-Judge g c = record {
  shown = rw c.in-Judge.is (rw c.as_slice-in-Judge.ensures.value at c.judge_text.ensures.shown);
  taken = rw c.in-Judge.is (rw c.as_slice-in-Judge.ensures.value at c.judge_text.ensures.taken);
  ran = rw c.in-Judge.is (ok_all c.judge_text.result _ (λ n. tt));
  cut = rw c.in-Judge.is (rw c.as_slice-in-Judge.ensures.value at c.judge_text.ensures.cut);
  front = rw c.in-Judge.is (λ e. tt);
  silent = c.judge_text.ensures.silent;
  refused = rw c.in-Judge.is (rw c.as_slice-in-Judge.ensures.value at c.judge_text.ensures.refused);
  inside = c.judge_text.ensures.inside;
}
