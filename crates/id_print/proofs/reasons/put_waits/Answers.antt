-- One part behind the other.
use Rattle.std.proofs.Common.{codes, ◌++◌, ◌∙◌, refl}
use Rattle.id_sink.proofs.SinkLemmas.{Prints-stop, Prints-then}
use Rattle.id_print.specs.Reasons.{thing_text, wanted_text}
use Rattle.id_print.proofs.reasons.put_waits.Goals as goal

pub returns-in_err-put : goal.returns-in_err-put
returns-in_err-put g c =
    let pen = c.args.pen.now in
    let line = c.args.line.now in
    record {
      prints = Prints-stop _ _ _
          (thing_text pen line.thing ++ (codes " for" ++ wanted_text pen line.cells.items line.needs.items)) _ _
          c.in_err-put.ensures c.from_residual.ensures.0;
      same = refl;
    }

pub returns-in_err-put_thing : goal.returns-in_err-put_thing
returns-in_err-put_thing g c =
    let pen = c.args.pen.now in
    let line = c.args.line.now in
    record {
      prints = Prints-then _ _ _ _ _ _ _ c.in_ok-put.ensures
          (Prints-stop _ _ _ (codes " for" ++ wanted_text pen line.cells.items line.needs.items) _ _
          c.in_err-put_thing.ensures.prints c.from_residual-in_err-put_thing.ensures.0);
      same = c.in_err-put_thing.ensures.same;
    }

pub returns-in_err-put-2 : goal.returns-in_err-put-2
returns-in_err-put-2 g c =
    let pen = c.args.pen.now in
    let line = c.args.line.now in
    record {
      prints = Prints-then _ _ _ _ _ _ _ c.in_ok-put.ensures (Prints-then _ _ _ _ _ _ _ c.in_ok-put_thing.ensures.prints
          (Prints-stop _ _ _ (wanted_text pen line.cells.items line.needs.items) _ _ c.in_err-put-2.ensures
          c.from_residual-in_err-put-2.ensures.0));
      same = c.in_ok-put_thing.ensures.same;
    }

pub returns : goal.returns
returns g c = record {
  prints = Prints-then _ _ _ _ _ _ _ c.in_ok-put.ensures (Prints-then _ _ _ _ _ _ _ c.in_ok-put_thing.ensures.prints
      (Prints-then _ _ _ _ _ _ _ c.in_ok-put-2.ensures (rw (
        c.in_ok-put_thing.ensures.same,
        c.as_slice.ensures.value,
        c.as_slice-2.ensures.value,
      ) at c.put_wanted.ensures.prints)));
  same = c.put_wanted.ensures.same ∙ c.in_ok-put_thing.ensures.same;
}
