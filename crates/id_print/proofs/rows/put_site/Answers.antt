-- The steps that are written are those of the path, and then its place comes.
use Rattle.std.proofs.Common.{codes, rules, subst, ◌++◌}
use Rattle.id_sink.specs.Told.{Prints}
use Rattle.id_sink.specs.Texts.{place_text, site_text}
use Rattle.id_sink.proofs.SinkLemmas.{Prints-stop, Prints-then}
use Rattle.id_print.specs.Pens.{PenView, place_in, site_in}
use Rattle.id_print.proofs.RowsLemmas.{steps-told}
use Rattle.id_print.proofs.rows.put_site.Goals as goal

pub returns-in_err-put_steps : goal.returns-in_err-put_steps
returns-in_err-put_steps g c =
    let v : PenView =
    record { text = c.pen.inside.cursor; checked = c.pen.inside.checked.now; facts = c.pen.inside.tree } in
    let told =
    steps-told v c.args.path c.deref.result.now c.write_steps-start.new.steps.items c.write_steps-start.result
    c.deref.ensures.value
    c.write_steps-start.ensures.steps in
    let P : PenView → Type 0 = λ u. Prints (g.W.Sink.told c.args.sink.now) (g.W.Sink.told c.put_steps.new.sink)
    (site_text u.text (site_in u c.args.path c.args.row)) c.from_residual.result in
    let here : P v =
    Prints-stop _ _ _ (codes "@" ++ place_text v.text (place_in v c.args.row)) _ _
    (rw told at c.in_err-put_steps.ensures.prints)
    c.from_residual.ensures.0 in
    record {
      prints = subst P c.pen.view_is here;
      same = search rules;
    }

pub returns : goal.returns
returns g c =
    let v : PenView =
    record { text = c.pen.inside.cursor; checked = c.pen.inside.checked.now; facts = c.pen.inside.tree } in
    let told =
    steps-told v c.args.path c.deref.result.now c.write_steps-start.new.steps.items c.write_steps-start.result
    c.deref.ensures.value
    c.write_steps-start.ensures.steps in
    let P : PenView → Type 0 = λ u. Prints (g.W.Sink.told c.args.sink.now) (g.W.Sink.told c.put_at.new.sink)
    (site_text u.text (site_in u c.args.path c.args.row)) c.put_at.result in
    let place = rw c.place_of.ensures at (rw c.in_ok-put_steps.ensures.same at c.put_at.ensures.prints) in
    let here : P v = Prints-then _ _ _ _ _ _ _ (rw told at c.in_ok-put_steps.ensures.prints) place in
    record {
      prints = subst P c.pen.view_is here;
      same = search rules;
    }
