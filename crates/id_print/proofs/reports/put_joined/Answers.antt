-- Each step prints the first of the lines that are left.
use Rattle.std.proofs.Common.{◌≡◌, ◌<◌, List, [], ◌∙◌, ◌∷◌, true, ap, arith, drop, length, refl, sym}
use Rattle.id_print.specs.declared.helds.Held.TheVariants.{Array, Cell}
use Rattle.id_print.specs.Helds.{CellValue}
use Rattle.id_source.specs.declared.Shape.{Shape}
use Rattle.id_print.specs.Helds.{is_cell_first, joined}
use Rattle.id_print.proofs.PartlyLemmas.{Partly-more, Partly-stop, Prints-held_at}
use Rattle.id_print.proofs.HeldsLemmas.{first_array, first_cell, has_array}
use Rattle.id_sink.proofs.SinkLemmas.{Prints-nothing}
use Rattle.id_print.proofs.reports.put_joined.Goals as goal

pub loop-shapes-init : goal.loop-shapes-init
loop-shapes-init g c = record {
  partly = record { front = []; parts = refl; printed = Prints-nothing _ };
  same = refl;
}

-- where the first line is that of a cell, there is a cell
has_cell : (ss : List Shape) (cs : List CellValue) → is_cell_first ss cs ≡ true → 0 < length cs
has_cell [] [] e = absurd cc
has_cell (s ∷ ss) [] e = absurd cc
has_cell ss (d ∷ cs) e = omega arith

pub bounds-cells-0 : goal.bounds-cells-0
bounds-cells-0 g c = has_cell _ _ (sym c.is_cell_first.ensures ∙ c.if-is_cell_first.true)

pub behind_first-cells-requires : goal.behind_first-cells-requires
behind_first-cells-requires g c = has_cell _ _ (sym c.is_cell_first.ensures ∙ c.if-is_cell_first.true)

pub bounds-shapes-0 : goal.bounds-shapes-0
bounds-shapes-0 g c =
    has_array _ c.loop-shapes.cells.now (c.has_lines.ensures.0 c.loop-shapes-test.true) (sym c.is_cell_first.ensures
    ∙ c.if-is_cell_first.false)

pub behind_first-shapes-requires : goal.behind_first-shapes-requires
behind_first-shapes-requires g c =
    has_array _ c.loop-shapes.cells.now (c.has_lines.ensures.0 c.loop-shapes-test.true) (sym c.is_cell_first.ensures
    ∙ c.if-is_cell_first.false)

pub returns-in_err-put_present : goal.returns-in_err-put_present
returns-in_err-put_present g c =
    let ss = c.loop-shapes.shapes.now in
    let cs = c.loop-shapes.cells.now in
    let x = c.index-cells-0.result in
    let first = first_cell ss cs x (sym c.is_cell_first.ensures ∙ c.if-is_cell_first.true) (sym c.index-cells-0.is) in
    record {
      prints = Partly-stop _ _ _ c.args.cursor.now _ _ (joined ss (drop 1 cs)) (Cell x) _ _
          c.loop-shapes.invariant.partly first
          (Prints-held_at _ c.args.cursor.now (Cell x) _ _ _ c.loop-shapes.invariant.same
          c.in_err-put_present.ensures.prints) c.from_residual.ensures.0;
      same = c.in_err-put_present.ensures.same ∙ c.loop-shapes.invariant.same;
    }

pub loop-shapes-preserved-then-is_cell_first : goal.loop-shapes-preserved-then-is_cell_first
loop-shapes-preserved-then-is_cell_first g c =
    let ss = c.loop-shapes.shapes.now in
    let cs = c.loop-shapes.cells.now in
    let x = c.index-cells-0.result in
    let first = first_cell ss cs x (sym c.is_cell_first.ensures ∙ c.if-is_cell_first.true) (sym c.index-cells-0.is) ∙
    ap (λ l. Cell x ∷ joined ss l) (sym c.behind_first-cells.ensures) in
    record {
      partly = Partly-more _ _ _ c.args.cursor.now _ _ _ (Cell x) _ c.loop-shapes.invariant.partly first
          (Prints-held_at _ c.args.cursor.now (Cell x) _ _ _ c.loop-shapes.invariant.same
          c.in_ok-put_present.ensures.prints);
      same = c.in_ok-put_present.ensures.same ∙ c.loop-shapes.invariant.same;
    }

pub returns-in_err-put_array : goal.returns-in_err-put_array
returns-in_err-put_array g c =
    let ss = c.loop-shapes.shapes.now in
    let cs = c.loop-shapes.cells.now in
    let x = c.index-shapes-0.result in
    let no_cell = sym c.is_cell_first.ensures ∙ c.if-is_cell_first.false in
    let first =
    first_array ss cs x (has_array ss cs (c.has_lines.ensures.0 c.loop-shapes-test.true) no_cell) no_cell
    (sym c.index-shapes-0.is) in
    record {
      prints = Partly-stop _ _ _ c.args.cursor.now _ _ (joined (drop 1 ss) cs) (Array x) _ _
          c.loop-shapes.invariant.partly first
          (Prints-held_at _ c.args.cursor.now (Array x) _ _ _ c.loop-shapes.invariant.same
          c.in_err-put_array.ensures.prints)
          c.from_residual-in_err-put_array.ensures.0;
      same = c.in_err-put_array.ensures.same ∙ c.loop-shapes.invariant.same;
    }

pub loop-shapes-preserved : goal.loop-shapes-preserved
loop-shapes-preserved g c =
    let ss = c.loop-shapes.shapes.now in
    let cs = c.loop-shapes.cells.now in
    let x = c.index-shapes-0.result in
    let no_cell = sym c.is_cell_first.ensures ∙ c.if-is_cell_first.false in
    let first =
    first_array ss cs x (has_array ss cs (c.has_lines.ensures.0 c.loop-shapes-test.true) no_cell) no_cell
    (sym c.index-shapes-0.is) ∙
    ap (λ l. Array x ∷ joined l cs) (sym c.behind_first-shapes.ensures) in
    record {
      partly = Partly-more _ _ _ c.args.cursor.now _ _ _ (Array x) _ c.loop-shapes.invariant.partly first
          (Prints-held_at _ c.args.cursor.now (Array x) _ _ _ c.loop-shapes.invariant.same
          c.in_ok-put_array.ensures.prints);
      same = c.in_ok-put_array.ensures.same ∙ c.loop-shapes.invariant.same;
    }
