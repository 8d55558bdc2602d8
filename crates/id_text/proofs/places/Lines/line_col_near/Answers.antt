use Rattle.std.proofs.Common.{◌≡◌, ◌≤◌, length, ap, ◌∙◌, sym, subst, arith}
use Rattle.std.specs.List.Sorted.{IsNonDecreasing}
use Rattle.id_text.specs.Places.{line_starts}
use Rattle.id_text.proofs.PlacesLemmas.{IsFound, found, line_starts_rise}
use Rattle.id_text.proofs.places.Lines.line_col_near.Goals as goal
use Rattle.id_text.proofs.places.Lines.line_col_near.Goals.{After-as_slice-starts, After-starts_near-line}

-- the slice has the starts of the text
those : (c : After-as_slice-starts) → c.as_slice-starts.result.now ≡ line_starts c.args.self.now
those c = c.as_slice-starts.ensures.value ∙ c.self.invariant.1 ∙ ap line_starts c.self.view_is

pub starts_near-line-requires : goal.starts_near-line-requires
starts_near-line-requires c = subst IsNonDecreasing (sym (those c)) (line_starts_rise c.args.self.now)

there : (c : After-starts_near-line) → IsFound c.args.self.now c.as_slice-starts.result.now c.args.at c.starts_near-line.result
there c =
    found c.args.self.now c.as_slice-starts.result.now c.args.at c.starts_near-line.result
    (c.as_slice-starts.ensures.value ∙ c.self.invariant.1 ∙ ap line_starts c.self.view_is) c.requires c.starts_near-line.ensures

-- the text is short, so the line fits
short : (c : After-starts_near-line) → c.starts_near-line.result ≤ 1048577
short c = omega (arith, (there c).line_le, ap length c.self.view_is, c.self.invariant.0)

pub offset_bounds-starts-line : goal.offset_bounds-starts-line
offset_bounds-starts-line c = omega (arith, short (goal.at.offset_bounds-starts-line c).After-starts_near-line)

pub bounds-starts-line : goal.bounds-starts-line
bounds-starts-line c = (there (goal.at.bounds-starts-line c).After-starts_near-line).within

pub overflow_sub-column-2 : goal.overflow_sub-column-2
overflow_sub-column-2 c = (there (goal.at.overflow_sub-column-2 c).After-starts_near-line).start_le

pub overflow_cast-result : goal.overflow_cast-result
overflow_cast-result c = omega (arith, short (goal.at.overflow_cast-result c).After-starts_near-line)

pub returns-clause-line : goal.returns-clause-line
returns-clause-line c = (there (goal.at.returns-clause-line c).After-starts_near-line).is_line

pub returns-clause-column : goal.returns-clause-column
returns-clause-column c = (there (goal.at.returns-clause-column c).After-starts_near-line).is_column
