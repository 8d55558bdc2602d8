-- Each number is 0.
use Rattle.std.proofs.Common.{◌≡◌, ap, ◌∙◌, replicate, rules}
use Rattle.std.specs.Prelude.{map}
use Rattle.id_desugar.specs.Lists.{row_of}
use Rattle.id_desugar.proofs.ColumnLemmas.{zeros-none}
use Rattle.id_desugar.proofs.column.Column.none.Goals as goal

pub returns : goal.returns
returns c =
    let zeros : c.in_ok-numbers.numbers.items ≡ replicate c.args.count 0 = search rules in
    ap (map row_of) zeros ∙ zeros-none c.args.count
