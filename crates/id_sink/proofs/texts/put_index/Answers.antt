use Rattle.std.proofs.Common.{rules, codes, ◌++◌, w64}
use mir.Val.{SFits}
use Rattle.std.proofs.lemmas.Int.{to_z-of_z}
use Rattle.std.specs.Fmt.{signed_decimal}
use Rattle.id_sink.proofs.SinkLemmas.{Prints-stop, Prints-then}
use Rattle.id_sink.proofs.texts.put_index.Goals as goal

pub returns-in_err-put : goal.returns-in_err-put
returns-in_err-put g c =
    Prints-stop _ _ _ (signed_decimal c.args.index ++ codes "]") _ _ c.in_err-put.ensures c.from_residual.ensures.0

pub returns-in_err-put_int : goal.returns-in_err-put_int
returns-in_err-put_int g c =
    let index_fits : SFits w64 c.args.index = search rules in
    Prints-then _ _ _ _ _ _ _ c.in_ok-put.ensures
    (Prints-stop _ _ _ (codes "]") _ _ (rw (to_z-of_z w64 c.args.index index_fits) at c.in_err-put_int.ensures)
    c.from_residual-in_err-put_int.ensures.0)

pub returns : goal.returns
returns g c =
    let index_fits : SFits w64 c.args.index = search rules in
    Prints-then _ _ _ _ _ _ _ c.in_ok-put.ensures
    (Prints-then _ _ _ _ _ _ _ (rw (to_z-of_z w64 c.args.index index_fits) at c.in_ok-put_int.ensures)
    c.put-2.ensures)
