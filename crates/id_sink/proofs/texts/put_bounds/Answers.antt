use Rattle.std.proofs.Common.{rules, codes, ◌++◌, w64}
use mir.Val.{SFits}
use Rattle.std.proofs.lemmas.Int.{to_z-of_z}
use Rattle.std.specs.Fmt.{signed_decimal}
use Rattle.id_sink.proofs.SinkLemmas.{Prints-stop, Prints-then}
use Rattle.id_sink.proofs.texts.put_bounds.Goals as goal

pub returns-in_err-put_int : goal.returns-in_err-put_int
returns-in_err-put_int g c =
    let low_fits : SFits w64 c.args.low = search rules in
    Prints-stop _ _ _ (codes ".." ++ (signed_decimal c.args.high ++ codes "\n")) _ _
    (rw (to_z-of_z w64 c.args.low low_fits) at c.in_err-put_int.ensures)
    c.from_residual.ensures.0

pub returns-in_err-put : goal.returns-in_err-put
returns-in_err-put g c =
    let low_fits : SFits w64 c.args.low = search rules in
    Prints-then _ _ _ _ _ _ _ (rw (to_z-of_z w64 c.args.low low_fits) at c.in_ok-put_int.ensures)
    (Prints-stop _ _ _ (signed_decimal c.args.high ++ codes "\n") _ _ c.in_err-put.ensures
    c.from_residual-in_err-put.ensures.0)

pub returns-in_err-put_int-2 : goal.returns-in_err-put_int-2
returns-in_err-put_int-2 g c =
    let low_fits : SFits w64 c.args.low = search rules in
    let high_fits : SFits w64 c.args.high = search rules in
    Prints-then _ _ _ _ _ _ _ (rw (to_z-of_z w64 c.args.low low_fits) at c.in_ok-put_int.ensures)
    (Prints-then _ _ _ _ _ _ _ c.in_ok-put.ensures (Prints-stop _ _ _ (codes "\n") _ _
    (rw (to_z-of_z w64 c.args.high high_fits) at c.in_err-put_int-2.ensures)
    c.from_residual-in_err-put_int-2.ensures.0))

pub returns : goal.returns
returns g c =
    let low_fits : SFits w64 c.args.low = search rules in
    let high_fits : SFits w64 c.args.high = search rules in
    Prints-then _ _ _ _ _ _ _ (rw (to_z-of_z w64 c.args.low low_fits) at c.in_ok-put_int.ensures)
    (Prints-then _ _ _ _ _ _ _ c.in_ok-put.ensures
    (Prints-then _ _ _ _ _ _ _ (rw (to_z-of_z w64 c.args.high high_fits) at c.in_ok-put_int-2.ensures)
    c.put-2.ensures))
