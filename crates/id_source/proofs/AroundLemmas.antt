-- Which rows are round which.
use Rattle.std.proofs.Common.{◌≡◌, ℕ, ◌≤◌, ◌<◌, Bool, true, false, ◌&&◌, nat_lt, nat_le, List, refl}
use Rattle.std.proofs.lemmas.Bool.{leb-true, ltb-true}
use Rattle.id_table.specs.declared.row.Row.{Row}
use Rattle.id_table.specs.Rows.{at}
use Rattle.id_table.specs.Tables.{around}

and-both : (b c : Bool) → b && c ≡ true → (b ≡ true) × (c ≡ true)
and-both true c h = (refl, h)
and-both false c h = cc

pub around-within : (R : List Row) (s i : ℕ) → around R s i ≡ true → ((at R s).first ≤ i) × (i < s)
around-within R s i h =
    let t = and-both (nat_le (at R s).first i) (nat_lt i s) h in
    (leb-true (at R s).first i t.0, ltb-true i s t.1)
