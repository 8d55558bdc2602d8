use Rattle.std.proofs.Common.{rules, w64}
use mir.Val.{SFits}
use Rattle.std.proofs.lemmas.Int.{to_z-of_z}
use Rattle.id_print.proofs.rows.put_row.Goals as goal

pub returns-in-On : goal.returns-in-On
returns-in-On g c = record { prints = rw c.in-On.is c.put_on.ensures.prints; same = c.put_on.ensures.same }

pub returns-in-Has : goal.returns-in-Has
returns-in-Has g c = record { prints = rw c.in-Has.is c.put_has.ensures.prints; same = c.put_has.ensures.same }

pub returns-in-Shape : goal.returns-in-Shape
returns-in-Shape g c =
    let low_fits : SFits w64 c.in-Shape.low = search rules in
    let high_fits : SFits w64 c.in-Shape.high = search rules in
    record {
      prints = rw c.in-Shape.is
          (rw (to_z-of_z w64 c.in-Shape.high high_fits) at
          (rw (to_z-of_z w64 c.in-Shape.low low_fits) at c.put_shape.ensures.prints));
      same = c.put_shape.ensures.same;
    }

pub returns-in-Put : goal.returns-in-Put
returns-in-Put g c =
    let index_fits : SFits w64 c.in-Put.index = search rules in
    record {
      prints = rw c.in-Put.is (rw (to_z-of_z w64 c.in-Put.index index_fits) at c.put_stored.ensures.prints);
      same = c.put_stored.ensures.same;
    }

pub returns-in-Ask : goal.returns-in-Ask
returns-in-Ask g c =
    let index_fits : SFits w64 c.in-Ask.index = search rules in
    record {
      prints = rw c.in-Ask.is (rw (to_z-of_z w64 c.in-Ask.index index_fits) at c.put_asked.ensures.prints);
      same = c.put_asked.ensures.same;
    }
