-- No more stand before an import than there are.
use Rattle.std.proofs.Common.{◌≡◌, ◌<◌, ◌^◌, ◌∙◌, ap, arith, length, rules}
use Rattle.std.specs.Prelude.{unwrap_or}
use Rattle.id_desugar.specs.Regions.{imports_of}
use Rattle.id_build.specs.Rows.{slot_of}
use Rattle.id_build.proofs.SlotsLemmas.{slot_within}
use Rattle.id_build.proofs.slots.slot_of.Goals as goal

pub returns-in-Some-clause-within : goal.returns-in-Some-clause-within
returns-in-Some-clause-within c =
    let bs = imports_of c.args.slots.now.kernel.now.checked.now c.args.head in
    let is : c.in-Some.slot.now ≡ slot_of bs c.args.binder =
    ap (λ o. unwrap_or o (length bs)) c.in-Some.ensures.value ∙ c.args.slots.now.placed c.args.head c.args.binder
    (omega (arith, c.if-imports-le-SHORT.false, ap length c.imports_at-imports.ensures)) in
    let long : length c.imports_at-imports.result.now < 2 ^ 61 = search rules in
    omega (arith, is, slot_within bs c.args.binder, ap length c.imports_at-imports.ensures, long)

pub returns-then-imports-le-SHORT-clause-within : goal.returns-then-imports-le-SHORT-clause-within
returns-then-imports-le-SHORT-clause-within c =
    let bs = c.imports_at-imports.result.now in
    omega (arith, c.position.ensures, slot_within bs c.args.binder, c.if-imports-le-SHORT.true)
