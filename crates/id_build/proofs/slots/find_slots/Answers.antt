-- At last all heads are noted that have many imports.
use Rattle.std.proofs.Common.{◌∙◌, [], List, ℕ, ap, subst, sym, arith, get_or, length}
use Rattle.std.specs.HashMap.{get}
use Rattle.std.specs.Prelude.{unwrap_or}
use Rattle.id_desugar.specs.Regions.{imports_of}
use Rattle.std.specs.Option.{option_or}
use Rattle.id_build.specs.Slots.{AreShort, noted_all, same_import}
use Rattle.id_build.proofs.SlotsLemmas.{listed_at, long_all, long_none, long_of, noted_below, noted_below-next}
use Rattle.id_build.proofs.SlotsLemmas.{noted_below-none, slots_are}
use Rattle.id_build.proofs.slots.find_slots.Goals as goal
use Rattle.id_build.proofs.slots.find_slots.Goals.{then-imports-gt-SHORT+in_ok-note_all, else-imports-gt-SHORT}

pub invariant_of-result : goal.invariant_of-result
invariant_of-result c = record {
  few = c.requires.few;
  numbered = c.requires.firsts;
  short = c.loop-head.invariant.short;
  placed = λ h b long. (
      let P = c.args.kernel.now.checked.now in
      ap (λ o. unwrap_or o (length (imports_of P h))) (c.loop-head.invariant.numbers (record { head = h; binder = b }))
      ∙ slots_are P c.loop-head.head h b long (λ i l. (
      sym (listed_at P i) ∙ ap (λ (z : List (List ℕ)). get_or z i []) (sym c.args.kernel.now.imported)
      ∙ c.listed-count.ensures i (omega (arith, l, c.loop-head-test.false))
      ))
      );
}

pub loop-head-preserved : goal.loop-head-preserved
loop-head-preserved c =
    let P = c.args.kernel.now.checked.now in
    let h = c.loop-head.head in
    elim c.if-imports-gt-SHORT.branch [
      | then-imports-gt-SHORT+in_ok-note_all w ↦ (
          let many =
          long_all (imports_of P h) (omega (
            arith,
            w.if-imports-gt-SHORT.true,
            ap length c.imports_at-imports.ensures,
          )) in
          record {
            short = subst (λ t. AreShort (get same_import t)) (sym w.numbers-is) w.in_ok-note_all.ensures.short;
            numbers = λ i.
                ap (λ t. get same_import t i) w.numbers-is ∙ w.in_ok-note_all.ensures.numbers i
                ∙ ap (λ o. option_or o (noted_all h c.imports_at-imports.result.now i))
                (c.loop-head.invariant.numbers i)
                ∙ ap (λ z. option_or (noted_below (long_of P) h i) (noted_all h z i)) (c.imports_at-imports.ensures
                ∙ sym many) ∙ noted_below-next (long_of P) h i;
          }
          )
      | else-imports-gt-SHORT w ↦ (
          let few =
          long_none (imports_of P h) (omega (
            arith,
            w.if-imports-gt-SHORT.false,
            ap length c.imports_at-imports.ensures,
          )) in
          record {
            short = subst (λ t. AreShort (get same_import t)) (sym w.numbers-is) c.loop-head.invariant.short;
            numbers =
                λ i. ap (λ t. get same_import t i) w.numbers-is ∙ c.loop-head.invariant.numbers i
                ∙ noted_below-none (long_of P) h i few;
          }
          )
    ]
