-- Where the upper bound, the index and the flag of a loop with an index come from.
use Rattle.std.proofs.Common.{◌≡◌, ℕ, ◌+◌, ◌-◌, ◌==◌, Bool as Truth, true, false, cond, [], ◌∷◌, ◌++◌}
use Rattle.std.proofs.Common.{refl, sym, ◌∙◌, ap, arith}
use Rattle.std.proofs.lemmas.Bool.Decides.{nat_tests}
use Rattle.id_table.specs.declared.row.Region.{Region}
use Rattle.id_table.specs.declared.row.Node.TheVariants.{LoopHead, Switches}
use Rattle.id_table.specs.Rows.{arm_at, at, top}
use Rattle.id_table.specs.Loops.{index_row}
use Rattle.id_check.specs.declared.checked.Checked.{Checked}
use Rattle.id_check.specs.Programs.{region, rows}
use Rattle.id_desugar.specs.Regions.{bound_of, handed, imports_of, nexts_of, taken}
use Rattle.id_build.specs.Rows.{block, handed_by, home, home_by, label, label_by, name_in, node, origin, origin_of}
use Rattle.id_build.specs.Rows.{output, same_region, slot_of}
use Rattle.id_build.proofs.NamesSeen.{named, region_is}
use Rattle.id_laws.specs.Activations.{of_turns}
use Rattle.id_laws.proofs.Rows.Assumed.{IsKnown}
use Rattle.id_laws.proofs.Rows.Conditionals.{test_at}
use Rattle.id_laws.proofs.Rows.Loops.{IsCounted, LoopOf, carried_stands, index_within, switches_node, switches_within}

module _ (P : Checked) (known : IsKnown P) (h : ℕ) (x : LoopOf P h) (c : IsCounted P x.all) where
  abbrev w : ℕ
  w = (x.the).switches

  -- the switches stand in the loop's block
  pub switches_block : block P w ≡ h
  switches_block = ((x.all).test).block

  bound_home : home P (h + 2) ≡ h + 2
  bound_home = ap (home_by (block P (h + 2)) (h + 2)) c.bound

  bound_label : label P (h + 2) ≡ h + 2
  bound_label = ap (label_by (block P (h + 2)) (h + 2)) c.bound

  bound_region : region P (home P (h + 2)) ≡ top h
  bound_region = ap (region P) bound_home ∙ (carried_stands P known h x c (h + 2) (omega arith) (omega arith)).1

  -- at the loop's top the upper bound comes from its entry
  pub bound_top : name_in P (top h) (h + 2) ≡ output (h + 2)
  bound_top = named P (top h) (h + 2) bound_region ∙ ap output bound_label

  -- the switches hand it on before the names
  pub bound_first : imports_of P w ≡ ((h + 2) ∷ (nexts_of P h ++ taken P h))
  bound_first =
      ap (handed P w) (switches_node P known h x) ∙ ap (λ g. bound_of P g ++ (nexts_of P g ++ taken P g)) switches_block
      ∙ ap (λ t. cond t ((h + 2) ∷ []) [] ++ (nexts_of P h ++ taken P h)) c.has

  bound_slot : slot_of (imports_of P w) (h + 2) ≡ 0
  bound_slot =
      let first : ((h + 2) == (h + 2)) ≡ true = grind (arith, nat_tests) in
      ap (λ bs. slot_of bs (h + 2)) bound_first
      ∙ ap (λ t. cond t 0 (slot_of (nexts_of P h ++ taken P h) (h + 2) + 1)) first

  no_top : (b : Truth) → same_region (region P (home P (h + 2))) (arm_at w b) ≡ false
  no_top b = go (same_region (region P (home P (h + 2))) (arm_at w b)) refl
    where
      go : (t : Truth) → same_region (region P (home P (h + 2))) (arm_at w b) ≡ t → t ≡ false
      go false e = refl
      go true e =
          let heads =
          ap (λ (r : Region). node P r.head) (sym bound_region
          ∙ region_is (region P (home P (h + 2))) (arm_at w b) e) in
          let bad : LoopHead (h - 1) ≡ Switches ((x.all).test).test = sym x.head ∙ heads ∙ switches_node P known h x in
          cc

  -- in its sides from there
  pub bound_side : (b : Truth) → name_in P (arm_at w b) (h + 2) ≡ record { row = w; part = 1; side = b }
  bound_side b =
      ap (λ t. cond t (output (label P (h + 2))) (handed_by P (arm_at w b) (h + 2) (node P w))) (no_top b)
      ∙ ap (handed_by P (arm_at w b) (h + 2)) (switches_node P known h x)
      ∙ ap (λ k. record { row = w; part = k + 1; side = b }) bound_slot

  -- the index stands in the loop's block
  pub index_block : block P (index_row w) ≡ h
  index_block =
      let z = (known.table).index_of (index_row w) c.name (index_within P known h x c) c.index in
      let same : z.1.switches ≡ w = omega (arith, z.3) in
      sym ((known.table).loop_is z.0 (block P (index_row w)) z.1).test.block ∙ ap (block P) same ∙ switches_block

  -- what the switches go by is the flag's entry
  pub flag_origin : origin P ((x.all).test).test ≡ output (h + 3)
  flag_origin =
      let t = ((x.all).test).test in
      let less = (test_at known (switches_within P known h x) (of_turns (switches_node P known h x))).within in
      let value : (at (rows P) t).value ≡ h + 3 = (known.table).value_within t (h + 3) less c.test in
      ap (λ i. origin_of P i (region P i) (node P i)) value ∙ ap (origin_of P (h + 3) (region P (h + 3))) c.flag
