-- The labels of a schemas' graph are those of the program's binders, one each.
use Rattle.std.proofs.Common.{◌≡◌, ℕ, true, Option, Some, None, [], slice_get, refl, sym, ◌∙◌, ap, unwrap_or}
use Rattle.id_value.specs.declared.Kind.TheVariants as kinds
use Rattle.id_check.specs.declared.checked.Checked.{Checked}
use Rattle.id_check.specs.Programs.{kind, place, rows}
use Rattle.id_table.specs.Rows.{at}
use Rattle.id_instr.specs.declared.instr.Instr.{Instr}
use Rattle.id_instr.specs.Graph.{Parts}
use Rattle.id_core.specs.Observed as shown
use Rattle.id_source.specs.Sources.{source}
use Rattle.id_build.specs.Rows.{label}
use Rattle.id_build.specs.Schemas.{Numbered}
use Rattle.id_laws.specs.Laws.{IsBinder, AreLabels}
use Rattle.id_laws.specs.Topics.{IsPart}
use Rattle.id_laws.proofs.Rows.Assumed.{IsKnown}
use Rattle.id_laws.proofs.Labelling.LabelsBind.{label_binds}
use Rattle.id_laws.proofs.Labelling.LabelsShow.{binds_thing, label_part, label_place, label_is}
use Rattle.id_laws.proofs.Rows.LoopRows.{label_at}
use Rattle.id_laws.proofs.Rows.Start.{main_is_head, main_within}
use Rattle.id_laws.proofs.Rows.Tokens.{one_part}
use Rattle.id_laws.proofs.Validity.ValidGraphs.{is_value_port}

module _ (P : Checked) (known : IsKnown P) (g : Parts) (number : ℕ → ℕ → ℕ) (numbered : Numbered P g number) where
  part : (b : ℕ) → IsBinder P b → IsPart P (label P b) 0
  part b x = label_part P known g number numbered b x.within x.binds

  -- a label is that of a binder
  only : (n : ℕ) → shown.is_label g n ≡ true → (b : ℕ) × IsBinder P b × (number (label P b) 0 ≡ n)
  only n e = go (slice_get g.instrs n) refl e
    where
      go : (o : Option Instr) → slice_get g.instrs n ≡ o → shown.is_label_of g o ≡ true
          → (b : ℕ) × IsBinder P b × (number (label P b) 0 ≡ n)
      go None at h = cc
      go (Some i) at h =
          let k = numbered.only n i at in
          let x : IsPart P k.row k.part = record { form = k.form; place = k.place; makes = k.makes } in
          let S = source P [] in
          let main = main_is_head S g number numbered known in
          let within = main_within S g number numbered known in
          let l = label_binds P known g number numbered main within k.row k.part x (ap (shown.is_label g) k.is ∙ e) in
          (l.binder, record { within = l.within; binds = l.binds }, (λ i. number (l.is i) (sym l.first i)) ∙ k.is)

  -- two binders with one label are one, since both have its place
  one_label : (b c : ℕ) → IsBinder P b → IsBinder P c → label P b ≡ label P c → b ≡ c
  one_label b c x y e =
      let there = (label_at P b x.within x.binds).place in
      let here = (label_at P c y.within y.binds).place in
      (known.apart).apart b c x.within y.within (binds_thing (at (rows P) b).node x.binds)
      (binds_thing (at (rows P) c).node y.binds)
      (sym there ∙ ap (place P) e ∙ here)

  -- the labels are those of the binders
  pub are_labels : AreLabels P g number
  are_labels = record {
    each = λ b x. label_is P known g number numbered b x.within x.binds
        (is_value_port (unwrap_or (kind P b) kinds.Int));
    places = λ b x. label_place P known g number numbered b x.within x.binds;
    only = only;
    apart = λ b c x y e. one_label b c x y (one_part numbered (part b x) (part c y) e).0;
  }
