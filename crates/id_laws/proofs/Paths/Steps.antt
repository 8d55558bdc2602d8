-- What speaks in a run stays in its iteration, and what moves goes to the next one or to the first.
use Rattle.std.proofs.Common.{◌≡◌, inr, ℕ, Bool as Truth, true, false, List, refl, sym, ◌∙◌, ap, subst}
use Rattle.id_table.specs.declared.row.Node.TheVariants.{Reset}
use Rattle.id_check.specs.Programs.{region}
use Rattle.id_instr.specs.declared.dests.Port.{Port}
use Rattle.id_instr.specs.declared.dests.Port.TheVariants.{Zero, One}
use Rattle.id_ops.specs.declared.Operands.{Operands}
use Rattle.id_instr.specs.Graph.{Parts}
use Rattle.id_tag.specs.declared.Tag.{Tag}
use Rattle.id_tag.specs.declared.Value.{Value}
use Rattle.id_core.specs.Machines.{World}
use Rattle.id_source.specs.Sources.{Source}
use Rattle.id_build.specs.declared.arc.Origin.{Origin}
use Rattle.id_build.specs.Rows.{node, op_by}
use Rattle.id_build.specs.Schemas.{Numbered}
use Rattle.id_runs.specs.Activations.{Activation, tag_in}
use Rattle.id_runs.specs.Events.{Event, GivesOn}
use Rattle.id_runs.specs.Runs.{Reach}
use Rattle.id_runs.proofs.Waiting.{has_fired, OperandsHandled, one_handled, two_handled}
use Rattle.id_laws.specs.Activations.{Live, Speaks, Moves}
use Rattle.id_laws.specs.Topics.{AllTell, IsPart, Tells, wants}
use Rattle.id_laws.proofs.Telling.AllTell.{fired_part}
use Rattle.id_laws.proofs.Paths.Movers.{Steps, steps_by, no_gives, mover_is}
use Rattle.id_laws.proofs.Rows.Sources.{is_mover}
use Rattle.id_laws.proofs.Rows.Tokens.{one_part, told_at}

pub record Stepping (S : Source) (number : ℕ → ℕ → ℕ) (run : List Event) : Type 0 where
  pub stays : (a : Activation) (s : Origin) (v : Value) → IsPart S.checked s.row s.part → Speaks S number run a s v
      → is_mover (node S.checked s.row) ≡ false
  pub goes : (a : Activation) (s : Origin) (k : ℕ) (v : Value) → IsPart S.checked s.row s.part
      → Moves S number run a s k v → Steps (node S.checked s.row) a.iteration k
  -- where a loop ends its last expression's region is live
  pub ends : (a : Activation) (s : Origin) (k e : ℕ) (v : Value) → IsPart S.checked s.row s.part
      → Moves S number run a s k v → node S.checked s.row ≡ Reset e
      → Live S number run a (region S.checked e)

pub stepping : (S : Source) (g : Parts) (number : ℕ → ℕ → ℕ) → Numbered S.checked g number
    → (count : ℕ) (s : World) (run : List Event) → Reach g S.inputs count s run → AllTell S number run s
    → Stepping S number run
stepping S g number numbered count s run r tell = record {
  stays = λ a o v part x.
      let h = has_fired g S.inputs count s run r x.fires in
      let y = fired_part numbered h in
      let row = (one_part numbered part y.is_part (ap (λ (t : Tag). t.instr) (sym y.at))).0 in
      ap (λ n. is_mover (node S.checked n)) row
      ∙ stays_by (is_mover (node S.checked y.row)) (is_mover (node S.checked y.row)) refl
      (λ e. no_gives (op_by number y.form) (tag_in a (number o.row o.part)) x.fires.operands y.fresh o.side v
      (mover_is S.checked number y.does ∙ e)
      (subst (λ f. GivesOn f o.side v) y.is x.gives));
  goes = λ a o k v part x.
      let h = has_fired g S.inputs count s run r x.fires in
      let y = fired_part numbered h in
      let row = (one_part numbered part y.is_part (ap (λ (t : Tag). t.instr) (sym y.at))).0 in
      subst (λ n. Steps (node S.checked n) a.iteration k) (sym row)
      (steps_by S.checked number y.does (tag_in a (number o.row o.part)) x.fires.operands y.fresh k v (sym y.is));
  ends = λ a o k e v part x is. (let h = has_fired g S.inputs count s run r x.fires in
      reset_live a o e part is h.handled_are);
}
  where
    told_reset : (a : Activation) (n part e : ℕ) (p : Port) (v : Value)
        → Tells S number run a (wants S.checked n (region S.checked n) (Reset e) part p) v
        → Live S number run a (region S.checked e)
    told_reset a n part e Zero v w = w.0
    told_reset a n part e One v w = absurd w

    reset_live : (a : Activation) (o : Origin) (e : ℕ) → IsPart S.checked o.row o.part → node S.checked o.row ≡ Reset e
        → {b : Truth} {ops : Operands} → OperandsHandled run (tag_in a (number o.row o.part)) b ops
        → Live S number run a (region S.checked e)
    reset_live a o e part is (one_handled p v at few h) =
        told_reset a o.row o.part e p v
        (subst (λ m. Tells S number run a (wants S.checked o.row (region S.checked o.row) m o.part p) v) is
        (told_at S g number run numbered a o.row o.part p v part (tell _ (inr h))))
    reset_live a o e part is (two_handled v w at few h k) =
        told_reset a o.row o.part e Zero v
        (subst (λ m. Tells S number run a (wants S.checked o.row (region S.checked o.row) m o.part Zero) v) is
        (told_at S g number run numbered a o.row o.part Zero v part (tell _ (inr h))))

    stays_by : (b c : Truth) → c ≡ b → (c ≡ true → ⊥) → c ≡ false
    stays_by true c e never = absurd (never e)
    stays_by false c e never = e
