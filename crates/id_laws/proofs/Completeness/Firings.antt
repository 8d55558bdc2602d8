-- In a quiet run each part fires whose tokens came, and what it says comes to all that it feeds.
use Rattle.std.proofs.Common.{◌≡◌, inl, inr, ℕ, ◌<◌, Bool as Truth, true, false, List, [], length, refl, sym, ◌∙◌, ap}
use Rattle.std.proofs.Common.{subst}
use Rattle.id_value.specs.List.{Among}
use Rattle.id_check.specs.Programs.{rows}
use Rattle.id_instr.specs.declared.dests.Port.{Port}
use Rattle.id_instr.specs.declared.dests.Port.TheVariants.{Zero, One}
use Rattle.id_instr.specs.declared.dests.Dest.{Dest}
use Rattle.id_instr.specs.declared.instr.Instr.{Instr}
use Rattle.id_instr.specs.declared.instr.Op.{Op}
use Rattle.id_instr.specs.Graph.{Parts}
use Rattle.id_instr.specs.Ports.{two_ports}
use Rattle.id_tag.specs.declared.Tag.{Tag}
use Rattle.id_tag.specs.declared.Value.{Value}
use Rattle.id_tag.specs.declared.Payload.{Payload}
use Rattle.id_tag.specs.declared.Payload.TheVariants.{Token}
use Rattle.id_ops.specs.declared.Operands.{Operands}
use Rattle.id_ops.specs.declared.Operands.TheVariants.{One as Alone, Two}
use Rattle.id_ops.specs.declared.Fresh.{Fresh}
use Rattle.id_ops.specs.declared.Fired.{Fired}
use Rattle.id_ops.specs.declared.Fired.TheVariants.{Out, Side, Moved}
use Rattle.id_ops.specs.Operators.{fired}
use Rattle.id_record.specs.Records.{dests_at, sent_by}
use Rattle.id_core.specs.Machines.{World}
use Rattle.std.proofs.Common.{ℤ}
use Rattle.id_value.specs.Results.{is_whole}
use Rattle.id_source.specs.declared.Path.{Path}
use Rattle.id_source.specs.declared.SourceValue.TheVariants as source
use Rattle.id_source.specs.declared.Fact.TheVariants.{Has}
use Rattle.id_source.specs.Rounds.{Holds}
use Rattle.id_source.specs.Sources.{Source}
use Rattle.id_build.specs.declared.arc.Origin.{Origin}
use Rattle.id_build.specs.declared.arc.Form.TheVariants.{Plain}
use Rattle.id_build.specs.Schemas.{Feeds, Numbered}
use Rattle.id_runs.specs.Activations.{Activation, at_iteration, main_activation, tag_in}
use Rattle.id_runs.specs.Events.{Event, FiresAs, fired_event}
use Rattle.id_runs.specs.Runs.{Origin as ComesFrom, Reach, handled}
use Rattle.id_runs.specs.OneMessage.{Exclusive}
use Rattle.id_runs.proofs.Meeting.{alone, met}
use Rattle.id_runs.proofs.Givings.{gives_sent, moved_sent}
use Rattle.id_runs.proofs.Messages.{arrived}
use Rattle.id_runs.proofs.Waiting.{FiredOn}
use Rattle.id_laws.specs.Activations.{Moves, Speaks}
use Rattle.id_laws.specs.Ways.{StartsAt}
use Rattle.id_laws.proofs.Rows.Arcs.{Does, makes}
use Rattle.id_laws.proofs.Rows.Assumed.{IsKnown}
use Rattle.id_laws.proofs.Paths.Sent.{dests_are}
use Rattle.id_laws.proofs.Rows.Start.{is_there}
use Rattle.id_build.specs.declared.arc.Form.{Form}
use Rattle.id_build.specs.Rows.{op_by}

-- nothing is in flight, and each number that a place of the source Has is one of the language
pub record IsSettled (S : Source) (s : World) : Type 0 where
  pub empty : s.flight ≡ []
  pub wholes : {p : Path} {e : ℕ} {i : ℤ} → Holds S (Has p e (source.Int i)) → is_whole i ≡ true

module _ (S : Source) (g : Parts) (number : ℕ → ℕ
    → ℕ) (numbered : Numbered S.checked g number) (known : IsKnown S.checked) (count : ℕ)
    (only : Exclusive g S.inputs count)
    (s : World) (run : List Event) (r : Reach g S.inputs count s run) (quiet : IsSettled S s) where
  -- what was sent, or was there at the start, was handled
  pub was_handled : (x : Payload) → ComesFrom g S.inputs run x → Among x (handled run)
  was_handled x from = arrived g S.inputs count s run r quiet.empty x from

  -- what a firing sends was handled
  pub sent_handled : {t : Tag} {f : Fired} (y : FiresAs run t f) (x : Payload) → Among x (sent_by g t f)
      → Among x (handled run)
  sent_handled y x out = was_handled x (inr (record { event = fired_event y; among = y.among; sends = out }))

  -- what starts was handled
  pub start_handled : {n part : ℕ} {p : Port} {v : Value} → StartsAt S number n part p v
      → Among (Token (tag_in main_activation (number n part)) p v) (handled run)
  start_handled x = was_handled _ (inl (is_there S g number numbered known x))

  -- the part has fired on these operands
  pub record PartFired (a : Activation) (n part : ℕ) (o : Op) (ops : Operands) : Type 0 where
    pub fresh : Fresh
    pub fires : FiresAs run (tag_in a (number n part)) (fired o (tag_in a (number n part)) ops fresh)

  by_instr : (a : Activation) (n part : ℕ) (o : Op) (ops : Operands) (i : Instr) → i.op ≡ o
      → FiredOn g run (tag_in a (number n part)) i ops → PartFired a n part o ops
  by_instr a n part o ops i is f =
      record {
        fresh = f.fresh;
        fires =
            subst (λ z. FiresAs run (tag_in a (number n part)) (fired z (tag_in a (number n part)) ops f.fresh)) is
            f.fires;
      }

  pub alone_formed : (a : Activation) (n part : ℕ) (o : Form) (p : Port) (v : Value) → n < length (rows S.checked)
      → Does S.checked n part o → two_ports (op_by number o) ≡ false
      → Among (Token (tag_in a (number n part)) p v) (handled run) → PartFired a n part (op_by number o) (Alone v)
  alone_formed a n part o p v within does one h =
      let m = numbered.made n part o _ (makes within does) in
      by_instr a n part (op_by number o) (Alone v) m.instr m.op
      (alone g S.inputs count s run r (tag_in a (number n part)) p v m.instr m.at (ap two_ports m.op ∙ one) h)

  pub alone_fired : (a : Activation) (n part : ℕ) (o : Op) (p : Port) (v : Value) → n < length (rows S.checked)
      → Does S.checked n part (Plain o) → two_ports o ≡ false
      → Among (Token (tag_in a (number n part)) p v) (handled run) → PartFired a n part o (Alone v)
  alone_fired a n part o p v within does one h = alone_formed a n part (Plain o) p v within does one h

  pub both_formed : (a : Activation) (n part : ℕ) (o : Form) (v w : Value) → n < length (rows S.checked)
      → Does S.checked n part o → two_ports (op_by number o) ≡ true
      → Among (Token (tag_in a (number n part)) Zero v) (handled run)
      → Among (Token (tag_in a (number n part)) One w) (handled run)
      → PartFired a n part (op_by number o) (Two v w)
  both_formed a n part o v w within does two h k =
      let m = numbered.made n part o _ (makes within does) in
      by_instr a n part (op_by number o) (Two v w) m.instr m.op
      (met g S.inputs count only s run r (tag_in a (number n part)) v w m.instr m.at (ap two_ports m.op ∙ two) h k)

  pub both_fired : (a : Activation) (n part : ℕ) (o : Op) (v w : Value) → n < length (rows S.checked)
      → Does S.checked n part (Plain o) → two_ports o ≡ true
      → Among (Token (tag_in a (number n part)) Zero v) (handled run)
      → Among (Token (tag_in a (number n part)) One w) (handled run)
      → PartFired a n part o (Two v w)
  both_fired a n part o v w within does two h k = both_formed a n part (Plain o) v w within does two h k

  -- a part that has fired so speaks the value that comes out
  pub spoken : (a : Activation) (n part : ℕ) (o : Op) (ops : Operands) (v : Value) → PartFired a n part o ops
      → ((f : Fresh) → fired o (tag_in a (number n part)) ops f ≡ Out v)
      → Speaks S number run a (record { row = n; part = part; side = true }) v
  spoken a n part o ops v x out =
      record {
        fired = Out v;
        fires = subst (λ z. FiresAs run (tag_in a (number n part)) z) (out x.fresh) x.fires;
        gives = (refl, refl);
      }

  -- a part that has fired so speaks the value on the side that it goes to
  pub spoken_on : (a : Activation) (n part : ℕ) (o : Op) (ops : Operands) (b : Truth) (v : Value)
      → PartFired a n part o ops → ((f : Fresh) → fired o (tag_in a (number n part)) ops f ≡ Side b v)
      → Speaks S number run a (record { row = n; part = part; side = b }) v
  spoken_on a n part o ops b v x out =
      record {
        fired = Side b v;
        fires = subst (λ z. FiresAs run (tag_in a (number n part)) z) (out x.fresh) x.fires;
        gives = (refl, refl);
      }

  -- what is spoken came to all that it feeds
  pub came : (a : Activation) (t : Origin) (n part : ℕ) (p : Port) (v : Value) → Speaks S number run a t v
      → Feeds S.checked t n part p → Among (Token (tag_in a (number n part)) p v) (handled run)
  came a t n part p v x feeds =
      let d : Dest = record { instr = number n part; port = p } in
      let to = numbered.sends t n part p feeds in
      let u = tag_in a (number t.row t.part) in
      let here = subst (λ ds. Among d ds) (sym (dests_are t.side _ to.instr to.at)) to.lists in
      sent_handled x.fires (Token (tag_in a (number n part)) p v) (gives_sent g u x.fired t.side v d x.gives here)

  -- a part that has fired so moves the value to an iteration
  pub moved_on : (a : Activation) (n part : ℕ) (o : Op) (ops : Operands) (k : ℕ) (v : Value) → PartFired a n part o ops
      → ((f : Fresh) → fired o (tag_in a (number n part)) ops f ≡ Moved k v)
      → Moves S number run a (record { row = n; part = part; side = true }) k v
  moved_on a n part o ops k v x out =
      record { on = refl; fires = subst (λ z. FiresAs run (tag_in a (number n part)) z) (out x.fresh) x.fires }

  -- what goes to an iteration came there to all that it feeds
  pub went : (a : Activation) (t : Origin) (k n part : ℕ) (p : Port) (v : Value) → Moves S number run a t k v
      → Feeds S.checked t n part p → Among (Token (tag_in (at_iteration a.context k) (number n part)) p v) (handled run)
  went a t k n part p v x feeds =
      let d : Dest = record { instr = number n part; port = p } in
      let to = numbered.sends t n part p feeds in
      let u = tag_in a (number t.row t.part) in
      let here = subst (λ ds. Among d ds) (sym (dests_are t.side _ to.instr to.at)) to.lists in
      sent_handled x.fires (Token (tag_in (at_iteration a.context k) (number n part)) p v)
      (moved_sent g u k v d (subst (λ b. Among d (dests_at g u.instr b)) x.on here))
