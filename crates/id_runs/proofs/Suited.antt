-- Each message of a run of a valid graph fits it, so what fires does so on operands that suit its operator.
use Rattle.std.proofs.Common.{◌≡◌, inr, ℕ, ◌+◌, ◌<◌, false, max, Option, Some, None, List, ◌∷◌, [], slice_get, refl}
use Rattle.std.proofs.Common.{sym, ◌∙◌, ap, subst, arith}
use Rattle.std.specs.Prelude.{All, is_some, option_map}
use Rattle.std.specs.Option.{option_map_or}
use Rattle.id_instr.specs.declared.instr.Instr.{Instr}
use Rattle.id_instr.specs.declared.dests.Port.{Port}
use Rattle.id_instr.specs.declared.dests.Port.TheVariants.{Zero, One}
use Rattle.id_instr.specs.Graph.{Parts, arcs_on}
use Rattle.id_instr.specs.Ports.{port_kind, two_ports}
use Rattle.id_tag.specs.declared.Tag.{Tag}
use Rattle.id_tag.specs.declared.Value.{Value}
use Rattle.id_tag.specs.declared.Payload.{Payload}
use Rattle.id_tag.specs.declared.Payload.TheVariants.{Token, Read, Write}
use Rattle.id_tag.specs.declared.Cell.{Cell}
use Rattle.id_bank.specs.declared.cell.WriteAnswer.TheVariants.{Readers}
use Rattle.id_record.specs.Records.{sent_by}
use Rattle.id_tag.specs.declared.Message.{Message}
use Rattle.id_tag.specs.Kinds.{kind_of}
use Rattle.id_valid.specs.Validator.{IsValid}
use Rattle.id_valid.proofs.ValidatorLemmas.{IsMainBlock-valid}
use Rattle.id_ops.specs.declared.Operands.{Operands}
use Rattle.id_ops.specs.declared.Fired.{Fired}
use Rattle.id_ops.specs.Operators.{fired, side_of}
use Rattle.id_ops.specs.Operands.{Suits}
use Rattle.id_ops.proofs.OperandsLemmas.{fires-from_Suits}
use Rattle.id_step.specs.Fits.{Fits, PayloadFits, TokenFits}
use Rattle.id_step.proofs.FitsLemmas.{TokenFits-later}
use Rattle.id_step.proofs.OutcomeLemmas.{one_port}
use Rattle.id_step.proofs.SentLemmas.{OperandsFit, fired_fits, kind_at_op, reply_fits, sent_fits}
use Rattle.id_core.specs.Steps.{sent}
use Rattle.id_core.specs.Machines.{World, TakesInputs, block_messages, run, start}
use Rattle.id_core.proofs.MachinesLemmas.{start_fits}
use Rattle.id_value.specs.declared.Constant.{Constant}
use Rattle.id_value.specs.List.{Among}
use Rattle.id_value.proofs.AmongLemmas.{Among-from_map, Among-map}
use Rattle.id_runs.specs.Events.{Event, Looked, Wrote, FiresAs, payload_of, sends_of}
use Rattle.id_runs.specs.Cells.{Replies, cell_at}
use Rattle.id_runs.proofs.Cells.{cells_exact}
use Rattle.id_runs.proofs.CellLaws.{reply_sound}
use Rattle.id_runs.proofs.Messages.{SentFrom, by_firing, by_answer, sent_from}
use Rattle.id_runs.specs.Runs.{Reach, handled, starting}
use Rattle.id_runs.specs.Suited.{IsSuited, AreSuited}
use Rattle.id_runs.proofs.EveryMessage.{every_message}
use Rattle.id_runs.proofs.RecordsOfRuns.{of_all}
use Rattle.id_runs.proofs.Runs.{reached}
use Rattle.id_runs.proofs.Waiting.{OperandsHandled, one_handled, two_handled, has_fired}

-- at some stamp the message fits the graph
record FitsOnce (g : Parts) (x : Payload) : Type 0 where
  pub stamp : ℕ
  pub fits : PayloadFits g stamp x

-- the operands fit the graph at a stamp above their iteration, and suit the operator of the instruction
record Suitable (g : Parts) (t : Tag) (i : Instr) (ops : Operands) : Type 0 where
  pub stamp : ℕ
  pub in_time : t.iteration < stamp
  pub fit : OperandsFit g stamp t ops
  pub suits : Suits i.op ops

no_port : {K : Type 0} (o : Option K) → is_some o ≡ false → o ≡ None
no_port None e = refl
no_port (Some k) e = cc

-- what was handled fits, so operands that were do
suitable : (g : Parts) (t : Tag) (i : Instr) (ops : Operands) (events : List Event)
    → slice_get g.instrs t.instr ≡ Some i → ((x : Payload) → Among x (handled events) → FitsOnce g x)
    → OperandsHandled events t (two_ports i.op) ops → Suitable g t i ops
suitable g t i ops events at fit have = by_ports have
  where
    kind : (stamp : ℕ) (p : Port) (v : Value) → TokenFits g stamp t p v → port_kind i.op p ≡ Some (kind_of v)
    kind stamp p v x = sym (kind_at_op g t.instr p i.op (ap (option_map (λ j. j.op)) at)) ∙ x.kind

    by_ports : OperandsHandled events t (two_ports i.op) ops → Suitable g t i ops
    by_ports (one_handled p v is one h) =
        let x = fit (Token t p v) h in
        let zero = one_port g x.stamp t p v i at one x.fits in
        subst (Suitable g t i) (sym is) (record {
          stamp = x.stamp + 1;
          in_time = omega (arith, zero.in_time);
          fit = TokenFits-later g x.stamp (x.stamp + 1) t Zero v (omega arith) zero;
          suits = (kind x.stamp Zero v zero, no_port (port_kind i.op One) one);
        })
    by_ports (two_handled v w is two h k) =
        let x = fit (Token t Zero v) h in
        let y = fit (Token t One w) k in
        let last = max x.stamp y.stamp + 1 in
        let first = TokenFits-later g x.stamp last t Zero v (omega arith) x.fits in
        let second = TokenFits-later g y.stamp last t One w (omega arith) y.fits in
        subst (Suitable g t i) (sym is) (record {
          stamp = last;
          in_time = omega (arith, (x.fits).in_time);
          fit = (first, second);
          suits = (kind last Zero v first, kind last One w second);
        })

module _ (g : Parts) (vs : List Constant) (count : ℕ) (valid : IsValid g) (takes : TakesInputs g vs) where
  -- the messages at the start fit
  starts : (x : Payload) → Among x (starting g vs) → FitsOnce g x
  starts x h =
      let answer = (valid.sound 0).answer refl in
      let main = answer.block in
      let all : All (Fits g) (block_messages (main ∷ []) vs) =
      start_fits g main vs answer.main (IsMainBlock-valid g main valid answer.main) (takes.taken main answer.main) in
      let m = Among-from_map (λ (y : Message). y.payload) x _ h in
      let fits = of_all (Fits g) _ m.0 (subst (λ bs. All (Fits g) (block_messages bs vs)) (sym answer.main) all) m.1 in
      record { stamp = (m.0).stamp; fits = subst (PayloadFits g (m.0).stamp) (sym m.2) fits }

  -- an answer fits where its read and the write of its value do
  answer_fits : (c : Cell) (t w : Tag) (v : Value) → FitsOnce g (Read c t) → FitsOnce g (Write c v w)
      → FitsOnce g (Token t Zero v)
  answer_fits c t w v x y = record { stamp = x.stamp; fits = reply_fits g x.stamp c v t (y.fits).kind (x.fits).reply }

  -- and so does one that an event of a run sends, where what was handled does
  answers_fit : (s : World) (events : List Event) → Reach g vs count s events
      → ((x : Payload) → Among x (handled events) → FitsOnce g x)
      → (t : Tag) (v : Value) (e : Event) → Replies events t v e → FitsOnce g (Token t Zero v)
  answers_fit s events r fit t v e x =
      let z = reply_sound events (cell_at count s) (cells_exact g vs count s events r) t v e x in
      let asks = (z.1).1 in
      let puts = (z.2).2 in
      answer_fits z.0 t (z.2).0 v
      (fit (Read z.0 t) (Among-map payload_of (Looked asks.element z.0 t (z.1).0) events asks.among))
      (fit (Write z.0 v (z.2).0)
      (Among-map payload_of (Wrote puts.element z.0 v (z.2).0 (Readers (z.2).1)) events puts.among))

  -- what an event sends fits, where what was handled does
  passes : (s : World) (events : List Event) → Reach g vs count s events → (e : Event) → Among e events
      → ((h : Event) → Among h events → Unit {0}) → ((x : Payload) → Among x (handled events) → FitsOnce g x)
      → (x : Payload) → Among x (sends_of g e) → FitsOnce g x
  passes s events r e among known fit x h = by (sent_from g events e among x h)
    where
      of_firing : (t : Tag) (f : Fired) (y : FiresAs events t f) → Among x (sent_by g t f) → FitsOnce g x
      of_firing t f fired_so out =
          let y = has_fired g vs count s events r fired_so in
          let ops = fired_so.operands in
          let i = y.instr in
          let z = suitable g t i ops events y.at fit y.handled_are in
          let all = sent_fits g z.stamp t i (fired i.op t ops y.fresh) valid y.at (omega (arith, z.in_time))
          (fired_fits g z.stamp t i.op ops y.fresh valid (ap (option_map (λ j. j.op)) y.at) z.in_time z.fit) in
          let same = ap (λ o. sent (option_map (λ j. j.op) o) (option_map_or (arcs_on (side_of f)) o []) t f) y.at ∙
          ap (λ u. sent (Some i.op) (arcs_on (side_of u) i) t u) y.is in
          record { stamp = z.stamp; fits = of_all (PayloadFits g z.stamp) _ x all (subst (Among x) same out) }

      by : SentFrom g events e x → FitsOnce g x
      by (by_firing t f y is out) = of_firing t f y out
      by (by_answer t v is y) = subst (FitsOnce g) (sym is) (answers_fit s events r fit t v e y)

  -- so each firing is suited
  firing_suited : (s : World) (events : List Event) → Reach g vs count s events
      → (t : Tag) (f : Fired) (x : FiresAs events t f) → IsSuited g t x.operands f
  firing_suited s events r t f x =
      let y = has_fired g vs count s events r x in
      let fit = λ (m : Payload) (h : Among m (handled events)).
      every_message g vs count (λ e. Unit {0}) (FitsOnce g) starts passes s events r (λ e a. tt) m (inr h) in
      let z = suitable g t y.instr x.operands events y.at fit y.handled_are in
      record {
        instr = y.instr;
        at = y.at;
        suits = z.suits;
        fires =
            λ e. fires-from_Suits (y.instr).op t x.operands y.fresh z.suits (sym y.is ∙ e);
      }

  -- *Suited* of one list of deliveries
  pub suited_at : (ks : List ℕ) → AreSuited g vs count (run g count ks (start g vs count))
  suited_at ks = record { reached = reached g vs count ks; suited = λ events r. firing_suited _ events r }
