-- Of a run in which nothing is in flight, each read of a written cell was answered with what was put into it.
use Rattle.std.proofs.Common.{◌≡◌, inl, inr, ℕ, List, [], refl}
use Rattle.id_instr.specs.declared.dests.Port.TheVariants.{Zero}
use Rattle.id_instr.specs.Graph.{Parts}
use Rattle.id_tag.specs.declared.Tag.{Tag}
use Rattle.id_tag.specs.declared.Cell.{Cell}
use Rattle.id_tag.specs.declared.Value.{Value}
use Rattle.id_tag.specs.declared.Payload.TheVariants.{Token}
use Rattle.id_bank.specs.declared.cell.ReadAnswer.{ReadAnswer}
use Rattle.id_bank.specs.declared.cell.WriteAnswer.{WriteAnswer}
use Rattle.id_bank.specs.declared.cell.WriteAnswer.TheVariants.{Second}
use Rattle.id_core.specs.Machines.{World}
use Rattle.id_value.specs.declared.Constant.{Constant}
use Rattle.id_value.specs.List.{Among}
use Rattle.id_value.proofs.AmongLemmas.{Among-map}
use Rattle.id_runs.specs.Events.{Event, sends_of}
use Rattle.id_runs.specs.Runs.{Reach, handled}
use Rattle.id_runs.specs.Cells.{ReadBy, WrittenBy, Replies, at_once, by_fill, cell_at}
use Rattle.id_runs.proofs.Cells.{cells_exact}
use Rattle.id_runs.proofs.CellLaws.{answered}
use Rattle.id_runs.proofs.Messages.{arrived}

-- an event that answers a read is one of the run, and sends the answer
pub replies_sent : (g : Parts) (run : List Event) (t : Tag) (v : Value) (e : Event) → Replies run t v e
    → Among e run × Among (Token t Zero v) (sends_of g e)
replies_sent g run t v e (at_once n c among) = (among, inl refl)
replies_sent g run t v e (by_fill n c w ts among there) = (among, Among-map (λ u. Token u Zero v) t ts there)

module _ (g : Parts) (vs : List Constant) (count : ℕ) (s : World) (run : List Event) (r : Reach g vs count s run)
    (quiet : s.flight ≡ []) where
  -- an answer that was sent was handled
  pub reply_handled : (t : Tag) (v : Value) (e : Event) → Replies run t v e → Among (Token t Zero v) (handled run)
  reply_handled t v e x =
      let z = replies_sent g run t v e x in
      arrived g vs count s run r quiet (Token t Zero v) (inr (record { event = e; among = z.0; sends = z.1 }))

  -- so the answer to a read of a cell was handled, where a write of it found no other
  pub answer_handled : (c : Cell) (t w : Tag) (v : Value) (a : ReadAnswer) (b : WriteAnswer) → ReadBy run c t a
      → WrittenBy run c v w b →
      ((x : Tag) → b ≡ Second x → ⊥)
      → Among (Token t Zero v) (handled run)
  answer_handled c t w v a b x y once =
      let z = answered run (cell_at count s) (cells_exact g vs count s run r) c t w v a b x y once in
      reply_handled t v z.0 z.1
