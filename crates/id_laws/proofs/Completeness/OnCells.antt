-- The events that handled reads and writes.
use Rattle.std.proofs.Common.{◌≡◌, inl, inr, List, [], ◌∷◌, sym}
use Rattle.id_value.specs.List.{Among}
use Rattle.id_bank.specs.declared.cell.ReadAnswer.{ReadAnswer}
use Rattle.id_bank.specs.declared.cell.WriteAnswer.{WriteAnswer}
use Rattle.id_tag.specs.declared.Cell.{Cell}
use Rattle.id_tag.specs.declared.Tag.{Tag}
use Rattle.id_tag.specs.declared.Value.{Value}
use Rattle.id_tag.specs.declared.Payload.TheVariants.{Read, Write}
use Rattle.id_runs.specs.Cells.{ReadBy, WrittenBy}
use Rattle.id_runs.specs.Events.{Event, Took, Looked, Wrote, payload_of}
use Rattle.id_runs.specs.Runs.{handled}

read_now : (run : List Event) (c : Cell) (t : Tag) (e : Event) → Read c t ≡ payload_of e
    → (a : ReadAnswer) × ReadBy (e ∷ run) c t a
read_now run c t (Took n u p v a) e = cc
read_now run c t (Looked n d u a) e =
    let cells : d ≡ c =
    cc in let tags : u ≡ t = cc in (a, record { element = n; among = inl (λ i. Looked n (sym cells i) (sym tags i) a) })
read_now run c t (Wrote n d v w a) e = cc

written_now : (run : List Event) (c : Cell) (v : Value) (w : Tag) (e : Event) → Write c v w ≡ payload_of e
    → (a : WriteAnswer) × WrittenBy (e ∷ run) c v w a
written_now run c v w (Took n u p x a) e = cc
written_now run c v w (Looked n d u a) e = cc
written_now run c v w (Wrote n d x u a) e =
    let cells : d ≡ c = cc in
    let values : x ≡ v = cc in
    let tags : u ≡ w = cc in
    (a, record { element = n; among = inl (λ i. Wrote n (sym cells i) (sym values i) (sym tags i) a) })

-- a read that was handled came to an answer
pub was_read : (run : List Event) (c : Cell) (t : Tag) → Among (Read c t) (handled run)
    → (a : ReadAnswer) × ReadBy run c t a
was_read [] c t h = absurd h
was_read (e ∷ run) c t (inl is) = read_now run c t e is
was_read (e ∷ run) c t (inr h) =
    let z = was_read run c t h in (z.0, record { element = (z.1).element; among = inr (z.1).among })

-- and so did a write
pub was_written : (run : List Event) (c : Cell) (v : Value) (w : Tag) → Among (Write c v w) (handled run)
    → (a : WriteAnswer) × WrittenBy run c v w a
was_written [] c v w h = absurd h
was_written (e ∷ run) c v w (inl is) = written_now run c v w e is
was_written (e ∷ run) c v w (inr h) =
    let z = was_written run c v w h in (z.0, record { element = (z.1).element; among = inr (z.1).among })
