-- The line of an event is short, begins with a digit and has one line feed, its last byte.
use Rattle.std.proofs.Common.{◌≡◌, ◌≤◌, ℕ, suc, Bool, true, false, List, [], ◌∷◌, ◌++◌, length, refl, sym, ap, ◌∙◌}
use Rattle.std.proofs.Common.{arith, append_assoc}
use Rattle.std.specs.Prelude.{◌||◌, ℤ, pos, negsuc, codes, decimal}
use Rattle.std.specs.Fmt.{signed_decimal}
use Rattle.std.proofs.lemmas.List.{length-append}
use Rattle.id_instr.specs.declared.dests.Port.{Port}
use Rattle.id_instr.specs.declared.dests.Port.TheVariants.{Zero, One}
use Rattle.id_tag.specs.declared.Tag.{Tag}
use Rattle.id_tag.specs.declared.Cell.{Cell}
use Rattle.id_tag.specs.declared.Context.{Context}
use Rattle.id_tag.specs.declared.Structure.{Structure}
use Rattle.id_tag.specs.declared.Value.{Value}
use Rattle.id_tag.specs.declared.Value.TheVariants as value
use Rattle.id_tag.specs.declared.Payload.{Payload}
use Rattle.id_tag.specs.declared.Payload.TheVariants.{Token, Read, Write}
use Rattle.id_record.specs.declared.step.Step.{Step}
use Rattle.id_record.specs.declared.step.Step.TheVariants.{Went, Fault, Stuck}
use Rattle.id_core.specs.Events.{EventView}
use Rattle.id_sink.specs.Texts.{truth_text}
use Rattle.id_trace.specs.Traces.{carried_text, cell_text, context_text, delivery_text, end_text, entry_text, from_text}
use Rattle.id_trace.specs.Traces.{goal_text, handled_text, line_text}
use Rattle.id_trace.specs.Traces.{moment_text, payload_text, port_text, structure_text, tag_text, turn_text}
use Rattle.id_judge.specs.Ends.{begin_with_digit, has_end, is_line}
use Rattle.id_judge.proofs.LinesLemmas.{decimal_word}
use Rattle.id_judge.proofs.EndsLemmas.{IsPlain, begin_append, decimal_begin, decimal_short, end_append, line_is}
use Rattle.id_judge.proofs.EndsLemmas.{plain_append, plain_word}

-- ---- no line feed

plain_decimal : (n : ℕ) → IsPlain (decimal n)
plain_decimal n = plain_word (decimal n) (decimal_word n)

plain_signed : (z : ℤ) → IsPlain (signed_decimal z)
plain_signed (pos n) = plain_decimal n
plain_signed (negsuc n) = (refl, plain_decimal (suc n))

plain_context : (c : Context) → IsPlain (context_text c)
plain_context c =
    plain_append (decimal c.element) (46 ∷ decimal c.serial) (plain_decimal c.element) (refl, plain_decimal c.serial)

plain_turn : (t : Tag) → IsPlain (turn_text t)
plain_turn t =
    plain_append (context_text t.context) (35 ∷ decimal t.iteration) (plain_context t.context) (
      refl,
      plain_decimal t.iteration,
    )

plain_tag : (t : Tag) → IsPlain (tag_text t)
plain_tag t = plain_append (turn_text t) (58 ∷ decimal t.instr) (plain_turn t) (refl, plain_decimal t.instr)

plain_structure : (s : Structure) → IsPlain (structure_text s)
plain_structure s = (
  refl,
  plain_append (decimal s.element) (46 ∷ decimal s.serial) (plain_decimal s.element) (
    refl,
    plain_decimal s.serial,
  ),
)

plain_cell : (c : Cell) → IsPlain (cell_text c)
plain_cell c =
    plain_append (structure_text c.structure) (91 ∷ (signed_decimal c.index ++ codes "]")) (plain_structure c.structure)
    (refl, plain_append (signed_decimal c.index) (codes "]") (plain_signed c.index) (refl, tt))

plain_truth : (b : Bool) → IsPlain (truth_text b)
plain_truth true = (refl, (refl, (refl, (refl, tt))))
plain_truth false = (refl, (refl, (refl, (refl, (refl, tt)))))

plain_carried : (v : Value) → IsPlain (carried_text v)
plain_carried value.Signal = (refl, (refl, (refl, (refl, (refl, (refl, tt))))))
plain_carried (value.Int n) = plain_signed n
plain_carried (value.Bool b) = plain_truth b
plain_carried (value.Structure s) = plain_structure s
plain_carried (value.Address c) = plain_cell c
plain_carried (value.Context c) = (refl, plain_context c)
plain_carried (value.Continuation t) = (refl, plain_tag t)

plain_port : (p : Port) → IsPlain (port_text p)
plain_port Zero = (refl, tt)
plain_port One = (refl, tt)

plain_delivery : (t : Tag) (p : Port) (v : Value) → IsPlain (delivery_text t p v)
plain_delivery t p v =
    plain_append (goal_text t p) (32 ∷ carried_text v)
    (plain_append (turn_text t) (32 ∷ entry_text t.instr p) (plain_turn t)
    (refl, plain_append (decimal t.instr) (46 ∷ port_text p) (plain_decimal t.instr) (refl, plain_port p)))
    (refl, plain_carried v)

plain_from : (t : Tag) → IsPlain (from_text t)
plain_from t =
    (refl, (refl, plain_append (turn_text t) (32 ∷ decimal t.instr) (plain_turn t) (refl, plain_decimal t.instr)))

-- what a message says has none
pub plain_payload : (p : Payload) → IsPlain (payload_text p)
plain_payload (Token t port v) = (refl, (refl, (refl, (refl, (refl, (refl, (refl, plain_delivery t port v)))))))
plain_payload (Read c t) =
    (refl, (refl, (refl, (refl, (refl, plain_append (cell_text c) (from_text t) (plain_cell c) (plain_from t))))))
plain_payload (Write c v t) =
    let rest : IsPlain (carried_text v ++ from_text t) =
    plain_append (carried_text v) (from_text t) (plain_carried v) (plain_from t) in (
      refl,
      (
        refl,
        (
          refl,
          (
            refl,
            (
              refl,
              (
                refl,
                plain_append (cell_text c) (32 ∷ (carried_text v ++ from_text t)) (plain_cell c) (refl, rest),
              ),
            ),
          ),
        ),
      ),
    )

-- an end of a line, and its line feed
pub record Ends (step : Step) : Type 0 where
  pub word : List ℕ
  pub plain : IsPlain word
  pub is : end_text step ≡ word ++ 10 ∷ []

pub ends : (step : Step) → Ends step
ends Went = record { word = []; plain = tt; is = refl }
ends (Fault f) = record { word = codes " fault"; plain = (refl, (refl, (refl, (refl, (refl, (refl, tt)))))); is = refl }
ends Stuck = record { word = codes " stuck"; plain = (refl, (refl, (refl, (refl, (refl, (refl, tt)))))); is = refl }

-- what a message says, and the end of its line but for the line feed
pub said_word : Payload → Step → List ℕ
said_word p step = payload_text p ++ (ends step).word

pub said_plain : (p : Payload) (step : Step) → IsPlain (said_word p step)
unfolding said_word
said_plain p step = plain_append (payload_text p) (ends step).word (plain_payload p) (ends step).plain

pub said_is : (p : Payload) (step : Step) → payload_text p ++ end_text step ≡ said_word p step ++ 10 ∷ []
unfolding said_word
said_is p step =
    ap (λ t. payload_text p ++ t) (ends step).is ∙ sym (append_assoc (payload_text p) (ends step).word (10 ∷ []))

-- ---- lengths

signed_short : (z : ℤ) → length (signed_decimal z) ≤ 65
signed_short (pos n) = omega (arith, decimal_short n)
signed_short (negsuc n) = omega (arith, decimal_short (suc n))

context_short : (c : Context) → length (context_text c) ≤ 129
context_short c =
    omega (
      arith,
      length-append (decimal c.element) (46 ∷ decimal c.serial),
      decimal_short c.element,
      decimal_short c.serial,
    )

turn_short : (t : Tag) → length (turn_text t) ≤ 194
turn_short t =
    omega (
      arith,
      length-append (context_text t.context) (35 ∷ decimal t.iteration),
      context_short t.context,
      decimal_short t.iteration,
    )

tag_short : (t : Tag) → length (tag_text t) ≤ 259
tag_short t = omega (arith, length-append (turn_text t) (58 ∷ decimal t.instr), turn_short t, decimal_short t.instr)

structure_short : (s : Structure) → length (structure_text s) ≤ 130
structure_short s =
    omega (
      arith,
      length-append (decimal s.element) (46 ∷ decimal s.serial),
      decimal_short s.element,
      decimal_short s.serial,
    )

cell_short : (c : Cell) → length (cell_text c) ≤ 197
cell_short c =
    omega (
      arith,
      length-append (structure_text c.structure) (91 ∷ (signed_decimal c.index ++ codes "]")),
      length-append (signed_decimal c.index) (codes "]"),
      structure_short c.structure,
      signed_short c.index,
    )

truth_short : (b : Bool) → length (truth_text b) ≤ 5
truth_short true = omega arith
truth_short false = omega arith

carried_short : (v : Value) → length (carried_text v) ≤ 260
carried_short value.Signal = omega arith
carried_short (value.Int n) = omega (arith, signed_short n)
carried_short (value.Bool b) = omega (arith, truth_short b)
carried_short (value.Structure s) = omega (arith, structure_short s)
carried_short (value.Address c) = omega (arith, cell_short c)
carried_short (value.Context c) = omega (arith, context_short c)
carried_short (value.Continuation t) = omega (arith, tag_short t)

port_short : (p : Port) → length (port_text p) ≤ 1
port_short Zero = omega arith
port_short One = omega arith

delivery_short : (t : Tag) (p : Port) (v : Value) → length (delivery_text t p v) ≤ 522
delivery_short t p v =
    omega (
      arith,
      length-append (goal_text t p) (32 ∷ carried_text v),
      length-append (turn_text t) (32 ∷ entry_text t.instr p),
      length-append (decimal t.instr) (46 ∷ port_text p),
      turn_short t,
      decimal_short t.instr,
      port_short p,
      carried_short v,
    )

from_short : (t : Tag) → length (from_text t) ≤ 261
from_short t = omega (arith, length-append (turn_text t) (32 ∷ decimal t.instr), turn_short t, decimal_short t.instr)

payload_short : (p : Payload) → length (payload_text p) ≤ 1000
payload_short (Token t port v) = omega (arith, delivery_short t port v)
payload_short (Read c t) = omega (arith, length-append (cell_text c) (from_text t), cell_short c, from_short t)
payload_short (Write c v t) =
    omega (
      arith,
      length-append (cell_text c) (32 ∷ (carried_text v ++ from_text t)),
      length-append (carried_text v) (from_text t),
      cell_short c,
      carried_short v,
      from_short t,
    )

end_short : (step : Step) → length (end_text step) ≤ 7
end_short Went = omega arith
end_short (Fault f) = omega arith
end_short Stuck = omega arith

line_short : (v : EventView) → length (line_text v) ≤ 4096
line_short v =
    omega (
      arith,
      length-append (handled_text v.stamp v.element v.message.payload) (end_text v.step),
      length-append (moment_text v.stamp v.element) (32 ∷ payload_text v.message.payload),
      length-append (decimal v.stamp) (32 ∷ decimal v.element),
      decimal_short v.stamp,
      decimal_short v.element,
      payload_short v.message.payload,
      end_short v.step,
    )

-- ---- the line of an event

has_its_end : (step : Step) → has_end (end_text step) ≡ true
has_its_end Went = refl
has_its_end (Fault f) = refl
has_its_end Stuck = refl

line_ends : (v : EventView) → has_end (line_text v) ≡ true
line_ends v =
    let front = handled_text v.stamp v.element v.message.payload in
    end_append front (end_text v.step) ∙ or_so (has_end front) (has_end (end_text v.step)) (has_its_end v.step)
  where
    or_so : (b c : Bool) → c ≡ true → (b || c) ≡ true
    or_so true c e = refl
    or_so false c e = e

line_begins : (v : EventView) → begin_with_digit (line_text v) ≡ true
line_begins v =
    let front = moment_text v.stamp v.element in
    begin_append (front ++ 32 ∷ payload_text v.message.payload) (end_text v.step)
    (begin_append front (32 ∷ payload_text v.message.payload)
    (begin_append (decimal v.stamp) (32 ∷ decimal v.element) (decimal_begin v.stamp)))

-- the first line of a text that begins with the line of an event may be that of an event
pub event_line : (v : EventView) (tail : List ℕ) → is_line (line_text v ++ tail) ≡ true
event_line v tail = line_is (line_text v) tail (line_begins v) (line_ends v) (line_short v)
