-- What a message says tells its key.
use Rattle.std.proofs.Common.{◌≡◌, ℕ, suc, Bool, true, false, List, [], ◌∷◌, ◌++◌, drop, get_or, refl, sym, ap, ◌∙◌}
use Rattle.std.proofs.Common.{arith, append_assoc}
use Rattle.std.specs.Prelude.{ℤ, pos, negsuc, codes, decimal}
use Rattle.std.specs.Fmt.{signed_decimal}
use Rattle.std.specs.Char.{is_ascii_digit}
use Rattle.id_instr.specs.declared.dests.Port.{Port}
use Rattle.id_instr.specs.declared.dests.Port.TheVariants.{Zero, One}
use Rattle.id_tag.specs.declared.Tag.{Tag}
use Rattle.id_tag.specs.declared.Cell.{Cell}
use Rattle.id_tag.specs.declared.Context.{Context}
use Rattle.id_tag.specs.declared.Structure.{Structure}
use Rattle.id_tag.specs.declared.Value.{Value}
use Rattle.id_tag.specs.declared.Value.TheVariants as value
use Rattle.id_tag.specs.declared.Payload.{Payload}
use Rattle.id_tag.specs.declared.Payload.TheVariants.{Token, Read, Write}
use Rattle.id_record.specs.declared.step.Step.{Step}
use Rattle.id_record.specs.declared.step.Step.TheVariants.{Went, Fault, Stuck}
use Rattle.id_record.specs.Events.{tag_of}
use Rattle.id_runs.specs.Keys.{AtPort, ByFetch, ByStore, key_of}
use Rattle.id_sink.specs.Texts.{truth_text}
use Rattle.id_sink.proofs.LinesLemmas.{Stops}
use Rattle.id_sink.proofs.DigitsLemmas.{decimal_told}
use Rattle.id_trace.specs.Traces.{carried_text, cell_text, context_text, end_text, payload_text, port_text, read_text}
use Rattle.id_trace.specs.Traces.{structure_text, tag_text, token_text, turn_text, write_text}
use Rattle.id_judge.specs.Lines.{IsSmall, behind}
use Rattle.id_judge.proofs.LinesLemmas.{IsWord, behind_word, decimal_word}

-- ---- words

word_append : (xs ys : List ℕ) → IsWord xs → IsWord ys → IsWord (xs ++ ys)
word_append [] ys v w = w
word_append (x ∷ xs) ys v w = (v.0, word_append xs ys v.1 w)

signed_word : (z : ℤ) → IsWord (signed_decimal z)
signed_word (pos n) = decimal_word n
signed_word (negsuc n) = (refl, decimal_word (suc n))

context_word : (c : Context) → IsWord (context_text c)
context_word c =
    word_append (decimal c.element) (46 ∷ decimal c.serial) (decimal_word c.element) (refl, decimal_word c.serial)

turn_word : (t : Tag) → IsWord (turn_text t)
turn_word t =
    word_append (context_text t.context) (35 ∷ decimal t.iteration) (context_word t.context) (
      refl,
      decimal_word t.iteration,
    )

tag_word : (t : Tag) → IsWord (tag_text t)
tag_word t = word_append (turn_text t) (58 ∷ decimal t.instr) (turn_word t) (refl, decimal_word t.instr)

structure_word : (s : Structure) → IsWord (structure_text s)
structure_word s = (
  refl,
  word_append (decimal s.element) (46 ∷ decimal s.serial) (decimal_word s.element) (
    refl,
    decimal_word s.serial,
  ),
)

cell_word : (c : Cell) → IsWord (cell_text c)
cell_word c =
    word_append (structure_text c.structure) (91 ∷ (signed_decimal c.index ++ codes "]")) (structure_word c.structure)
    (refl, word_append (signed_decimal c.index) (codes "]") (signed_word c.index) (refl, tt))

truth_word : (b : Bool) → IsWord (truth_text b)
truth_word true = (refl, (refl, (refl, (refl, tt))))
truth_word false = (refl, (refl, (refl, (refl, (refl, tt)))))

carried_word : (v : Value) → IsWord (carried_text v)
carried_word value.Signal = (refl, (refl, (refl, (refl, (refl, (refl, tt))))))
carried_word (value.Int n) = signed_word n
carried_word (value.Bool b) = truth_word b
carried_word (value.Structure s) = structure_word s
carried_word (value.Address c) = cell_word c
carried_word (value.Context c) = (refl, context_word c)
carried_word (value.Continuation t) = (refl, tag_word t)

-- ---- tags

-- the context and the iteration are told where no digit stands behind them, and so is what stands there
record IsTurn (t u : Tag) (r s : List ℕ) : Type 0 where
  pub element : t.context.element ≡ u.context.element
  pub serial : t.context.serial ≡ u.context.serial
  pub iteration : t.iteration ≡ u.iteration
  pub rest : r ≡ s

turn_parts : (t : Tag) (r : List ℕ)
    → turn_text t ++ r ≡ decimal t.context.element ++ 46 ∷ (decimal t.context.serial ++ 35 ∷ (decimal t.iteration ++ r))
turn_parts t r =
    append_assoc (context_text t.context) (35 ∷ decimal t.iteration) r
    ∙ append_assoc (decimal t.context.element) (46 ∷ decimal t.context.serial) (35 ∷ (decimal t.iteration ++ r))

turn_told : (t u : Tag) (r s : List ℕ) → IsSmall t → IsSmall u → Stops is_ascii_digit r → Stops is_ascii_digit s
    → turn_text t ++ r ≡ turn_text u ++ s → IsTurn t u r s
turn_told t u r s p q h k e =
    let all : decimal t.context.element ++ 46 ∷ (decimal t.context.serial ++ 35 ∷ (decimal t.iteration ++ r))
    ≡ decimal u.context.element ++ 46 ∷ (decimal u.context.serial ++ 35 ∷ (decimal u.iteration ++ s)) =
    sym (turn_parts t r) ∙ e ∙ turn_parts u s in
    let one =
    decimal_told t.context.element u.context.element
    (46 ∷ (decimal t.context.serial ++ 35 ∷ (decimal t.iteration ++ r)))
    (46 ∷ (decimal u.context.serial ++ 35 ∷ (decimal u.iteration ++ s))) (omega (arith, p.element))
    (omega (arith, q.element)) refl refl all in
    let two =
    decimal_told t.context.serial u.context.serial (35 ∷ (decimal t.iteration ++ r)) (35 ∷ (decimal u.iteration ++ s))
    (omega (arith, p.serial))
    (omega (arith, q.serial)) refl refl (ap (drop 1) one.1) in
    let three =
    decimal_told t.iteration u.iteration r s (omega (arith, p.iteration)) (omega (arith, q.iteration)) h k
    (ap (drop 1) two.1) in
    record { element = one.0; serial = two.0; iteration = three.0; rest = three.1 }

one_tag : (t u : Tag) {r s : List ℕ} → IsTurn t u r s → t.instr ≡ u.instr → t ≡ u
one_tag t u h same =
    λ i. record {
      context = record { element = h.element i; serial = h.serial i };
      iteration = h.iteration i;
      instr =
          same i;
    }

-- ---- ends

end_stops : (a : Step) (r : List ℕ) → Stops is_ascii_digit (end_text a ++ r)
end_stops Went r = refl
end_stops (Fault f) r = refl
end_stops Stuck r = refl

-- ---- tokens

token_parts : (t : Tag) (p : Port) (v : Value) (z : List ℕ)
    → token_text t p v ++ z ≡ codes "token c"
    ++ (turn_text t ++ 32 ∷ (decimal t.instr ++ 46 ∷ (port_text p ++ 32 ∷ (carried_text v ++ z))))
token_parts t p v z =
    ap (λ x. codes "token c" ++ x)
    (append_assoc (turn_text t ++ 32 ∷ (decimal t.instr ++ 46 ∷ port_text p)) (32 ∷ carried_text v) z
    ∙ append_assoc (turn_text t) (32 ∷ (decimal t.instr ++ 46 ∷ port_text p)) (32 ∷ (carried_text v ++ z))
    ∙ ap (λ x. turn_text t ++ 32 ∷ x) (append_assoc (decimal t.instr) (46 ∷ port_text p) (32 ∷ (carried_text v ++ z))))

port_told : (p q : Port) (r s : List ℕ) → port_text p ++ r ≡ port_text q ++ s → p ≡ q
port_told Zero Zero r s e = refl
port_told Zero One r s e = absurd (let bad : 48 ≡ 49 = ap (λ l. get_or l 0 0) e in omega (arith, bad))
port_told One Zero r s e = absurd (let bad : 49 ≡ 48 = ap (λ l. get_or l 0 0) e in omega (arith, bad))
port_told One One r s e = refl

token_told : (t u : Tag) (p q : Port) (v w : Value) (y z : List ℕ) → IsSmall t → IsSmall u
    → token_text t p v ++ y ≡ token_text u q w ++ z → AtPort t p ≡ AtPort u q
token_told t u p q v w y z small other e =
    let all : turn_text t ++ 32 ∷ (decimal t.instr ++ 46 ∷ (port_text p ++ 32 ∷ (carried_text v ++ y)))
    ≡ turn_text u ++ 32 ∷ (decimal u.instr ++ 46 ∷ (port_text q ++ 32 ∷ (carried_text w ++ z))) =
    ap (drop 7) (sym (token_parts t p v y) ∙ e ∙ token_parts u q w z) in
    let turn = turn_told t u (32 ∷ (decimal t.instr ++ 46 ∷ (port_text p ++ 32 ∷ (carried_text v ++ y))))
    (32 ∷ (decimal u.instr ++ 46 ∷ (port_text q ++ 32 ∷ (carried_text w ++ z)))) small other refl refl all in
    let instr =
    decimal_told t.instr u.instr (46 ∷ (port_text p ++ 32 ∷ (carried_text v ++ y)))
    (46 ∷ (port_text q ++ 32 ∷ (carried_text w ++ z)))
    (omega (arith, small.instr)) (omega (arith, other.instr)) refl refl (ap (drop 1) turn.rest) in
    let ports : p ≡ q = port_told p q (32 ∷ (carried_text v ++ y)) (32 ∷ (carried_text w ++ z)) (ap (drop 1) instr.1) in
    let tags : t ≡ u = one_tag t u turn instr.0 in
    λ i. AtPort (tags i) (ports i)

-- ---- reads and writes

from_told : (t u : Tag) (a b : Step) (y z : List ℕ) → IsSmall t → IsSmall u
    → turn_text t ++ 32 ∷ (decimal t.instr ++ (end_text a ++ y)) ≡ turn_text u ++ 32
    ∷ (decimal u.instr ++ (end_text b ++ z)) → t ≡ u
from_told t u a b y z small other e =
    let turn =
    turn_told t u (32 ∷ (decimal t.instr ++ (end_text a ++ y))) (32 ∷ (decimal u.instr ++ (end_text b ++ z))) small
    other refl refl e in
    let instr =
    decimal_told t.instr u.instr (end_text a ++ y) (end_text b ++ z) (omega (arith, small.instr))
    (omega (arith, other.instr)) (end_stops a y)
    (end_stops b z) (ap (drop 1) turn.rest) in
    one_tag t u turn instr.0

read_parts : (c : Cell) (t : Tag) (z : List ℕ)
    → read_text c t ++ z ≡ codes "read " ++ (cell_text c ++ 32 ∷ 99 ∷ (turn_text t ++ 32 ∷ (decimal t.instr ++ z)))
read_parts c t z =
    ap (λ x. codes "read " ++ x)
    (append_assoc (cell_text c) (32 ∷ 99 ∷ (turn_text t ++ 32 ∷ decimal t.instr)) z
    ∙ ap (λ x. cell_text c ++ 32 ∷ 99 ∷ x) (append_assoc (turn_text t) (32 ∷ decimal t.instr) z))

read_told : (c d : Cell) (t u : Tag) (a b : Step) (y z : List ℕ) → IsSmall t → IsSmall u
    → read_text c t ++ (end_text a ++ y) ≡ read_text d u ++ (end_text b ++ z) → t ≡ u
read_told c d t u a b y z small other e =
    let p : List ℕ = 99 ∷ (turn_text t ++ 32 ∷ (decimal t.instr ++ (end_text a ++ y))) in
    let q : List ℕ = 99 ∷ (turn_text u ++ 32 ∷ (decimal u.instr ++ (end_text b ++ z))) in
    let all : cell_text c ++ 32 ∷ p ≡ cell_text d ++ 32 ∷ q =
    ap (drop 5) (sym (read_parts c t (end_text a ++ y)) ∙ e ∙ read_parts d u (end_text b ++ z)) in
    let rest : p ≡ q =
    sym (behind_word (cell_text c) p (cell_word c)) ∙ ap behind all ∙ behind_word (cell_text d) q (cell_word d) in
    from_told t u a b y z small other (ap (drop 1) rest)

write_parts : (c : Cell) (v : Value) (t : Tag) (z : List ℕ)
    → write_text c v t ++ z ≡ codes "write "
    ++ (cell_text c ++ 32 ∷ (carried_text v ++ 32 ∷ 99 ∷ (turn_text t ++ 32 ∷ (decimal t.instr ++ z))))
write_parts c v t z =
    ap (λ x. codes "write " ++ x)
    (append_assoc (cell_text c) (32 ∷ (carried_text v ++ 32 ∷ 99 ∷ (turn_text t ++ 32 ∷ decimal t.instr))) z
    ∙ ap (λ x. cell_text c ++ 32 ∷ x)
    (append_assoc (carried_text v) (32 ∷ 99 ∷ (turn_text t ++ 32 ∷ decimal t.instr)) z
    ∙ ap (λ x. carried_text v ++ 32 ∷ 99 ∷ x) (append_assoc (turn_text t) (32 ∷ decimal t.instr) z)))

write_told : (c d : Cell) (v w : Value) (t u : Tag) (a b : Step) (y z : List ℕ) → IsSmall t → IsSmall u
    → write_text c v t ++ (end_text a ++ y) ≡ write_text d w u ++ (end_text b ++ z) → t ≡ u
write_told c d v w t u a b y z small other e =
    let p : List ℕ = 99 ∷ (turn_text t ++ 32 ∷ (decimal t.instr ++ (end_text a ++ y))) in
    let q : List ℕ = 99 ∷ (turn_text u ++ 32 ∷ (decimal u.instr ++ (end_text b ++ z))) in
    let all : cell_text c ++ 32 ∷ (carried_text v ++ 32 ∷ p) ≡ cell_text d ++ 32 ∷ (carried_text w ++ 32 ∷ q) =
    ap (drop 6) (sym (write_parts c v t (end_text a ++ y)) ∙ e ∙ write_parts d w u (end_text b ++ z)) in
    let values : carried_text v ++ 32 ∷ p ≡ carried_text w ++ 32 ∷ q =
    sym (behind_word (cell_text c) (carried_text v ++ 32 ∷ p) (cell_word c)) ∙ ap behind all
    ∙ behind_word (cell_text d) (carried_text w ++ 32 ∷ q) (cell_word d) in
    let rest : p ≡ q =
    sym (behind_word (carried_text v) p (carried_word v)) ∙ ap behind values
    ∙ behind_word (carried_text w) q (carried_word w) in
    from_told t u a b y z small other (ap (drop 1) rest)

-- ---- messages

t_r : ◌≡◌ {A = ℕ} 116 114 → ⊥
t_r e = omega (arith, e)

t_w : ◌≡◌ {A = ℕ} 116 119 → ⊥
t_w e = omega (arith, e)

r_w : ◌≡◌ {A = ℕ} 114 119 → ⊥
r_w e = omega (arith, e)

-- texts that begin alike, up to the ends of their lines, say messages of one key
pub key_told : (x y : Payload) (a b : Step) (r s : List ℕ) → IsSmall (tag_of x) → IsSmall (tag_of y)
    → payload_text x ++ (end_text a ++ r) ≡ payload_text y ++ (end_text b ++ s) → key_of x ≡ key_of y
key_told (Token t p v) (Token u q w) a b r s small other e =
    token_told t u p q v w (end_text a ++ r) (end_text b ++ s) small other e
key_told (Token t p v) (Read d u) a b r s small other e = absurd (t_r (ap (λ l. get_or l 0 0) e))
key_told (Token t p v) (Write d w u) a b r s small other e = absurd (t_w (ap (λ l. get_or l 0 0) e))
key_told (Read c t) (Token u q w) a b r s small other e = absurd (t_r (ap (λ l. get_or l 0 0) (sym e)))
key_told (Read c t) (Read d u) a b r s small other e = ap ByFetch (read_told c d t u a b r s small other e)
key_told (Read c t) (Write d w u) a b r s small other e = absurd (r_w (ap (λ l. get_or l 0 0) e))
key_told (Write c v t) (Token u q w) a b r s small other e = absurd (t_w (ap (λ l. get_or l 0 0) (sym e)))
key_told (Write c v t) (Read d u) a b r s small other e = absurd (r_w (ap (λ l. get_or l 0 0) (sym e)))
key_told (Write c v t) (Write d w u) a b r s small other e = ap ByStore (write_told c d v w t u a b r s small other e)
