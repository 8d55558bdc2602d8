-- The keys of the messages that an activation may have, and that those which a run tells are among them.
use Rattle.std.proofs.Common.{◌≡◌, inl, inr, ℕ, zero, suc, ◌+◌, true, false, if◌then◌else◌, Some, List, [], ◌∷◌, ◌++◌}
use Rattle.std.proofs.Common.{length, slice_get}
use Rattle.std.proofs.Common.{refl, sym, ap, subst, arith, length-append}
use Rattle.std.specs.Prelude.{sum_by}
use Rattle.std.proofs.lemmas.List.Sums.{sum_by-cons}
use Rattle.id_value.specs.List.{Among}
use Rattle.id_value.proofs.AmongLemmas.{Among-left, Among-right}
use Rattle.id_table.specs.declared.row.Region.{Region}
use Rattle.id_table.specs.declared.row.Node.{Node}
use Rattle.id_table.specs.declared.row.Node.TheVariants.{Head, LoopHead}
use Rattle.id_table.specs.Tables.{begins_block}
use Rattle.id_check.specs.Programs.{region}
use Rattle.id_instr.specs.declared.dests.Port.{Port}
use Rattle.id_instr.specs.declared.dests.Port.TheVariants.{Zero, One}
use Rattle.id_instr.specs.declared.instr.Instr.{Instr}
use Rattle.id_instr.specs.declared.instr.Op.{Op}
use Rattle.id_instr.specs.declared.instr.Op.TheVariants.{Binary, Switch, Back, Send}
use Rattle.id_instr.specs.declared.instr.Op.TheVariants.{Alloc, Address, Fetch, Store}
use Rattle.id_instr.specs.Ports.{two_ports}
use Rattle.id_instr.specs.Graph.{Parts}
use Rattle.id_tag.specs.declared.Value.{Value}
use Rattle.id_tag.specs.declared.Payload.{Payload}
use Rattle.id_tag.specs.declared.Payload.TheVariants.{Token, Read, Write}
use Rattle.id_source.specs.Sources.{Source}
use Rattle.id_build.specs.declared.arc.Form.{Form}
use Rattle.id_build.specs.Rows.{node, op_by}
use Rattle.id_build.specs.Schemas.{Makes, Numbered}
use Rattle.id_runs.specs.Activations.{Activation, activation_of, tag_in}
use Rattle.id_runs.specs.Events.{Event}
use Rattle.id_runs.specs.Keys.{Key, AtPort, ByFetch, ByStore, key_of}
use Rattle.id_laws.specs.Activations.{of_call, of_loop}
use Rattle.id_laws.specs.Topics.{Tells, Told, ToldToken, topic_at, wants}
use Rattle.id_laws.proofs.Rows.Arcs.{Does, starts, enters, constant, unary, joins, names, answers, doing, makes}
use Rattle.id_laws.proofs.Rows.Arcs.{opens, gets, varies, takes_in, moves_on, moves_name, advances, resets}
use Rattle.id_laws.proofs.Rows.Arcs.{carries, has_one, gets_last, fetches, gets_reply, stores}
use Rattle.id_laws.specs.Bounded.{messages_for, messages_at_once}
use Rattle.id_laws.proofs.Bounding.Told.{under}

true_false : true ≡ false → ⊥
true_false h = cc

-- ---- of one instruction

-- the keys of what an instruction of this number with this operator may have under an activation: of a token for each
-- port, and of the read that a fetch sends or the write of a store
abbrev pub keys_for : Activation → ℕ → Op → List Key
keys_for a n (Fetch nested r) = AtPort (tag_in a n) Zero ∷ ByFetch (tag_in a r) ∷ []
keys_for a n (Store nested) = AtPort (tag_in a n) Zero ∷ AtPort (tag_in a n) One ∷ ByStore (tag_in a n) ∷ []
keys_for a n o =
    if two_ports o then AtPort (tag_in a n) Zero ∷ AtPort (tag_in a n) One ∷ [] else AtPort (tag_in a n) Zero ∷ []

-- they are as many as there may be messages
pub keys_long : (a : Activation) (n : ℕ) (o : Op) → length (keys_for a n o) ≡ messages_for o
keys_long a n (Fetch nested r) = refl
keys_long a n (Store nested) = refl
keys_long a n _ = refl

first_key : (a : Activation) (n : ℕ) (o : Op) → Among (AtPort (tag_in a n) Zero) (keys_for a n o)
first_key a n (Fetch nested r) = inl refl
first_key a n (Store nested) = inl refl
first_key a n _ = inl refl

second_key : (a : Activation) (n : ℕ) (o : Op) → two_ports o ≡ true → Among (AtPort (tag_in a n) One) (keys_for a n o)
second_key a n (Binary f) e = inr (inl refl)
second_key a n (Switch k) e = inr (inl refl)
second_key a n (Back k) e = inr (inl refl)
second_key a n (Send k t) e = inr (inl refl)
second_key a n (Alloc nested) e = inr (inl refl)
second_key a n (Address nested) e = inr (inl refl)
second_key a n (Store nested) e = inr (inl refl)
second_key a n _ e = absurd (true_false (sym e))

-- ---- of a graph

-- the keys of instructions, which have numbers from n on
abbrev keys_from : Activation → ℕ → List Instr → List Key
keys_from a n [] = []
keys_from a n (i ∷ is) = keys_for a n i.op ++ keys_from a (suc n) is

keys_from_long : (a : Activation) (n : ℕ) (is : List Instr)
    → length (keys_from a n is) ≡ sum_by (λ (i : Instr). messages_for i.op) is
keys_from_long a n [] = refl
keys_from_long a n (i ∷ is) =
    omega (
      arith,
      length-append (keys_for a n i.op) (keys_from a (suc n) is),
      keys_long a n i.op,
      keys_from_long a (suc n) is,
      sum_by-cons (λ (j : Instr). messages_for j.op) i is,
    )

key_from : (a : Activation) (n : ℕ) (is : List Instr) (m : ℕ) (i : Instr) (k : Key) → slice_get is m ≡ Some i
    → Among k (keys_for a (m + n) i.op) → Among k (keys_from a n is)
key_from a n [] m i k at h = cc
key_from a n (j ∷ is) zero i k at h =
    let same : j ≡ i = cc in
    let start : 0 + n ≡ n = omega arith in
    Among-left k (keys_for a n j.op) (keys_from a (suc n) is)
    (subst (λ (z : ℕ × Instr). Among k (keys_for a z.0 z.1.op)) {x = (0 + n, i)} {y =
    (n, j)} (λ d. (start d, sym same d)) h)
key_from a n (j ∷ is) (suc m) i k at h =
    let next : suc m + n ≡ m + suc n = omega arith in
    Among-right k (keys_for a n j.op) (keys_from a (suc n) is)
    (key_from a (suc n) is m i k at (subst (λ z. Among k (keys_for a z i.op)) next h))

-- the keys of all instructions of a graph
abbrev pub keys_of : Parts → Activation → List Key
keys_of g a = keys_from a 0 g.instrs

pub keys_of_long : (g : Parts) (a : Activation) → length (keys_of g a) ≡ messages_at_once g
keys_of_long g a = keys_from_long a 0 g.instrs

key_at : (g : Parts) (a : Activation) (n : ℕ) (i : Instr) (k : Key) → slice_get g.instrs n ≡ Some i
    → Among k (keys_for a n i.op) → Among k (keys_of g a)
key_at g a n i k at h =
    let start : n ≡ n + 0 = omega arith in
    key_from a 0 g.instrs n i k at (subst (λ z. Among k (keys_for a z i.op)) start h)

-- ---- of what is told

module _ (S : Source) (number : ℕ → ℕ → ℕ) (run : List Event) where
  -- the first part of a head has one port
  head_alone : (a : Activation) (v : Value) (n : ℕ) (r : Region) (m : Node) → begins_block m ≡ true
      → Tells S number run a (wants S.checked n r m 0 One) v → ⊥
  head_alone a v n r Head e w = w
  head_alone a v n r (LoopHead t) e w = w
  head_alone a v n r _ e w = true_false (sym e)

  -- no part with a port alone is told of a second
  none_at : (a : Activation) (v : Value) (n part : ℕ) {m : Node} → node S.checked n ≡ m
      → (Tells S number run a (wants S.checked n (region S.checked n) m part One) v → ⊥)
      → Tells S number run a (topic_at S.checked n part One) v → ⊥
  none_at a v n part is none h =
      none (subst (λ z. Tells S number run a (wants S.checked n (region S.checked n) z part One) v) is h)

  -- what is told of a second port is for an operator that has one
  second_port : (a : Activation) (v : Value) (n part : ℕ) (o : Form) → Does S.checked n part o
      → Tells S number run a (topic_at S.checked n part One) v
      → two_ports (op_by number o) ≡ true
  second_port a v n part o (starts is) h = absurd (head_alone a v n (region S.checked n) (node S.checked n) is h)
  second_port a v n part o (enters is) h = absurd (none_at a v n 0 is (λ z. z) h)
  second_port a v n part o (constant is) h = absurd (none_at a v n 0 is (λ z. z) h)
  second_port a v n part o (unary is) h = absurd (none_at a v n 0 is (λ z. z) h)
  second_port a v n part o (joins is) h = absurd (none_at a v n 0 is (λ z. z) h)
  second_port a v n part o (opens (of_call is)) h = absurd (none_at a v n 0 is (λ z. z) h)
  second_port a v n part o (opens (of_loop is)) h = absurd (none_at a v n 0 is (λ z. z) h)
  second_port a v n part o (gets is) h = absurd (none_at a v n 0 is (λ z. z) h)
  second_port a v n part o (names is) h = absurd (none_at a v n 0 is (λ z. z) h)
  second_port a v n part o (varies is) h = absurd (none_at a v n 0 is (λ z. z) h)
  second_port a v n part o (takes_in j is less) h = absurd (none_at a v n part is (λ z. z) h)
  second_port a v n part o (moves_on is) h = absurd (none_at a v n 0 is (λ z. z) h)
  second_port a v n part o (moves_name j is less) h = absurd (none_at a v n part is (λ z. z) h)
  second_port a v n part o (advances is) h = absurd (none_at a v n 0 is (λ z. z) h)
  second_port a v n part o (resets is) h = absurd (none_at a v n 0 is (λ z. z) h)
  second_port a v n part o (gets_last is) h = absurd (none_at a v n 0 is (λ z. z) h)
  second_port a v n part o (fetches is) h = absurd (none_at a v n 1 is (λ z. z) h)
  second_port a v n part o (gets_reply is) h = absurd (none_at a v n 2 is (λ z. z) h)
  second_port a v n part o (carries is) h = absurd (none_at a v n 0 is (λ z. z) h)
  second_port a v n part o (has_one is) h = absurd (none_at a v n 3 is (λ z. z) h)
  second_port a v n part o (answers is) h = absurd (none_at a v n 0 is (λ z. z) h)
  second_port a v n part o _ h = refl

  -- so the key of a token that is told is one of its part
  pub part_key : {x : Payload} (y : ToldToken S number run x)
      → Among (AtPort (tag_in y.activation (number y.row y.part)) y.port)
      (keys_for y.activation (number y.row y.part) (op_by number (y.is_part).form))
  part_key y = by y.port y.tells
    where
      by : (p : Port) → Tells S number run y.activation (topic_at S.checked y.row y.part p) y.value
          → Among (AtPort (tag_in y.activation (number y.row y.part)) p)
          (keys_for y.activation (number y.row y.part) (op_by number (y.is_part).form))
      by Zero tells = first_key y.activation (number y.row y.part) (op_by number (y.is_part).form)
      by One tells =
          second_key y.activation (number y.row y.part) (op_by number (y.is_part).form)
          (second_port y.activation y.value y.row y.part (y.is_part).form (doing (y.is_part).makes).does tells)

  module _ (g : Parts) (numbered : Numbered S.checked g number) where
    -- a key of a part that the schemas make is among those of the graph
    made_key : (a : Activation) (n part : ℕ) (f : Form) (e : ℕ) (k : Key) → Makes S.checked n part f e
        → Among k (keys_for a (number n part) (op_by number f)) → Among k (keys_of g a)
    made_key a n part f e k made h =
        let m = numbered.made n part f e made in
        key_at g a (number n part) m.instr k m.at (subst (λ z. Among k (keys_for a (number n part) z)) (sym m.op) h)

    -- the key of what a message tells is among those of its activation
    pub told_key : (x : Payload) → Told S number run x → Among (key_of x) (keys_of g (under (key_of x)))
    told_key (Token t p v) y =
        subst (λ k. Among k (keys_of g (under k))) (sym (ap key_of y.is))
        (made_key y.activation y.row y.part _ _ _ (y.is_part).makes (part_key y))
    told_key (Read c t) y =
        subst (λ u. Among (ByFetch u) (keys_of g (activation_of u))) (sym y.is)
        (made_key y.activation y.row 1 _ _ (ByFetch (tag_in y.activation (number y.row 2)))
        (makes y.within (fetches y.node)) (inr (inl refl)))
    told_key (Write c v w) y =
        subst (λ u. Among (ByStore u) (keys_of g (activation_of u))) (sym y.is)
        (made_key y.activation y.row 0 _ _ (ByStore (tag_in y.activation (number y.row 0)))
        (makes y.within (stores y.node)) (inr (inr (inl refl))))
