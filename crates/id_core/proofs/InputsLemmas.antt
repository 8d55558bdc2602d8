-- Lemmas on the inputs that a machine starts with (specs/Machines.antt).
use Rattle.std.proofs.Common.{zero, suc, ◌≡◌, ℕ, ◌+◌, ◌<◌, List, [], ◌∷◌, ◌++◌, length, take, get_or, refl, ap, ◌∙◌}
use Rattle.std.proofs.Common.{arith}
use Rattle.std.specs.Prelude.{All}
use Rattle.std.proofs.lemmas.List.Elements.{All-nil, All-cons}
use Rattle.id_instr.specs.declared.dests.Port.TheVariants.{Zero}
use Rattle.id_instr.specs.declared.instr.Op.TheVariants.{Merge}
use Rattle.id_instr.specs.Graph.{Parts}
use Rattle.id_value.specs.declared.Constant.{Constant}
use Rattle.id_value.specs.declared.Constant.TheVariants as constant
use Rattle.id_ops.specs.Operators.{constant_value}
use Rattle.id_tag.specs.declared.Value.{Value}
use Rattle.id_tag.specs.declared.Payload.TheVariants.{Token}
use Rattle.id_tag.specs.declared.Message.{Message}
use Rattle.id_tag.specs.Kinds.{kind_of}
use Rattle.id_step.specs.Fits.{Fits, TokenFits, AddressFits, ContinuationFits}
use Rattle.id_observe.specs.Observed.{main_tag}
use Rattle.id_core.specs.Machines.{start_message, input_messages, AreTaken}
use Rattle.id_step.proofs.SentLemmas.{kind_at_op}

-- the message that brings this value to the entry of this number, with its number
abbrev pub input_message : ℕ → ℕ → Value → Message
input_message k n v = start_message k (Token (main_tag n) Zero v)

-- one more entry has one more message, with the next number
pub input_messages-more : (k : ℕ) (ns : List ℕ) (vs : List Constant) (i : ℕ) (d : ℕ) (e : Constant) → i < length ns
    → i < length vs
    → input_messages k (take (i + 1) ns) vs ≡ input_messages k (take i ns) vs
    ++ input_message (i + k) (get_or ns i d) (constant_value (get_or vs i e)) ∷ []
input_messages-more k [] vs i d e lt within = let no : ⊥ = omega (arith, lt) in absurd no
input_messages-more k (n ∷ ns) [] i d e lt within = let no : ⊥ = omega (arith, within) in absurd no
input_messages-more k (n ∷ ns) (v ∷ vs) zero d e lt within =
    let first : k ≡ 0 + k = omega arith in
    ap (λ j. input_message j n (constant_value v) ∷ []) first
input_messages-more k (n ∷ ns) (v ∷ vs) (suc i) d e lt within =
    let longer : suc i + 1 ≡ suc (i + 1) = omega arith in
    let next : i + suc k ≡ suc i + k = omega arith in
    let rest = input_messages-more (suc k) ns vs i d e (omega (arith, lt)) (omega (arith, within)) in
    ap (λ j. input_messages k (take j (n ∷ ns)) (v ∷ vs)) longer
    ∙ ap (λ ms. input_message k n (constant_value v) ∷ ms)
    (rest ∙ ap (λ j. input_messages (suc k) (take i ns) vs
    ++ input_message j (get_or ns i d) (constant_value (get_or vs i e)) ∷ []) next)

-- the same, for the message as it was made
pub input_messages-add : (k : ℕ) (ns : List ℕ) (vs : List Constant) (i d : ℕ) (e : Constant) (v : Value) (m : Message)
    → i < length ns → length ns ≡ length vs → v ≡ constant_value (get_or vs i e)
    → m ≡ input_message (i + k) (get_or ns i d) v
    → input_messages k (take (i + 1) ns) vs ≡ input_messages k (take i ns) vs ++ m ∷ []
input_messages-add k ns vs i d e v m lt same is made =
    rw (made, is) (input_messages-more k ns vs i d e lt (omega (arith, lt, same)))

-- there are as many inputs as entries that take them
pub length-taken : (g : Parts) (ns : List ℕ) (vs : List Constant) → AreTaken g ns vs → length ns ≡ length vs
length-taken g [] [] taken = refl
length-taken g [] (v ∷ vs) taken = absurd taken
length-taken g (n ∷ ns) [] taken = absurd taken
length-taken g (n ∷ ns) (v ∷ vs) taken = ap (λ l. suc l) (length-taken g ns vs taken.1)

-- an input is no continuation
no_continuation : (g : Parts) (n : ℕ) (v : Constant) → ContinuationFits g 0 (main_tag n) Zero (constant_value v)
no_continuation g n (constant.Int x) = tt
no_continuation g n (constant.Bool b) = tt

-- and no address
no_address : (v : Constant) → AddressFits (constant_value v)
no_address (constant.Int x) = tt
no_address (constant.Bool b) = tt

-- what brings inputs to entries that take them fits the graph
pub inputs_fit : (g : Parts) (k : ℕ) (ns : List ℕ) (vs : List Constant) → AreTaken g ns vs
    → All (Fits g) (input_messages k ns vs)
inputs_fit g k [] vs taken = All-nil (Fits g)
inputs_fit g k (n ∷ ns) [] taken = absurd taken
inputs_fit g k (n ∷ ns) (v ∷ vs) taken =
    let first : TokenFits g 0 (main_tag n) Zero (constant_value v) = record {
      kind = kind_at_op g n Zero (Merge (kind_of (constant_value v))) taken.0;
      in_time = omega arith;
      continuation = no_continuation g n v;
      address = no_address v;
    } in
    All-cons (Fits g) (input_message k n (constant_value v)) (input_messages (suc k) ns vs) first
    (inputs_fit g (suc k) ns vs taken.1)
