-- What a token for a part tells.
use Rattle.std.proofs.Common.{◌≡◌, ℕ, List, sym, ap, subst}
use Rattle.id_check.specs.declared.checked.Checked.{Checked}
use Rattle.id_instr.specs.declared.dests.Port.{Port}
use Rattle.id_instr.specs.Graph.{Parts}
use Rattle.id_tag.specs.declared.Tag.{Tag}
use Rattle.id_tag.specs.declared.Value.{Value}
use Rattle.id_tag.specs.declared.Payload.TheVariants.{Token}
use Rattle.id_source.specs.Sources.{Source}
use Rattle.id_build.specs.Schemas.{Numbered}
use Rattle.id_runs.specs.Activations.{Activation, tag_in, activation_of}
use Rattle.id_runs.specs.Events.{Event}
use Rattle.id_laws.specs.Topics.{IsPart, Tells, Told, topic_at}

-- the tag, the port and the value of a token
pub token_is : {t u : Tag} {p q : Port} {v w : Value} → Token t p v ≡ Token u q w → (t ≡ u) × ((p ≡ q) × (v ≡ w))
token_is h = (cc, (cc, cc))

-- parts with one number are one
pub one_part : {P : Checked} {g : Parts} {number : ℕ → ℕ → ℕ} {n k n' k' : ℕ} → Numbered P g number → IsPart P n k
    → IsPart P n' k' → number n k ≡ number n' k' → (n ≡ n') × (k ≡ k')
one_part {n = n} {k = k} {n' = n'} {k' = k'} numbered x y e =
    numbered.apart n k n' k' x.form y.form x.place y.place x.makes y.makes e

-- the activation and the number of a tag
pub same_activation : (a a' : Activation) (m n : ℕ) → tag_in a m ≡ tag_in a' n → a ≡ a'
same_activation a a' m n e = ap activation_of e

pub same_number : (a a' : Activation) (m n : ℕ) → tag_in a m ≡ tag_in a' n → m ≡ n
same_number a a' m n e = ap (λ (t : Tag). t.instr) e

-- a token for a part tells what the part's port wants
pub told_at : (S : Source) (g : Parts) (number : ℕ → ℕ → ℕ) (run : List Event) → Numbered S.checked g number
    → (a : Activation) (n k : ℕ) (p : Port) (v : Value) → IsPart S.checked n k
    → Told S number run (Token (tag_in a (number n k)) p v) → Tells S number run a (topic_at S.checked n k p) v
told_at S g number run numbered a n k p v part x =
    let parts = token_is x.is in
    let tags = parts.0 in
    let at = one_part numbered part x.is_part (same_number a x.activation (number n k) (number x.row x.part) tags) in
    let acts = same_activation a x.activation (number n k) (number x.row x.part) tags in
    let ports : p ≡ x.port = parts.1.0 in
    let values : v ≡ x.value = parts.1.1 in
    subst (λ (z : Activation × (ℕ × (ℕ × (Port × Value)))). Tells S number run z.0
    (topic_at S.checked z.1.0 z.1.1.0 z.1.1.1.0) z.1.1.1.1)
    {x = (x.activation, (x.row, (x.part, (x.port, x.value))))} {y = (a, (n, (k, (p, v))))}
    (λ i. (sym acts i, (sym at.0 i, (sym at.1 i, (sym ports i, sym values i))))) x.tells
