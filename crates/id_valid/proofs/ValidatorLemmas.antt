-- Lemmas on specs/Validator.antt, in the order of its definitions.
use Rattle.std.proofs.Common.{◌≡◌, ◌==◌, ℕ, ◌≤◌, ◌<◌, Bool, ◌||◌, cond, true, false, Option, Some, None, length, List, [], ◌∷◌, filter, arith, refl, inl, inr}
use Rattle.std.specs.Option.{option_and_then}
use Rattle.std.specs.List.{list_any}
use Rattle.std.proofs.lemmas.Bool.{cases_lt}
use Rattle.std.proofs.lemmas.Bool.Decides.{nat_tests}
use Rattle.id_instr.specs.declared.instr.Block.{Block}
use Rattle.id_instr.specs.declared.instr.PortKind.{PortKind}
use Rattle.id_instr.specs.declared.instr.Op.{Op}
use Rattle.id_instr.specs.declared.instr.Op.TheVariants.{Const, Unary, Binary, Merge, Switch, Back, Enter, Send, Next, Reset, Alloc, Address, Fetch, Store}
use Rattle.id_instr.specs.Held.{held_kind}
use Rattle.id_instr.specs.Graph.{Parts}
use Rattle.id_valid.specs.Roles.{op_at, back_kind, IsMain}
use Rattle.id_valid.specs.Validator.{IsAnswer, IsEntered, IsSentTo, IsSound, IsValid, FirstFaulty, IsMainBlock}
use Rattle.id_valid.specs.Past.{FirstPast}

-- an instruction with the kind of a `back` is one
pub back_kind-some : (o : Option Op) (k : PortKind) → option_and_then back_kind o ≡ Some k → o ≡ Some (Back k)
back_kind-some None k e = cc
back_kind-some (Some (Back j)) k e = cc
back_kind-some (Some (Const v)) k e = cc
back_kind-some (Some (Unary f)) k e = cc
back_kind-some (Some (Binary f)) k e = cc
back_kind-some (Some (Merge j)) k e = cc
back_kind-some (Some (Switch j)) k e = cc
back_kind-some (Some (Enter b r)) k e = cc
back_kind-some (Some (Send j t)) k e = cc
back_kind-some (Some (Next j)) k e = cc
back_kind-some (Some (Reset j)) k e = cc
back_kind-some (Some (Alloc nested)) k e = cc
back_kind-some (Some (Address nested)) k e = cc
back_kind-some (Some (Fetch nested r)) k e = cc
back_kind-some (Some (Store nested)) k e = cc

-- a number equals itself
same_number : (n : ℕ) → (n == n) ≡ true
same_number n = grind (arith, nat_tests)

-- a choice of which the second is true
later_true : (a : Bool) {b : Bool} → b ≡ true → (a || b) ≡ true
later_true true e = refl
later_true false e = e

-- a block that a filter keeps is one of the blocks
pub is_first-filter : (p : Block → Bool) (bs : List Block) (b : Block) → filter p bs ≡ b ∷ [] → list_any (λ x. x.first == b.first) bs ≡ true
is_first-filter p [] b e = cc
is_first-filter p (x ∷ bs) b e =
    let rest = is_first-filter p bs b
    in elim (p x) as (λ t. cond t (x ∷ filter p bs) (filter p bs) ≡ b ∷ [] → (x.first == b.first || list_any (λ y. y.first == b.first) bs) ≡ true) [
      | true ↦ λ kept.
          let same : x ≡ b = cc
          in let here : (x.first == b.first) ≡ true = rw same (same_number b.first)
          in rw here refl
      | false ↦ λ kept. later_true (x.first == b.first) (rest kept)
    ] e

-- the main block of a valid graph has what its instructions ask for
pub IsMainBlock-valid : (g : Parts) (b : Block) → IsValid g → IsMain g b → IsMainBlock g b
IsMainBlock-valid g b valid main =
    let answer : IsAnswer g = (valid.sound 0).answer refl
    in let same : b ≡ answer.block = cc (main, answer.main)
    in record {
      kind = answer.kind;
      trigger = (valid.sound b.first).roles.first (is_first-filter _ _ b main);
      back = back_kind-some _ _ (rw same answer.result);
      answer = answer.merge;
      value = answer.value;
    }

-- an `enter` of a valid graph names a block, and a merge for that block's result
pub IsEntered-valid : (g : Parts) (n b r : ℕ) → IsValid g → op_at g n ≡ Some (Enter b r) → IsEntered g b r
IsEntered-valid g n b r valid here = (valid.sound n).named (Enter b r) here

-- a `send` of a valid graph names an entry of its kind
pub IsSentTo-valid : (g : Parts) (n : ℕ) (k : PortKind) (t : ℕ) → IsValid g → op_at g n ≡ Some (Send k t) → IsSentTo g k t
IsSentTo-valid g n k t valid here = (valid.sound n).named (Send k t) here

-- a `fetch` of a valid graph names a merge for what the cells hold
pub IsReply-valid : (g : Parts) (n : ℕ) (nested : Bool) (r : ℕ) → IsValid g → op_at g n ≡ Some (Fetch nested r)
    → op_at g r ≡ Some (Merge (held_kind nested))
IsReply-valid g n nested r valid here = (valid.sound n).named (Fetch nested r) here

-- where all instructions up to the end are sound, the first faulty one is the first past the end
pub FirstFaulty-past : (g : Parts) (i : ℕ) (o : Option ℕ) → length g.instrs ≤ i → ((n : ℕ) → n < i → IsSound g n) → FirstPast g o → FirstFaulty g o
FirstFaulty-past g i None end below past =
    record { sound = λ n. elim (cases_lt n i) [ inl lt ↦ below n lt | inr ge ↦ past.sound n (omega arith) ] }
FirstFaulty-past g i (Some f) end below past = record {
  faulty = past.faulty;
  before = λ n lt. elim (cases_lt n i) [ inl lt' ↦ below n lt' | inr ge ↦ past.before n (omega arith) lt ];
}
