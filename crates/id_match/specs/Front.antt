-- The front of the store: pairs of slots that hold what waits under tags with small numbers.
use Rattle.std.specs.Prelude.{◌≡◌, ◌≢◌, ℕ, ◌+◌, ◌-◌, ◌*◌, ◌/◌, ◌%◌, ◌^◌, ◌<◌}
use Rattle.std.specs.Prelude.{if◌then◌else◌, false}
use Rattle.std.specs.Prelude.{Option, Some, None, IsSome, List, [], ◌∷◌, ◌++◌, length, bit_and}
use Rattle.std.specs.Prelude.{slice_index_or, true, ◌==◌}
use Rattle.std.specs.Option.{option_map, option_or}
use Rattle.std.specs.List.{filter_map, flat_map}
use Rattle.std.specs.Map.{lookup}
use Rattle.id_instr.specs.declared.dests.Port.TheVariants as port
use Rattle.id_tag.specs.declared.Tag.{Tag}
use Rattle.id_tag.specs.declared.Value.{Value}
use Rattle.id_tag.specs.declared.plain.Plain.TheVariants.{Signal}
use Rattle.id_tag.specs.Plains.{whole}
use Rattle.id_tag.specs.Tags.{same_tag}
use Rattle.id_instr.specs.declared.dests.Port.{Port}
use Rattle.id_match.specs.declared.meeting.Half.{Half}
use Rattle.id_match.specs.declared.meeting.Offered.{Offered}
use Rattle.id_match.specs.declared.meeting.Entry.{Entry}
use Rattle.id_match.specs.declared.front.Pair.{Pair}
use Rattle.id_match.specs.declared.front.Slot.{Slot}
use Rattle.id_match.specs.declared.front.Behind.{Behind}
use Rattle.id_match.specs.declared.front.Behind.TheVariants.{Nothing, One, Many}
use Rattle.id_match.specs.Halves.{answer_at, half_after}

-- the value that a slot keeps, if it keeps one
abbrev pub slot_value : Slot → Option Value
slot_value s = if s.state == 0 then None else Some (whole s.value)

-- the state of a slot that keeps a value of a context of this element at this port, and the port of a slot
abbrev pub state_of : ℕ → Port → ℕ
state_of element port.Zero = element * 4 + 2
state_of element port.One = element * 4 + 3

-- the port of a slot, by its state
abbrev pub slot_port : Slot → Port
slot_port s = if s.state % 2 == 0 then port.Zero else port.One

-- what waits in a slot, and its tag
abbrev pub slot_half : Slot → Option Half
slot_half s = option_map (λ v. record { port = slot_port s; value = v }) (slot_value s)

-- the tag of a slot, by its state, its key and its instruction
abbrev pub slot_tag : Slot → Tag
slot_tag s = record {
  context = record { element = s.state / 4; serial = s.key % 2 ^ 32 };
  iteration = s.key / 2 ^ 32;
  instr = s.instr;
}

-- what waits in a slot, with its tag
abbrev pub slot_entry : Slot → Option (Tag × Half)
slot_entry s = option_map (λ h. (slot_tag s, h)) (slot_half s)

-- what waits in a slot under this tag
abbrev pub held : Slot → Tag → Option Half
held s t = if same_tag t (slot_tag s) then slot_half s else None

-- the slot that keeps nothing, with nothing behind
abbrev pub empty_slot : Slot
empty_slot = record {
  value = Signal;
  key = 0;
  instr = 0;
  state = 0;
  behind = Nothing;
}

-- what waits in a pair of slots under this tag
abbrev pub pair_half : Pair → Tag → Option Half
pair_half p t = option_or (held p.first t) (held p.second t)

-- what waits in a pair of slots, each with its tag
abbrev pub pair_entries : Pair → List (Tag × Half)
pair_entries p = filter_map slot_entry (p.first ∷ p.second ∷ [])

-- no tag has values in both slots
abbrev pub IsSingle : Pair → Type 0
IsSingle p = (t : Tag) → IsSome (held p.first t) → held p.second t ≡ None

-- the pair that keeps nothing, with nothing behind
abbrev pub empty_pair : Pair
empty_pair = record { first = empty_slot; second = empty_slot }

-- the key of a context with this serial number and an iteration, as a number of 64 bits
abbrev pub key_of : ℕ → ℕ → ℕ
key_of serial iteration = (iteration * 2 ^ 32 + serial) % 2 ^ 64

-- the place of an instruction under a key among n pairs: neighbouring instructions of an iteration stand side by side,
-- the next iteration's 41 places further, and those of a context begin where its number, scrambled, says
unfoldable pub place_in : ℕ → ℕ → ℕ → ℕ
place_in key instr n = bit_and (key * 11_400_714_817_187_610_665 % 2 ^ 64 / 2 ^ 32 + instr) (n - 1)

-- the place of a tag
abbrev pub place : Tag → ℕ → ℕ
place t n = place_in (key_of t.context.serial t.iteration) t.instr n

-- what the pairs hold, in their order
abbrev pub front_entries : List Pair → List (Tag × Half)
front_entries front = flat_map pair_entries front

-- what a front holds under a tag: it looks at one pair
abbrev pub front_half : List Pair → Tag → Option Half
front_half front t = pair_half (slice_index_or front (place t (length front)) empty_pair) t

-- a value stands at no place but its tag's, and no tag has two
pub record IsPlaced (front : List Pair) : Type 0 where
  pub places : (i : ℕ) (d : Pair) (t : Tag) → i < length front → place t (length front) ≢ i
      → pair_half (slice_index_or front i d) t ≡ None
  pub single : (i : ℕ) (d : Pair) → i < length front → IsSingle (slice_index_or front i d)

-- what a pair tells when one more comes to stand behind it
abbrev pub one_more : Behind → Behind
one_more Nothing = One
one_more One = Many
one_more Many = Many

-- what a pair tells when one of those behind it leaves
abbrev pub one_less : Behind → Behind
one_less Nothing = Nothing
one_less One = Nothing
one_less Many = Many

-- what the pair of a tag tells, in its first slot
abbrev pub mark_at : List Pair → Tag → Behind
mark_at front t = (slice_index_or front (place t (length front)) empty_pair).first.behind

-- what each pair tells is so: nothing stands behind it, or no two of the halves do, or any number
pub record IsMarked (front : List Pair) (halves : List (Tag × Half)) : Type 0 where
  pub nothing : (t : Tag) → 0 < length front → mark_at front t ≡ Nothing → lookup (same_tag t) halves ≡ None
  pub one : (t u : Tag) → 0 < length front → mark_at front t ≡ One
      → place u (length front) ≡ place t (length front)
      → IsSome (lookup (same_tag t) halves) → IsSome (lookup (same_tag u) halves) → same_tag t u ≡ true

-- two fronts tell the same of what stands behind
pub record MarksSame (f m : List Pair) : Type 0 where
  pub len : length m ≡ length f
  pub at : (t : Tag) → mark_at m t ≡ mark_at f t

-- two fronts hold the same
pub record HoldsSame (f m : List Pair) : Type 0 where
  pub placed : IsPlaced f → IsPlaced m
  pub under : (t : Tag) → front_half m t ≡ front_half f t

-- the same halves wait, but under this tag
abbrev pub OthersSame : Tag → List (Tag × Half) → List (Tag × Half) → Type 0
OthersSame t es fs = (u : Tag) → same_tag t u ≡ false → lookup (same_tag u) fs ≡ lookup (same_tag u) es

-- each tag's value stands in its place of the front, or among the halves, and never in both, and pairs tell of these
pub record IsKept (front : List Pair) (halves : List (Tag × Half)) : Type 0 where
  pub placed : IsPlaced front
  pub apart : (t : Tag) (h : Half) → front_half front t ≡ Some h → lookup (same_tag t) halves ≡ None
  pub marked : IsMarked front halves

-- o is under t in the pair q, and what p has is under each other tag
pub record PutsIn (p q : Pair) (t : Tag) (o : Option Half) : Type 0 where
  pub single : IsSingle p → IsSingle q
  pub under : (u : Tag) → pair_half q u ≡ (if same_tag t u then o else pair_half p u)

-- an offer to the pair p, which comes to the answer a and to the pair q
pub record MeetsIn (p q : Pair) (t : Tag) (port : Port) (v : Value) (a : Offered) : Type 0 where
  pub answer : a ≡ answer_at (pair_half p t) port v
  pub after : PutsIn p q t (half_after (pair_half p t) port v)

-- o is under t in the front m, and what f has is under each other tag
pub record Puts (f m : List Pair) (t : Tag) (o : Option Half) : Type 0 where
  pub placed : IsPlaced f → IsPlaced m
  pub under : (u : Tag) → front_half m u ≡ (if same_tag t u then o else front_half f u)

-- an offer to the front f, which comes to the answer a and to the front m
pub record Meets (f m : List Pair) (t : Tag) (p : Port) (v : Value) (a : Offered) : Type 0 where
  pub answer : a ≡ answer_at (front_half f t) p v
  pub after : Puts f m t (half_after (front_half f t) p v)

-- what all of the store holds
abbrev pub all_entries : List Pair → List (Tag × Half) → List (Tag × Half)
all_entries front halves = front_entries front ++ halves

-- the half of an entry, with its tag
abbrev pub half_entry : Entry → Tag × Half
half_entry e = (e.tag, record { port = e.port; value = e.value })
