-- The rear of the store: what waits behind its front, in frames.
use Rattle.std.specs.Prelude.{◌≡◌, ℕ, Bool, ◌==◌, ◌&&◌, if◌then◌else◌, nat_eq, Option, Some, None}
use Rattle.std.specs.Prelude.{List, [], map, true}
use Rattle.std.specs.Prelude.{Result, Ok, Err, false, ◌≢◌, ◌∷◌, IfSome, IsTrue, is_some}
use Rattle.std.specs.declared.alloc.AllocError.{AllocError}
use Rattle.std.specs.List.{flat_map, IsDistinct}
use Rattle.std.specs.Map.{lookup, keys_of}
use Rattle.slab.specs.Slab.{Slab, ContainsKey, Updates, get}
use Rattle.id_tag.specs.declared.Tag.{Tag}
use Rattle.id_tag.specs.Plains.{whole}
use Rattle.id_tag.specs.declared.Value.{Value}
use Rattle.id_tag.specs.Tags.{same_context, same_tag}
use Rattle.id_match.specs.declared.meeting.Half.{Half}
use Rattle.id_match.specs.declared.meeting.Offered.{Offered}
use Rattle.id_match.specs.declared.meeting.Offered.TheVariants as offered
use Rattle.id_match.specs.declared.rear.Came.{Came}
use Rattle.id_match.specs.declared.rear.Came.TheVariants.{Kept, Plain, Partner, Apart}
use Rattle.id_match.specs.declared.rear.Frame.{Frame}
use Rattle.id_match.specs.declared.rear.Name.{Name}
use Rattle.id_match.specs.Halves.{answer_at, half_after}
use Rattle.id_match.specs.Waiting.{pair_of}

-- the name of a tag's frame
abbrev pub name_of : Tag → Name
name_of t = record { context = t.context; iteration = t.iteration }

-- whether two names are one
abbrev pub same_name : Name → Name → Bool
same_name m n = same_context m.context n.context && (m.iteration == n.iteration)

-- the tag of an instruction in the frame of a name
abbrev pub tag_at : Name → ℕ → Tag
tag_at n i = record { context = n.context; iteration = n.iteration; instr = i }

-- what waits in a frame, if there is one
abbrev pub halves_in : Option Frame → List (ℕ × Half)
halves_in None = []
halves_in (Some f) = f.halves.items

-- what waits in the frame with this key, if there is one
abbrev pub halves_by : Slab Frame → Option ℕ → List (ℕ × Half)
halves_by frames None = []
halves_by frames (Some key) = halves_in (get frames key)

-- what waits in the frame of a name, by instruction
abbrev pub halves_of : List (Name × ℕ) → Slab Frame → Name → List (ℕ × Half)
halves_of keys frames n = halves_by frames (lookup (same_name n) keys)

-- what waits under a tag
abbrev pub rear_half : List (Name × ℕ) → Slab Frame → Tag → Option Half
rear_half keys frames t = lookup (nat_eq t.instr) (halves_of keys frames (name_of t))

-- what waits in a frame, by tag
abbrev pub frame_entries : Name → List (ℕ × Half) → List (Tag × Half)
frame_entries n hs = map (λ h. (tag_at n h.0, h.1)) hs

-- what waits in all frames, in the order of the table
abbrev pub rear_entries : List (Name × ℕ) → Slab Frame → List (Tag × Half)
rear_entries keys frames = flat_map (λ e. frame_entries e.0 (halves_in (get frames e.1))) keys

-- each name in the table has a frame of its own, which keeps one value at most for each instruction
pub record IsFramed (keys : List (Name × ℕ)) (frames : Slab Frame) : Type 0 where
  pub unique : IsDistinct same_name (keys_of keys)
  pub held : (n : Name) (key : ℕ) → lookup (same_name n) keys ≡ Some key → ContainsKey frames key
  pub apart : (m n : Name) (key : ℕ) → lookup (same_name m) keys ≡ Some key
      → lookup (same_name n) keys ≡ Some key → same_name m n ≡ true
  pub single : (key : ℕ) → IsDistinct nat_eq (keys_of (halves_in (get frames key)))

-- o is at the instruction i in the frame q, and what p has is at each other
pub record Sets (p q : List (ℕ × Half)) (i : ℕ) (o : Option Half) : Type 0 where
  pub single : IsDistinct nat_eq (keys_of p) → IsDistinct nat_eq (keys_of q)
  pub under : IsDistinct nat_eq (keys_of p) → (j : ℕ)
      → lookup (nat_eq j) q ≡ (if i == j then o else lookup (nat_eq j) p)

-- o waits under a tag in the frames after, and under each other what waited in those before
pub record Holds (keys : List (Name × ℕ)) (frames : Slab Frame) (more : List (Name × ℕ)) (slab : Slab Frame)
    (t : Tag) (o : Option Half) : Type 0 where
  pub framed : IsFramed more slab
  pub here : rear_half more slab t ≡ o
  pub there : (u : Tag) → same_tag t u ≡ false → rear_half more slab u ≡ rear_half keys frames u

-- the answer to the half that this says, if it was offered
abbrev pub said : Came → Half → Option Offered
said Kept h = Some offered.Kept
said (Plain p) h = Some (pair_of h.port h.value (whole p))
said (Partner v) h = Some (pair_of h.port h.value v)
said Apart h = None

-- what waits under a tag after an offer with that answer, if it was offered
abbrev pub after_said : Option Offered → Half → Option Half → Option Half
after_said None h o = o
after_said (Some a) h o = half_after o h.port h.value

-- what waits under a tag after an offer with that result
abbrev pub after_came : Result Came AllocError → Half → Option Half → Option Half
after_came (Ok came) h o = after_said (said came h) h o
after_came (Err e) h o = o

-- what an offer of the half h tells of o, the half that waited under its tag
pub record Tells (came : Came) (h : Half) (short room : Bool) (o : Option Half) : Type 0 where
  pub answer : IfSome (said came h) (λ a. a ≡ answer_at o h.port h.value)
  pub taken : short ≡ false → said came h ≡ None → answer_at o h.port h.value ≡ offered.Taken
  pub plain : IsTrue short → (v : Value) → came ≢ Partner v
  pub full : room ≡ false → came ≢ Kept

-- what its result tells: an error, that nothing waited
abbrev pub TellsOf : Result Came AllocError → Half → Bool → Bool → Option Half → Type 0
TellsOf (Ok came) h short room o = Tells came h short room o
TellsOf (Err e) h short room o = o ≡ None

-- a frame in which this value alone waits stands at the key, where none stood, and every other stays
pub record MakesFrame (frames slab : Slab Frame) (key i : ℕ) (h : Half) : Type 0 where
  pub vacant : get frames key ≡ None
  pub frame : Frame
  pub only : frame.halves.items ≡ (i, h) ∷ []
  pub updates : Updates frames slab key (Some frame)

-- o is at the instruction i in the frame with this key, which keeps the rest, and every other frame stays
pub record WritesFrame (frames slab : Slab Frame) (key i : ℕ) (o : Option Half) : Type 0 where
  pub frame : Frame
  pub sets : Sets (halves_in (get frames key)) frame.halves.items i o
  pub updates : Updates frames slab key (Some frame)

-- an offer to the frame with this key comes to this result: the frame stays, or is given back where nothing waits in it
pub record IsOfferedAt (frames slab : Slab Frame) (key i : ℕ) (h : Half) (short room : Bool)
    (r : Result Came AllocError) (left : Bool) : Type 0 where
  pub tells : TellsOf r h short room (lookup (nat_eq i) (halves_in (get frames key)))
  pub frame : Option Frame
  pub sets : Sets (halves_in (get frames key)) (halves_in frame) i
      (after_came r h (lookup (nat_eq i) (halves_in (get frames key))))
  pub updates : Updates frames slab key frame
  pub stays : is_some frame ≡ (if left then false else true)

-- an offer under a tag that comes to this result leaves what it says, and tells it
pub record IsOffered (keys : List (Name × ℕ)) (frames : Slab Frame) (more : List (Name × ℕ)) (slab : Slab Frame)
    (t : Tag) (h : Half) (short room : Bool) (r : Result Came AllocError) : Type 0 where
  pub holds : Holds keys frames more slab t (after_came r h (rear_half keys frames t))
  pub tells : TellsOf r h short room (rear_half keys frames t)
