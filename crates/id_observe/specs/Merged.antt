-- Records merged into one list of events (docs/MACHINE.md, "The record").
use Rattle.std.specs.Prelude.{zero, suc, nat_lt, if◌then◌else◌, ◌≡◌, ℕ, ◌<◌, ◌≤◌, List, []}
use Rattle.std.specs.Prelude.{◌∷◌, Option, None, Some}
use Rattle.std.specs.Prelude.{MatchOption, option_map, option_and_then, slice_get}
use Rattle.std.specs.List.{AllByRecursion, filter_map, flat_map}
use Rattle.std.specs.List.Sorted.{IsPermutation, IsStrictlySortedBy}
use Rattle.std.specs.Ordering.{nat_cmp, ordering_then}
use Rattle.std.specs.declared.cmp.Ordering.{Ordering}
use Rattle.id_observe.specs.declared.merge.Place.{Place}
use Rattle.id_observe.specs.declared.merge.Head.{Head}
use Rattle.id_observe.specs.declared.merge.Candidate.{Candidate}
use Rattle.id_record.specs.Events.{EventView}

-- the order of events: by stamp, and at one stamp by element
abbrev pub by_moment : EventView → EventView → Ordering
by_moment x y = ordering_then (nat_cmp x.stamp y.stamp) (nat_cmp x.element y.element)

-- the event at a place of these records, if there is one
abbrev pub event_at_place : List (List EventView) → Place → Option EventView
event_at_place records p = option_and_then (λ r. slice_get r p.position) (slice_get records p.index)

-- the events at these places
abbrev pub events_at : List (List EventView) → List Place → List EventView
events_at records places = filter_map (event_at_place records) places

-- there is an event at the place
abbrev pub IsPlace : List (List EventView) → Place → Type 0
IsPlace records p = (e : EventView) × (event_at_place records p ≡ Some e)

-- the events at these places are all events of the records, in order
pub record IsMerge (records : List (List EventView)) (at : List Place) : Type 0 where
  pub places : AllByRecursion (IsPlace records) at
  pub all : IsPermutation (flat_map (λ r. r) records) (events_at records at)
  pub sorted : IsStrictlySortedBy by_moment (events_at records at)

-- how far a record is merged, where its events up to a position are
abbrev pub head_of : List EventView → ℕ → Head
head_of events position = record { position = position; stamp = option_map (λ e. e.stamp) (slice_get events position) }

-- the element of the event is below those of all events of these records
abbrev pub IsBelow : List (List EventView) → EventView → Type 0
IsBelow records x = AllByRecursion (λ r. AllByRecursion (λ y. x.element < y.element) r) records

-- each record is in order, and the elements rise from record to record
abbrev pub AreRecords : List (List EventView) → Type 0
AreRecords [] = Unit {0}
AreRecords (r ∷ rs) = IsStrictlySortedBy by_moment r × AllByRecursion (IsBelow rs) r × AreRecords rs

-- the head's stamp, if it has one, is above this one
abbrev pub IsAfter : ℕ → Head → Type 0
IsAfter s h = MatchOption h.stamp (Unit {0}) (λ t. s < t)

-- the head's stamp, if it has one, is at least this one
abbrev pub IsFrom : ℕ → Head → Type 0
IsFrom s h = MatchOption h.stamp (Unit {0}) (λ t. s ≤ t)

-- this stamp is the least one, and the head at the position is the first that has it
abbrev pub IsEarliest : List Head → ℕ → ℕ → Type 0
IsEarliest [] s k = ⊥
IsEarliest (h ∷ hs) s zero = (h.stamp ≡ Some s) × AllByRecursion (IsFrom s) hs
IsEarliest (h ∷ hs) s (suc k) = IsAfter s h × IsEarliest hs s k

-- all records are merged
abbrev pub AreMerged : List Head → Type 0
AreMerged heads = AllByRecursion (λ h. h.stamp ≡ None) heads

-- the candidate, or the head at this position where its stamp is lower
abbrev pub earlier_of : Option Candidate → ℕ → Option ℕ → Option Candidate
earlier_of first k None = first
earlier_of None k (Some s) = Some (record { index = k; stamp = s })
earlier_of (Some c) k (Some s) = if nat_lt s c.stamp then Some (record { index = k; stamp = s }) else Some c
