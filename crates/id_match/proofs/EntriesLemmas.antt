-- A store's entries, from those of the map that holds it.
use Rattle.std.proofs.Common.{◌≡◌, ◌+◌, ◌<◌, Bool, true, false, cond, ◌&&◌, T, List, [], ◌∷◌, ◌↔◌, map, length, get_or}
use Rattle.std.proofs.Common.{Option, Some, None, is_some, refl, sym, ◌∙◌, ap, subst, arith}
use Rattle.std.specs.FinMap.{get-entries, entries_sorted, len-entries, len, len-empty, len-insert, entries, from_entries, is_sorted, get}
use Rattle.std.specs.FinMap.Entries.{below_all}
use Rattle.std.specs.List.{IsDistinct, AllByRecursion, Contains, slice_get}
use Rattle.std.specs.List.Sorted.{IsPermutation, IsSortedByKey}
use Rattle.std.specs.Map.{lookup, keys_of}
use Rattle.std.specs.Ordering.{is_lt, is_eq, eq_by_cmp}
use Rattle.std.specs.declared.cmp.Ordering.{Ordering}
use Rattle.std.specs.declared.cmp.Ordering.TheVariants.{Less, Equal, Greater}
use Rattle.std.proofs.lemmas.List.{get_or-map, length-map}
use Rattle.std.proofs.lemmas.List.Sorted.{IsPermutation-map}
use Rattle.std.proofs.lemmas.Map.{lookup-none}
use Rattle.std.proofs.lemmas.Map.Entries.{none_past_head, place_from_lookup, lookup_from_place}
use Rattle.std.proofs.lemmas.Map.Keys.{IsDistinct-tail, IsDistinct-cons, IsDistinct-from_apart}
use Rattle.std.proofs.lemmas.Option.{slice_get_within, get_or_from_slice_get, slice_get-get_or}
use Rattle.id_instr.specs.declared.dests.Port.TheVariants.{Zero, One}
use Rattle.id_instr.specs.declared.dests.Port.{Port}
use Rattle.id_tag.specs.declared.Tag.{Tag}
use Rattle.id_tag.specs.declared.Value.{Value}
use Rattle.id_tag.specs.Tags.{tag_cmp, same_tag}
use Rattle.id_tag.proofs.SortedLemmas.{entries-from_sort}
use Rattle.id_tag.proofs.TagsLemmas.{tags_total, exact_tags, ties-same_tag, same_tag_laws, one_from_same_tag}
use Rattle.id_match.specs.declared.meeting.Half.{Half}
use Rattle.id_match.specs.declared.meeting.Entry.{Entry}
use Rattle.id_match.specs.Waiting.{Store, at_port, waits, entry_at, entries_of}
use Rattle.id_match.specs.Ports.{same_port}
use Rattle.id_match.proofs.WaitingLemmas.{get_half, find_half}

-- ---- how many

-- as many tags wait as the map has entries, which differ
pub len-from_entries : (es : List (Tag × Half)) → IsDistinct same_tag (keys_of es) → len (from_entries {R = tag_cmp} es) ≡ length es
len-from_entries [] distinct = len-empty tag_cmp Half
len-from_entries (e ∷ es) distinct =
    let absent : get (from_entries {R = tag_cmp} es) e.0 ≡ None =
    get_half es e.0 ∙ lookup-none (same_tag e.0) es (none_past_head same_tag_laws e.0 e es distinct (same_tag_laws.refl e.0)) in
    let rest = len-from_entries es (IsDistinct-tail same_tag e.0 (keys_of es) distinct) in
    len-insert tags_total (from_entries es) e.0 e.1
    ∙ ap (λ o. cond (is_some o) (len (from_entries {R = tag_cmp} es)) (len (from_entries {R = tag_cmp} es) + 1)) absent
    ∙ ap (λ n. n + 1) rest ∙ omega arith

-- ---- the entries as pairs

abbrev half_of : Entry → Tag × Half
half_of e = (e.tag, record { port = e.port; value = e.value })

half_of-entry_at : (es : List (Tag × Half)) → map half_of (map entry_at es) ≡ es
half_of-entry_at [] = refl
half_of-entry_at (e ∷ es) = ap (λ l. e ∷ l) (half_of-entry_at es)

entry_at-half_of : (fs : List Entry) → map entry_at (map half_of fs) ≡ fs
entry_at-half_of [] = refl
entry_at-half_of (e ∷ fs) = ap (λ l. e ∷ l) (entry_at-half_of fs)

-- tags that differ don't tie
apart_by_order : (t : Tag) (es : List (Tag × Half)) → AllByRecursion (λ u. same_tag t u ≡ false) (keys_of es)
    → AllByRecursion (λ u. eq_by_cmp tag_cmp t u ≡ false) (keys_of es)
apart_by_order t [] h = tt
apart_by_order t (e ∷ es) h = (ties-same_tag t e.0 ∙ h.0, apart_by_order t es h.1)

distinct_by_order : (es : List (Tag × Half)) → IsDistinct same_tag (keys_of es) → IsDistinct (eq_by_cmp tag_cmp) (keys_of es)
unfolding IsDistinct
distinct_by_order [] h = tt
distinct_by_order (e ∷ es) h = (apart_by_order e.0 es h.0, distinct_by_order es h.1)

-- what a sort by tag leaves of the entries of a map is what the store's entries are
pub entries_of-from_entries : (es : List (Tag × Half)) (fs : List Entry) → IsDistinct same_tag (keys_of es)
    → IsPermutation (map entry_at es) fs → IsSortedByKey (λ e. e.tag) tag_cmp fs → fs ≡ entries_of (from_entries es)
entries_of-from_entries es fs distinct perm sorted =
    let moved : IsPermutation es (map half_of fs) =
    subst (λ l. IsPermutation l (map half_of fs)) (half_of-entry_at es) (IsPermutation-map half_of (map entry_at es) fs perm) in
    sym (entry_at-half_of fs)
    ∙ ap (map entry_at)
    (entries-from_sort tag_cmp tags_total exact_tags (λ e. e.tag) (λ e. record { port = e.port; value = e.value })
    es fs (distinct_by_order es distinct) moved sorted)

-- ---- what is listed is what waits

not_equal : (r : Ordering) → T (is_lt r) → is_eq r ≡ false
not_equal Less h = refl
not_equal Equal h = absurd h
not_equal Greater h = absurd h

first : (a b : Bool) → T (a && b) → T a
first true b h = tt
first false b h = h

second : (a b : Bool) → T (a && b) → T b
second true b h = h
second false b h = absurd h

apart_from_below : (t : Tag) (es : List (Tag × Half)) → T (below_all tag_cmp t es) → AllByRecursion (λ u. same_tag t u ≡ false) (keys_of es)
apart_from_below t [] h = tt
apart_from_below t (e ∷ es) h =
    (sym (ties-same_tag t e.0) ∙ not_equal _ (first _ _ h), apart_from_below t es (second _ _ h))

pub distinct_from_is_sorted : (es : List (Tag × Half)) → T (is_sorted tag_cmp es) → IsDistinct same_tag (keys_of es)
distinct_from_is_sorted [] h = IsDistinct-from_apart same_tag [] (λ i j d low high. absurd (omega arith))
distinct_from_is_sorted (e ∷ es) h =
    IsDistinct-cons same_tag e.0 (keys_of es) (apart_from_below e.0 es (first _ _ h)) (distinct_from_is_sorted es (second _ _ h))

-- what a store has at a tag is what its entries have there
pub get-lookup : (s : Store) (t : Tag) → get s t ≡ lookup (same_tag t) (entries s)
get-lookup s t = get-entries s t ∙ find_half (entries s) t

one_half : (q : Port) (w : Value) (p : Port) (v : Value) → cond (same_port q p) (Some w) None ≡ Some v
    → ◌≡◌ {A = Half} (record { port = q; value = w }) (record { port = p; value = v })
one_half Zero w Zero v e = let same : w ≡ v = cc in ap (λ x. record { port = Zero; value = x }) same
one_half Zero w One v e = cc
one_half One w Zero v e = cc
one_half One w One v e = let same : w ≡ v = cc in ap (λ x. record { port = One; value = x }) same

the_half : (o : Option Half) (p : Port) (v : Value) → at_port o p ≡ Some v → o ≡ Some (record { port = p; value = v })
the_half None p v e = cc
the_half (Some h) p v e = ap Some (one_half h.port h.value p v e)

own_port : (p : Port) (v : Value) → cond (same_port p p) (Some v) None ≡ Some v
own_port Zero v = refl
own_port One v = refl

listed_from_waits : (s : Store) (e : Entry) → waits s e.tag e.port ≡ Some e.value → Contains (entries_of s) e
listed_from_waits s e waiting =
    let h : Half = record { port = e.port; value = e.value } in
    let found : lookup (same_tag e.tag) (entries s) ≡ Some h = sym (get-lookup s e.tag) ∙ the_half (get s e.tag) e.port e.value waiting in
    let place = place_from_lookup (same_tag e.tag) (entries s) h found in
    let at : slice_get (entries s) place.0 ≡ Some (e.tag, h) =
    place.2 ∙ ap (λ t. Some (t, h)) (sym (one_from_same_tag e.tag place.1 place.3)) in
    let inside : place.0 < length (entries s) = slice_get_within (entries s) place.0 (e.tag, h) at in (
      place.0,
      omega (arith, length-map (entries s) entry_at),
      get_or-map entry_at (entries s) place.0 (e.tag, h) e inside
          ∙ ap entry_at (get_or_from_slice_get (entries s) place.0 (e.tag, h) (e.tag, h) at),
    )

waits_from_listed : (s : Store) (e : Entry) → Contains (entries_of s) e → waits s e.tag e.port ≡ Some e.value
waits_from_listed s e listed =
    let inside : listed.0 < length (entries s) = omega (arith, length-map (entries s) entry_at, listed.1) in
    let at : get_or (entries s) listed.0 (half_of e) ≡ half_of e =
    ap half_of (sym (get_or-map entry_at (entries s) listed.0 (half_of e) e inside) ∙ listed.2) in
    let found : lookup (same_tag e.tag) (entries s) ≡ Some (record { port = e.port; value = e.value }) =
    lookup_from_place same_tag_laws (entries s) listed.0 e.tag (record { port = e.port; value = e.value })
    (distinct_from_is_sorted (entries s) (entries_sorted s))
    (slice_get-get_or (entries s) listed.0 (half_of e) inside ∙ ap Some at) in
    ap (λ o. at_port o e.port) (get-lookup s e.tag ∙ found) ∙ own_port e.port e.value

-- an entry is listed exactly where its value waits at its port
pub listed_iff_waits : (s : Store) (e : Entry) → Contains (entries_of s) e ↔ (waits s e.tag e.port ≡ Some e.value)
listed_iff_waits s e = (waits_from_listed s e, listed_from_waits s e)

-- a store has as many values as entries
pub length-entries_of : (s : Store) → length (entries_of s) ≡ len s
length-entries_of s = length-map (entries s) entry_at ∙ sym (len-entries s)
