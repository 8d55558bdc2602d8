-- Lists of doors as they are opened, split and joined.
use Rattle.std.proofs.Common.{◌≡◌, ◌≢◌, ℕ, zero, suc, ◌+◌, ◌-◌, ◌<◌, ◌≤◌, List, [], ◌∷◌, ◌++◌, length, take, set}
use Rattle.std.proofs.Common.{get_or, sym, refl, ap, ◌∙◌, subst, arith, ⊎_elim, add-one, length-set, length-append}
use Rattle.std.proofs.Common.{get_or-set_same, get_or-set_other}
use Rattle.std.specs.List.{sum_by}
use Rattle.std.proofs.lemmas.Bool.{cases_eq}
use Rattle.std.proofs.lemmas.Grind.{common_steps}
use Rattle.std.proofs.lemmas.List.{get_or-map, get_or-take, map_more, take_all}
use Rattle.std.proofs.lemmas.Option.{get_or_from_slice_get, slice_get-get_or}
use Rattle.std.proofs.Math.Seq.{take-append_seam}
use Rattle.std.proofs.lemmas.List.Sums.{sum_by_push, sum_by-append, sum_by-cons}
use Rattle.id_tag.specs.declared.Message.{Message}
use Rattle.id_inbox.specs.Doors.{DoorView}
use Rattle.id_inbox.specs.Hands.{both_of, kept_of, new_hand}
use Rattle.id_elements.specs.Doors.{AreUnused, HaveParts, IsCut, IsMerged, queues_of, sent_by, taken_by}
use Rattle.id_elements.proofs.DoorsLemmas.{queues_set, sent_by-set, taken_by-set}

pub sent_by-push : (f : Message → ℕ) (ds : List DoorView) (d : DoorView)
    → sent_by f (ds ++ d ∷ []) ≡ sent_by f ds + sum_by f d.hand.sent
sent_by-push f ds d = sum_by_push (λ (y : DoorView). sum_by f y.hand.sent) ds d

pub taken_by-push : (f : Message → ℕ) (ds : List DoorView) (d : DoorView)
    → taken_by f (ds ++ d ∷ []) ≡ taken_by f ds + sum_by f d.hand.taken
taken_by-push f ds d = sum_by_push (λ (y : DoorView). sum_by f y.hand.taken) ds d

pub sent_by-cons : (f : Message → ℕ) (d : DoorView) (ds : List DoorView)
    → sent_by f (d ∷ ds) ≡ sum_by f d.hand.sent + sent_by f ds
sent_by-cons f d ds = sum_by-cons (λ (y : DoorView). sum_by f y.hand.sent) d ds

pub taken_by-cons : (f : Message → ℕ) (d : DoorView) (ds : List DoorView)
    → taken_by f (d ∷ ds) ≡ sum_by f d.hand.taken + taken_by f ds
taken_by-cons f d ds = sum_by-cons (λ (y : DoorView). sum_by f y.hand.taken) d ds

-- one more door that was not used
pub unused_push : (ds : List DoorView) (d : DoorView) → AreUnused ds → d.hand.sent ≡ [] → d.hand.taken ≡ []
    → AreUnused (ds ++ d ∷ [])
unused_push ds d unused sent taken f =
    let u = unused f in
    let s = ap (sum_by f) sent in
    let t = ap (sum_by f) taken in
    (omega (arith, sent_by-push f ds d, s, u), omega (arith, taken_by-push f ds d, t, u))

pub parts_push : (n : ℕ) (ds : List DoorView) (d : DoorView) → HaveParts n ds → d.hand.parts ≡ n
    → HaveParts n (ds ++ d ∷ [])
parts_push n ds d parts mine = grind (arith, common_steps)

-- one more inbox
queues_push : (ds : List DoorView) (d : DoorView) → queues_of (ds ++ d ∷ []) ≡ queues_of ds ++ d.queue ∷ []
queues_push [] d = refl
queues_push (x ∷ xs) d = ap (λ qs. x.queue ∷ qs) (queues_push xs d)

length_queues : (xs : List DoorView) → length (queues_of xs) ≡ length xs
length_queues [] = refl
length_queues (x ∷ xs) = ap suc (length_queues xs)

-- lists of the same inboxes are as long
pub same_length : (xs ys : List DoorView) → queues_of xs ≡ queues_of ys → length xs ≡ length ys
same_length xs ys h = sym (length_queues xs) ∙ (ap length h ∙ length_queues ys)

take_less : (n : ℕ) (xs : List DoorView) → take n (take (suc n) xs) ≡ take n xs
take_less zero xs = refl
take_less (suc n) [] = refl
take_less (suc n) (x ∷ xs) = ap (λ ys. x ∷ ys) (take_less n xs)

last_is : (xs : List DoorView) (e : DoorView) → get_or (xs ++ e ∷ []) (length xs) e ≡ e
last_is xs e = grind (arith, common_steps)

-- doors that are taken in from the last on: what is left of theirs, and the doors as they are then
pub record IsMerging (old all theirs new : List DoorView) : Type 0 where
  pub within : length theirs ≤ length all
  pub rest : theirs ≡ take (length theirs) all
  pub queues : queues_of new ≡ queues_of old
  pub sent : (f : Message → ℕ) → sent_by f new + sent_by f theirs ≡ sent_by f old + sent_by f all
  pub taken : (f : Message → ℕ) → taken_by f new + taken_by f theirs ≡ taken_by f old + taken_by f all
  pub below : (j : ℕ) (d : DoorView) → j < length theirs → get_or new j d ≡ get_or old j d
  pub above : (j : ℕ) (d : DoorView) → length theirs ≤ j → j < length new
      → (get_or new j d).hand.parts ≡ (get_or old j d).hand.parts + 1

-- joining from the last door on
pub merging : (old all theirs new : List DoorView) (d e d' : DoorView)
    → queues_of all ≡ queues_of old → HaveParts 1 all → IsMerging old all (theirs ++ e ∷ []) new
    → d ≡ get_or new (length theirs) d → d' ≡ record d { hand = both_of d.hand e.hand; saw = d'.saw }
    → IsMerging old all theirs (set new (length theirs) d')
merging old all theirs new d e d' same parts m is made =
    let n : ℕ = length theirs in
    let longer : length (theirs ++ e ∷ []) ≡ n + 1 = length-append theirs (e ∷ []) in
    let rest : theirs ++ e ∷ [] ≡ take (n + 1) all = m.rest ∙ ap (λ k. take k all) longer in
    let within : n + 1 ≤ length all = subst (λ (k : ℕ). k ≤ length all) longer m.within in
    let lt : n < length new =
    (let a = same_length all old same in let b = same_length new old m.queues in omega arith) in
    let there : get_or all n e ≡ e =
    (sym (get_or-take (n + 1) all n e (omega arith)) ∙ ap (λ xs. get_or xs n e) (sym rest)) ∙ last_is theirs e in
    let one : e.hand.parts ≡ 1 = ap (λ (y : DoorView). y.hand.parts) (sym there) ∙ parts n e (omega arith) in
    record {
      within = omega arith;
      rest = sym (take-append_seam theirs (e ∷ []))
          ∙ (ap (take n) rest ∙ (ap (λ k. take n (take k all)) (add-one n) ∙ take_less n all));
      queues = queues_set new n d d' is lt (ap (λ (y : DoorView). y.queue) made) ∙ m.queues;
      sent = λ f.
          let a = sent_by-set f new n d d' is lt in
          let b : sum_by f d'.hand.sent ≡ sum_by f (d.hand.sent ++ e.hand.sent) =
          ap (λ (y : DoorView). sum_by f y.hand.sent) made in
          let c = m.sent f in
          omega (arith, a, b, c, sum_by-append f d.hand.sent e.hand.sent, sent_by-push f theirs e);
      taken = λ f.
          let a = taken_by-set f new n d d' is lt in
          let b : sum_by f d'.hand.taken ≡ sum_by f (d.hand.taken ++ e.hand.taken) =
          ap (λ (y : DoorView). sum_by f y.hand.taken) made in
          let c = m.taken f in
          omega (arith, a, b, c, sum_by-append f d.hand.taken e.hand.taken, taken_by-push f theirs e);
      below = λ j x l. let ne : j ≢ n = omega arith in rw get_or-set_other (m.below j x (omega arith));
      above = λ j x low high.
          ⊎_elim (λ (here : n ≡ j).
          let at : get_or (set new n d') n x ≡ d' = get_or-set_same new n d' x lt in
          let was : d ≡ get_or old n x =
          is ∙ (get_or_from_slice_get new n (get_or new n x) d (slice_get-get_or new n x lt)
          ∙ m.below n x (omega arith)) in
          let made' : d'.hand.parts ≡ d.hand.parts + e.hand.parts = ap (λ (y : DoorView). y.hand.parts) made in
          let was' : d.hand.parts ≡ (get_or old n x).hand.parts = ap (λ (y : DoorView). y.hand.parts) was in
          subst (λ (k : ℕ). (get_or (set new n d') k x).hand.parts ≡ (get_or old k x).hand.parts + 1) here
          (ap (λ (y : DoorView). y.hand.parts) at ∙ omega (arith, made', was', one)))
          (λ (apart : n ≢ j).
          let ne : j ≢ n = λ (q : j ≡ n). apart (sym q) in
          rw get_or-set_other (m.above j x (omega arith) (omega (arith, length-set new n d'))))
          (cases_eq n j);
    }

pub merged : (old all new : List DoorView) → IsMerging old all [] new → IsMerged old all new
merged old all new m = record {
  queues = m.queues;
  parts = λ n h k d lt. m.above k d (omega arith) lt
      ∙ ap (λ (j : ℕ). j + 1) (h k d (let e = same_length new old m.queues in omega arith));
  sent = λ f. omega (arith, m.sent f);
  taken = λ f. omega (arith, m.taken f);
}

-- doors of which the first so many were split, and the doors that were split off
pub record IsSplitting (old new theirs : List DoorView) (i : ℕ) : Type 0 where
  pub queues : queues_of new ≡ queues_of old
  pub cut : (n j : ℕ) (d : DoorView) → HaveParts n old → j < i → j < length new → (get_or new j d).hand.parts ≡ n - 1
  pub whole : (j : ℕ) (d : DoorView) → i ≤ j → get_or new j d ≡ get_or old j d
  pub sent : (f : Message → ℕ) → sent_by f new ≡ sent_by f old
  pub taken : (f : Message → ℕ) → taken_by f new ≡ taken_by f old
  pub theirs_queues : queues_of theirs ≡ queues_of (take i old)
  pub theirs_parts : HaveParts 1 theirs
  pub theirs_unused : AreUnused theirs

-- one more door was split
pub split_more : (old new theirs : List DoorView) (i : ℕ) (d d' e : DoorView) → i < length old
    → IsSplitting old new theirs i → d ≡ get_or new i d → d' ≡ record d { hand = kept_of d.hand; saw = d'.saw }
    → e ≡ record { queue = d.queue; hand = new_hand; saw = e.saw }
    → IsSplitting old (set new i d') (theirs ++ e ∷ []) (i + 1)
split_more old new theirs i d d' e lt s is cut made =
    let long : length new ≡ length old = same_length new old s.queues in
    let lt' : i < length new = omega (arith, long, lt) in
    let was : (x : DoorView) → d ≡ get_or old i x = λ x.
    is ∙ (get_or_from_slice_get new i (get_or new i x) d (slice_get-get_or new i x lt') ∙ s.whole i x (omega arith)) in
    record {
      queues = queues_set new i d d' is lt' (ap (λ (y : DoorView). y.queue) cut) ∙ s.queues;
      cut = λ n j x h low within.
          ⊎_elim (λ (here : i ≡ j).
          let at : get_or (set new i d') i x ≡ d' = get_or-set_same new i d' x lt' in
          let less : d'.hand.parts ≡ d.hand.parts - 1 = ap (λ (y : DoorView). y.hand.parts) cut in
          let all : d.hand.parts ≡ n = ap (λ (y : DoorView). y.hand.parts) (was x) ∙ h i x lt in
          subst (λ (k : ℕ). (get_or (set new i d') k x).hand.parts ≡ n - 1) here
          (ap (λ (y : DoorView). y.hand.parts) at ∙ (less ∙ ap (λ (k : ℕ). k - 1) all)))
          (λ (apart : i ≢ j).
          let ne : j ≢ i = λ (q : j ≡ i). apart (sym q) in
          rw get_or-set_other (s.cut n j x h (omega arith) (omega (arith, length-set new i d'))))
          (cases_eq i j);
      whole = λ j x high. let ne : j ≢ i = omega arith in rw get_or-set_other (s.whole j x (omega arith));
      sent = λ f.
          let a = sent_by-set f new i d d' is lt' in
          let b : sum_by f d'.hand.sent ≡ sum_by f d.hand.sent = ap (λ (y : DoorView). sum_by f y.hand.sent) cut in
          let c = s.sent f in
          omega (arith, a, b, c);
      taken = λ f.
          let a = taken_by-set f new i d d' is lt' in
          let b : sum_by f d'.hand.taken ≡ sum_by f d.hand.taken = ap (λ (y : DoorView). sum_by f y.hand.taken) cut in
          let c = s.taken f in
          omega (arith, a, b, c);
      theirs_queues =
          let q : e.queue ≡ (get_or old i d).queue =
          ap (λ (y : DoorView). y.queue) made ∙ ap (λ (y : DoorView). y.queue) (was d) in
          queues_push theirs e
          ∙ (ap (λ qs. qs ++ e.queue ∷ []) s.theirs_queues
          ∙ (ap (λ x. queues_of (take i old) ++ x ∷ []) q ∙ sym (map_more (λ (y : DoorView). y.queue) old i d lt)));
      theirs_parts = parts_push 1 theirs e s.theirs_parts (ap (λ (y : DoorView). y.hand.parts) made);
      theirs_unused = unused_push theirs e s.theirs_unused (ap (λ (y : DoorView). y.hand.sent) made)
          (ap (λ (y : DoorView). y.hand.taken) made);
    }

-- all doors were split
pub split_end : (old new theirs : List DoorView) (i : ℕ) → length old ≤ i → IsSplitting old new theirs i
    → IsCut old new × ((queues_of theirs ≡ queues_of old) × (HaveParts 1 theirs × AreUnused theirs))
split_end old new theirs i all s =
    let long : length new ≡ length old = same_length new old s.queues in (
      record {
        queues = s.queues;
        parts = λ n h k x lt. s.cut n k x h (omega (arith, long, lt, all)) lt;
        sent = s.sent;
        taken = s.taken;
      },
      (s.theirs_queues ∙ ap queues_of (take_all i old all), (s.theirs_parts, s.theirs_unused)),
    )

-- the last door of those that are left stands at its place among all
last_of : (old all theirs new : List DoorView) (e : DoorView) → IsMerging old all (theirs ++ e ∷ []) new
    → get_or all (length theirs) e ≡ e
last_of old all theirs new e m =
    let n : ℕ = length theirs in
    let rest : theirs ++ e ∷ [] ≡ take (n + 1) all = m.rest ∙ ap (λ k. take k all) (length-append theirs (e ∷ [])) in
    (sym (get_or-take (n + 1) all n e (omega arith)) ∙ ap (λ xs. get_or xs n e) (sym rest)) ∙ last_is theirs e

-- it is to the inbox of the one at its place
pub same_inbox : (old all theirs new : List DoorView) (d e : DoorView)
    → queues_of all ≡ queues_of old → IsMerging old all (theirs ++ e ∷ []) new → d ≡ get_or new (length theirs) d
    → e.queue ≡ d.queue
same_inbox old all theirs new d e same m is =
    let n : ℕ = length theirs in
    let within : n + 1 ≤ length all = subst (λ (k : ℕ). k ≤ length all) (length-append theirs (e ∷ [])) m.within in
    let a = same_length all old same in
    let b = same_length new old m.queues in
    let lt : n < length all = omega arith in
    let lt' : n < length new = omega arith in
    let theirs_is : get_or (queues_of all) n e.queue ≡ e.queue =
    get_or-map (λ (y : DoorView). y.queue) all n e e.queue lt
    ∙ ap (λ (y : DoorView). y.queue) (last_of old all theirs new e m) in
    let ours_is : get_or (queues_of new) n e.queue ≡ d.queue =
    get_or-map (λ (y : DoorView). y.queue) new n d e.queue lt' ∙ ap (λ (y : DoorView). y.queue) (sym is) in
    sym theirs_is ∙ (ap (λ qs. get_or qs n e.queue) (same ∙ sym m.queues) ∙ ours_is)

-- where each door has sent what it has taken, so have all together
pub all_empty : (f : Message → ℕ) (ds : List DoorView) (n : ℕ) → length ds ≤ n
    → ((j : ℕ) (d : DoorView) → j < n → (g : Message → ℕ)
    → sum_by g (get_or ds j d).hand.sent ≡ sum_by g (get_or ds j d).hand.taken)
    → sent_by f ds ≡ taken_by f ds
all_empty f [] n all each = refl
all_empty f (x ∷ xs) zero all each = absurd (omega arith)
all_empty f (x ∷ xs) (suc n) all each =
    let r = all_empty f xs n (omega arith) (λ j d lt g. each (suc j) d (omega arith) g) in
    let m : sum_by f x.hand.sent ≡ sum_by f x.hand.taken = each 0 x (omega arith) f in
    omega (arith, sent_by-cons f x xs, taken_by-cons f x xs, r, m)
