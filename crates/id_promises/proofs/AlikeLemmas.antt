-- Lemmas on specs/Alike.antt: two quiet runs of one source show the same, and what is shown has one order, so they are
-- printed alike.
use Rattle.std.proofs.Common.{◌≡◌, ℕ, Bool, true, false, List, [], Ordering, map, refl, sym, ap, ◌∙◌, arith}
use Rattle.std.specs.Prelude.{IsPermutation, IsTrue, Some, slice_get}
use Rattle.std.proofs.lemmas.List.Sorted.{IsPermutation-append, IsPermutation-map}
use Rattle.id_instr.specs.Graph.{Parts}
use Rattle.id_value.specs.List.{Among}
use Rattle.id_source.specs.declared.Ask.{Ask}
use Rattle.id_source.specs.declared.NameValue.{NameValue}
use Rattle.id_source.specs.declared.SourceFault.{SourceFault}
use Rattle.id_source.specs.Orders.{Rises}
use Rattle.id_source.specs.Sources.{AreInputs, Source}
use Rattle.id_core.specs.Machines.{IsQuiet, World}
use Rattle.id_core.specs.Observed as shown
use Rattle.id_laws.specs.Laws.{IsSound, Soundness}
use Rattle.id_laws.specs.Determinate.{Determinate, IsDeterminate, RunOf, ShowTheSame, end_of}
use Rattle.id_print.specs.declared.helds.Held.{Held}
use Rattle.id_print.specs.declared.helds.Held.TheVariants.{Array, Cell}
use Rattle.id_print.specs.Names.{AreApartBy, HeldBefore, IsOrderOf, IsSortedOf, WaitBefore}
use Rattle.id_print.specs.Reports.{asked}
use Rattle.id_print.specs.Texts.{quiet_text}
use Rattle.id_print.proofs.NamesLemmas.{Rises-sorted, Tells, asks_told, helds_told, names_told}
use Rattle.id_promises.specs.Alike.{ArePrintedAlike, PrintedAlike}
use Rattle.id_engine.specs.Runs.{Ends, held_of}
use Rattle.id_observe.proofs.FirstsLemmas.{first_is_shown}
use Rattle.id_core.specs.Firsts.{IsFirstFault}
use Rattle.id_engine.specs.Runs.Ends.{fault, quiet, stopped}
use Rattle.id_engine.proofs.HeldLemmas.{AreApartBy-held, AreApartBy-waiting}
use Rattle.id_engine.proofs.NamesLemmas.{AreApart-sound, among_permuted, among_sorted}
use Rattle.id_promises.proofs.RisingLemmas.{IsStrict-told, one_list}

module _ {A : Type 0} (c : A → A → Ordering) (B C : A → A → Type 0) (t : Tells c B C) where
  -- two lists that rise by an order that a comparison tells and have the same members are one
  pub rising_same : (xs ys : List A) → Rises B xs → Rises B ys → ((x : A) → Among x xs → Among x ys)
      → ((x : A) → Among x ys → Among x xs) → xs ≡ ys
  rising_same = one_list B (IsStrict-told c B C t)

  -- what is put in order from the same things, which are apart, is one list
  pub order_same : (xs ys us vs : List A) → IsOrderOf B xs us → IsOrderOf B ys vs → AreApartBy C us → AreApartBy C vs
      → IsPermutation us vs → xs ≡ ys
  order_same xs ys us vs h k apart split moved =
      rising_same xs ys (Rises-sorted c B C t xs us h apart) (Rises-sorted c B C t ys vs k split)
      (λ x l. among_permuted vs ys x k.same (among_permuted us vs x moved (among_sorted us xs x h.same l)))
      (λ x l. among_permuted us xs x h.same (among_sorted us vs x moved (among_sorted vs ys x k.same l)))

-- how a quiet run is printed
pub record IsQuietly (g : Parts) (w : World) (text : List ℕ) (b : Bool) (bytes : List ℕ) : Type 0 where
  pub names : List NameValue
  pub helds : List Held
  pub waits : List Ask
  pub still : IsQuiet w
  pub sorted : IsTrue b → IsSortedOf names (shown.names g w)
  pub held : IsOrderOf HeldBefore helds (held_of g w)
  pub waiting : IsOrderOf WaitBefore waits (shown.waiting g w)
  pub is : bytes ≡ quiet_text text (shown.answer g w) (asked b names) helds waits

module _ (g : Parts) (count steps : ℕ) (w : World) (text : List ℕ) (b : Bool) where
  pub quietly : (status : ℕ) (bytes : List ℕ) → status ≡ 0 → Ends g count steps w text b status bytes
      → IsQuietly g w text b bytes
  quietly _ _ e (quiet ns hs waits still sorted held waiting) =
      record {
        names = ns;
        helds = hs;
        waits = waits;
        still = still;
        sorted = sorted;
        held = held;
        waiting = waiting;
        is = refl;
      }
  quietly _ _ e (fault f first) = absurd (omega (arith, e))
  quietly _ _ e (stopped ns hs none left all sorted held) = absurd (omega (arith, e))

  -- a run that ends at a fault shows it
  pub at_fault : (status : ℕ) (bytes : List ℕ) → status ≡ 1 → Ends g count steps w text b status bytes
      → (f : SourceFault) × IsFirstFault g w.elements f
  at_fault _ _ e (quiet ns hs waits still sorted held waiting) = absurd (omega (arith, e))
  at_fault _ _ e (fault f first) = (f, first)
  at_fault _ _ e (stopped ns hs none left all sorted held) = absurd (omega (arith, e))

-- what stands in a list is not in an empty one
pub no_one : {A : Type 0} (xs : List A) (x : A) (i : ℕ) → xs ≡ [] → slice_get xs i ≡ Some x → ⊥
no_one xs x i none at = at_none (sym (ap (λ ys. slice_get ys i) none) ∙ at)
  where
    at_none : slice_get [] i ≡ Some x → ⊥
    at_none h = cc

-- names are the same where they are asked for, and else none
asked_same : (b : Bool) (ns ms : List NameValue) → (IsTrue b → ns ≡ ms) → asked b ns ≡ asked b ms
asked_same true ns ms h = h refl
asked_same false ns ms h = refl

module _ (S : Source) (inputs : AreInputs S.checked S.inputs) (sound : Soundness) (d : IsDeterminate S) (text : List ℕ)
    (b : Bool) where
  sound_end : (r : RunOf S) → IsSound S r.graph r.schemas.number (end_of S r)
  sound_end r = sound S r.graph r.count r.positions inputs r.schemas

  same_printed : (r q : RunOf S) (xs ys : List ℕ) → IsQuietly r.graph (end_of S r) text b xs →
      IsQuietly q.graph (end_of S q) text b ys → xs ≡ ys
  same_printed r q xs ys h k = h.is ∙ same_text ∙ sym k.is
    where
      same : ShowTheSame S r q
      same = d.same r q h.still k.still

      same_names : asked b h.names ≡ asked b k.names
      same_names =
          asked_same b h.names k.names
          (λ yes. order_same _ _ _ names_told h.names k.names _ _ (h.sorted yes) (k.sorted yes)
          (AreApart-sound S r.graph r.schemas.number (end_of S r) (sound_end r))
          (AreApart-sound S q.graph q.schemas.number (end_of S q) (sound_end q))
          same.names)

      same_helds : h.helds ≡ k.helds
      same_helds = order_same _ _ _ helds_told h.helds k.helds _ _ h.held k.held
          (AreApartBy-held S r.graph r.schemas.number (end_of S r) (sound_end r))
          (AreApartBy-held S q.graph q.schemas.number (end_of S q) (sound_end q))
          (IsPermutation-append (map Array (shown.structures r.graph (end_of S r)))
          (map Array (shown.structures q.graph (end_of S q)))
          (map Cell (shown.cell_values r.graph (end_of S r))) (map Cell (shown.cell_values q.graph (end_of S q)))
          (IsPermutation-map Array _ _ same.structures)
          (IsPermutation-map Cell _ _ (IsPermutation-map shown.cell_value _ _ same.cells)))

      same_waits : h.waits ≡ k.waits
      same_waits = order_same _ _ _ asks_told h.waits k.waits _ _ h.waiting k.waiting
          (AreApartBy-waiting S r.graph r.schemas.number (end_of S r) (sound_end r))
          (AreApartBy-waiting S q.graph q.schemas.number (end_of S q) (sound_end q)) same.waiting

      same_text : quiet_text text (shown.answer r.graph (end_of S r)) (asked b h.names) h.helds h.waits
          ≡ quiet_text text (shown.answer q.graph (end_of S q)) (asked b k.names) k.helds k.waits
      same_text = λ i. quiet_text text (same.answer i) (same_names i) (same_helds i) (same_waits i)

  not_at_fault : (r q : RunOf S) (xs : List ℕ) (f : SourceFault) → IsQuietly r.graph (end_of S r) text b xs
      → IsFirstFault q.graph (end_of S q).elements f → ⊥
  not_at_fault r q xs f h first =
      let there = first_is_shown q.graph (end_of S q).elements f first in
      no_one (shown.faults q.graph (end_of S q)) f there.0 (d.no_fault r q h.still) there.1

  printed_alike : ArePrintedAlike S text b
  printed_alike = record {
    same = λ r q m n xs ys h k. same_printed r q xs ys
        (quietly r.graph r.count m (end_of S r) text b 0 xs refl h)
        (quietly q.graph q.count n (end_of S q) text b 0 ys refl k);
    no_fault = λ r q m n xs ys h k.
        let at = at_fault q.graph q.count n (end_of S q) text b 1 ys refl k in
        not_at_fault r q xs at.0 (quietly r.graph r.count m (end_of S r) text b 0 xs refl h) at.1;
  }

pub PrintedAlike-laws : Soundness → Determinate → PrintedAlike
PrintedAlike-laws sound determinate = λ S inputs text b. printed_alike S inputs sound (determinate S inputs) text b
