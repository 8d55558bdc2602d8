-- Lemmas on what pairs tell of what stands behind them.
use Rattle.std.proofs.Common.{◌≡◌, ◌≢◌, ℕ, ◌+◌, ◌<◌, Bool, true, false, cond, nat_eq, List, [], ◌∷◌, ◌++◌, length}
use Rattle.std.proofs.Common.{map, get_or, set, take, Option, Some, None, IsSome, refl, sym, ◌∙◌, ap, subst, arith}
use Rattle.std.specs.Map.{lookup}
use Rattle.std.specs.Option.{option_or}
use Rattle.std.proofs.lemmas.Bool.Decides.{nat_tests}
use Rattle.std.proofs.lemmas.List.{take_more, length-set, get_or-set_same, get_or-set_other}
use Rattle.id_tag.specs.declared.Tag.{Tag}
use Rattle.id_tag.specs.Tags.{same_tag}
use Rattle.id_tag.proofs.TagsLemmas.{same_tag_laws, one_from_same_tag}
use Rattle.id_match.specs.declared.meeting.Entry.{Entry}
use Rattle.id_match.specs.declared.meeting.Half.{Half}
use Rattle.id_match.specs.declared.front.Pair.{Pair}
use Rattle.id_match.specs.declared.front.Behind.{Behind}
use Rattle.id_match.specs.declared.front.Behind.TheVariants.{Nothing, One, Many}
use Rattle.id_match.specs.Front.{empty_pair, place, mark_at, one_more, one_less, IsMarked, MarksSame, OthersSame, half_entry}
use Rattle.id_match.specs.Waiting.{entry_at}
use Rattle.id_match.proofs.FrontLemmas.{lookup-append, apart_places}

one_number : (m n : ℕ) → nat_eq m n ≡ true → m ≡ n
one_number m n e = grind (arith, nat_tests)

two_numbers : (m n : ℕ) → nat_eq m n ≡ false → m ≢ n
two_numbers m n e = λ same. grind (arith, nat_tests)

-- where the same waits behind
pub halves_kept : (f : List Pair) (es fs : List (Tag × Half)) → ((u : Tag) → lookup (same_tag u) fs ≡ lookup (same_tag u) es) → IsMarked f es → IsMarked f fs
halves_kept f es fs same marked = record {
  nothing = λ t some e. same t ∙ marked.nothing t some e;
  one = λ t u some e at x y. marked.one t u some e at (subst IsSome (same t) x) (subst IsSome (same u) y);
}

module _ (f : List Pair) (at : ℕ) (within : at < length f) (x : Pair) where
  mark_by : (u : Tag) (b : Bool) → nat_eq (place u (length f)) at ≡ b
      → (get_or (set f at x) (place u (length f)) empty_pair).first.behind ≡ cond b x.first.behind (mark_at f u)
  mark_by u true e =
      ap (λ k. (get_or (set f at x) k empty_pair).first.behind) (one_number _ _ e)
      ∙ ap (λ y. y.first.behind) (get_or-set_same f at x empty_pair within)
  mark_by u false e = ap (λ y. y.first.behind) (get_or-set_other f at (place u (length f)) x empty_pair (two_numbers _ _ e))

  -- what pairs tell where one was written
  pub mark_set : (u : Tag) (b : Bool) → nat_eq (place u (length f)) at ≡ b → mark_at (set f at x) u ≡ cond b x.first.behind (mark_at f u)
  mark_set u b e = ap (λ n. (get_or (set f at x) (place u n) empty_pair).first.behind) (length-set f at x) ∙ mark_by u b e

  same_by : x.first.behind ≡ (get_or f at empty_pair).first.behind → (u : Tag) (b : Bool) → nat_eq (place u (length f)) at ≡ b
      → cond b x.first.behind (mark_at f u) ≡ mark_at f u
  same_by own u true e = own ∙ ap (λ k. (get_or f k empty_pair).first.behind) (sym (one_number _ _ e))
  same_by own u false e = refl

  -- a pair is written that tells the same as before
  pub marks_set : x.first.behind ≡ (get_or f at empty_pair).first.behind → MarksSame f (set f at x)
  marks_set own = record {
    len = length-set f at x;
    at = λ u. mark_set u (nat_eq (place u (length f)) at) refl ∙ same_by own u (nat_eq (place u (length f)) at) refl;
  }

more_not_nothing : (b : Behind) → one_more b ≡ Nothing → ⊥
more_not_nothing Nothing e = cc
more_not_nothing One e = cc
more_not_nothing Many e = cc

more_one : (b : Behind) → one_more b ≡ One → b ≡ Nothing
more_one Nothing e = refl
more_one One e = cc
more_one Many e = cc

less_not_one : (b : Behind) → one_less b ≡ One → ⊥
less_not_one Nothing e = cc
less_not_one One e = cc
less_not_one Many e = cc

not_many : (b : Behind) → one_less b ≡ Nothing → (b ≡ Nothing → ⊥) → b ≡ One
not_many Nothing e some = absurd (some refl)
not_many One e some = refl
not_many Many e some = cc

nat_same : (n : ℕ) → nat_eq n n ≡ true
nat_same n = grind (arith, nat_tests)

two_truths : false ≡ true → ⊥
two_truths e = cc

none_not_some : (o : Option Half) → o ≡ None → IsSome o → ⊥
none_not_some None e some = cc
none_not_some (Some h) e some = cc

none_by : (o : Option Half) → (IsSome o → ⊥) → o ≡ None
none_by None not = refl
none_by (Some h) not = absurd (not refl)

module _ (f : List Pair) (t : Tag) (some : 0 < length f) (within : place t (length f) < length f) (x : Pair) (es fs : List (Tag × Half))
    (marked : IsMarked f es) (others : OthersSame t es fs) where
  abbrev here : Tag → Bool
  here u = nat_eq (place u (length f)) (place t (length f))

  abbrev after : List Pair
  after = set f (place t (length f)) x

  told_here : (u : Tag) → here u ≡ true → mark_at after u ≡ x.first.behind
  told_here u e = mark_set f (place t (length f)) within x u true e

  told_there : (u : Tag) → here u ≡ false → mark_at after u ≡ mark_at f u
  told_there u e = mark_set f (place t (length f)) within x u false e

  there_same : (u : Tag) → here u ≡ false → lookup (same_tag u) fs ≡ lookup (same_tag u) es
  there_same u e = others u (apart_places t u (length f) (two_numbers _ _ e))

  one_mark : (u : Tag) → here u ≡ true → mark_at f u ≡ mark_at f t
  one_mark u e = ap (λ k. (get_or f k empty_pair).first.behind) (one_number _ _ e)

  nothing_there : (u : Tag) → here u ≡ false → mark_at after u ≡ Nothing → lookup (same_tag u) fs ≡ None
  nothing_there u e is = there_same u e ∙ marked.nothing u some (sym (told_there u e) ∙ is)

  same_there : (u w : Tag) → here u ≡ false → place w (length f) ≡ place u (length f) → here w ≡ false
  same_there u w e at = ap (λ k. nat_eq k (place t (length f))) at ∙ e

  one_there : (u w : Tag) → here u ≡ false → mark_at after u ≡ One → place w (length f) ≡ place u (length f)
      → IsSome (lookup (same_tag u) fs) → IsSome (lookup (same_tag w) fs) → same_tag u w ≡ true
  one_there u w e is at a b =
      marked.one u w some (sym (told_there u e) ∙ is) at (subst IsSome (there_same u e) a) (subst IsSome (there_same w (same_there u w e at)) b)

  module _ (tells : x.first.behind ≡ one_more (mark_at f t)) where
    nothing_more : (u : Tag) (b : Bool) → here u ≡ b → mark_at after u ≡ Nothing → lookup (same_tag u) fs ≡ None
    nothing_more u true e is = absurd (more_not_nothing (mark_at f t) (sym tells ∙ sym (told_here u e) ∙ is))
    nothing_more u false e is = nothing_there u e is

    -- where nothing stood behind, it is the new one
    new_by : (u : Tag) → mark_at f t ≡ Nothing → here u ≡ true → (b : Bool) → same_tag t u ≡ b → IsSome (lookup (same_tag u) fs) → t ≡ u
    new_by u was e true same a = one_from_same_tag t u same
    new_by u was e false apart a = absurd (none_not_some _ (others u apart ∙ marked.nothing u some (one_mark u e ∙ was)) a)

    one_more_by : (u w : Tag) (b : Bool) → here u ≡ b → mark_at after u ≡ One → place w (length f) ≡ place u (length f)
        → IsSome (lookup (same_tag u) fs) → IsSome (lookup (same_tag w) fs) → same_tag u w ≡ true
    one_more_by u w true e is at a b =
        let was : mark_at f t ≡ Nothing = more_one (mark_at f t) (sym tells ∙ sym (told_here u e) ∙ is) in
        let at_w : here w ≡ true = ap (λ k. nat_eq k (place t (length f))) at ∙ e in
        let is_u : t ≡ u = new_by u was e (same_tag t u) refl a in
        let is_w : t ≡ w = new_by w was at_w (same_tag t w) refl b in
        ap (λ v. same_tag v w) (sym is_u) ∙ ap (same_tag t) (sym is_w) ∙ same_tag_laws.refl t
    one_more_by u w false e is at a b = one_there u w e is at a b

    pub marked_more : IsMarked after fs
    marked_more = record {
      nothing = λ u z is. nothing_more u (here u) refl is;
      one = λ u w z is at a b.
          one_more_by u w (here u) refl is (subst (λ n. place w n ≡ place u n) (length-set f (place t (length f)) x) at) a b;
    }

  module _ (tells : x.first.behind ≡ one_less (mark_at f t)) (was : IsSome (lookup (same_tag t) es)) (gone : lookup (same_tag t) fs ≡ None) where
    was_one : mark_at after t ≡ Nothing → mark_at f t ≡ One
    was_one is = not_many (mark_at f t) (sym tells ∙ sym (told_here t (nat_same (place t (length f)))) ∙ is)
        (λ none. none_not_some _ (marked.nothing t some none) was)

    gone_by : (u : Tag) → here u ≡ true → mark_at f t ≡ One → (b : Bool) → same_tag t u ≡ b → lookup (same_tag u) fs ≡ None
    gone_by u e one true same = ap (λ w. lookup (same_tag w) fs) (sym (one_from_same_tag t u same)) ∙ gone
    gone_by u e one false apart =
        none_by _ (λ a. two_truths (sym apart ∙ marked.one t u some one (one_number _ _ e) was (subst IsSome (others u apart) a)))

    nothing_less : (u : Tag) (b : Bool) → here u ≡ b → mark_at after u ≡ Nothing → lookup (same_tag u) fs ≡ None
    nothing_less u true e is = gone_by u e (was_one (told_here t (nat_same (place t (length f))) ∙ sym (told_here u e) ∙ is)) (same_tag t u) refl
    nothing_less u false e is = nothing_there u e is

    one_less_by : (u w : Tag) (b : Bool) → here u ≡ b → mark_at after u ≡ One → place w (length f) ≡ place u (length f)
        → IsSome (lookup (same_tag u) fs) → IsSome (lookup (same_tag w) fs) → same_tag u w ≡ true
    one_less_by u w true e is at a b = absurd (less_not_one (mark_at f t) (sym tells ∙ sym (told_here u e) ∙ is))
    one_less_by u w false e is at a b = one_there u w e is at a b

    pub marked_less : IsMarked after fs
    marked_less = record {
      nothing = λ u z is. nothing_less u (here u) refl is;
      one = λ u w z is at a b.
          one_less_by u w (here u) refl is (subst (λ n. place w n ≡ place u n) (length-set f (place t (length f)) x) at) a b;
    }

-- ---- entries

-- entries as what waits
pub half_back : (es : List (Tag × Half)) → map half_entry (map entry_at es) ≡ es
half_back [] = refl
half_back (e ∷ es) = ap (λ l. e ∷ l) (half_back es)

map_append : (k l : List Entry) → map half_entry (k ++ l) ≡ map half_entry k ++ map half_entry l
map_append [] l = refl
map_append (e ∷ k) l = ap (λ r. half_entry e ∷ r) (map_append k l)

or_nothing : (o : Option Half) → option_or o None ≡ o
or_nothing None = refl
or_nothing (Some h) = refl

-- one entry more leaves the other tags
pub others_more : (l : List Entry) (i : ℕ) (d : Entry) → i < length l
    → OthersSame (get_or l i d).tag (map half_entry (take i l)) (map half_entry (take (i + 1) l))
others_more l i d inside u apart =
    ap (λ k. lookup (same_tag u) (map half_entry k)) (take_more l i d inside)
    ∙ ap (lookup (same_tag u)) (map_append (take i l) (get_or l i d ∷ []))
    ∙ lookup-append u (map half_entry (take i l)) (half_entry (get_or l i d) ∷ [])
    ∙ ap (λ b. option_or (lookup (same_tag u) (map half_entry (take i l))) (cond b (Some (half_entry (get_or l i d)).1) None))
    (same_tag_laws.symm u (get_or l i d).tag ∙ apart)
    ∙ or_nothing (lookup (same_tag u) (map half_entry (take i l)))

-- before the first entry nothing is behind
pub none_marked : (f : List Pair) → IsMarked f []
none_marked f = record { nothing = λ t some e. refl; one = λ t u some e at a b. absurd (none_not_some _ refl a) }
