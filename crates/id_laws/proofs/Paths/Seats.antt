-- Where contexts stand: each has one seat, so an activation has one path, and each path is that of one activation.
use Rattle.std.proofs.Common.{◌≡◌, ◌⊎◌, inl, inr, ℕ, suc, ◌<◌, List, [], ◌∷◌, ◌++◌, length, refl, sym, ◌∙◌, ap, subst}
use Rattle.std.proofs.Common.{arith}
use Rattle.id_table.specs.declared.row.Region.{Region}
use Rattle.id_check.specs.Programs.{place, region, rows}
use Rattle.id_instr.specs.Graph.{Parts}
use Rattle.id_tag.specs.declared.Context.{Context}
use Rattle.id_tag.specs.declared.Tag.{Tag}
use Rattle.id_ops.specs.declared.Fired.{Fired}
use Rattle.id_ops.specs.declared.Fired.TheVariants.{Entered}
use Rattle.id_source.specs.declared.Path.{Path}
use Rattle.id_source.specs.declared.PathStep.{PathStep}
use Rattle.id_source.specs.Sources.{Source}
use Rattle.id_source.specs.Facts.{outermost, below}
use Rattle.id_build.specs.Schemas.{Numbered}
use Rattle.id_runs.specs.Activations.{Activation, at_iteration, main_context, main_activation, tag_in}
use Rattle.id_runs.specs.Events.{Event, FiresAs, FiresOnce, fired_event}
use Rattle.id_laws.specs.Activations.{Seat, Outermost, Below, path_at, Begins, Opens, SeatOf, main_seat, made_seat}
use Rattle.id_laws.specs.Activations.{PathOf}
use Rattle.id_laws.specs.Activations.{Live, at_start, on_side, entered, again}
use Rattle.id_laws.proofs.Rows.Assumed.{IsKnown}
use Rattle.id_table.specs.Turns.{IsDefOf}
use Rattle.id_laws.proofs.Rows.Arcs.{opens, part_of}
use Rattle.id_laws.proofs.Paths.Begun.{one_begun_at}
use Rattle.id_laws.proofs.Rows.Tokens.{one_part, same_activation, same_number}
use Rattle.id_runs.specs.Serials.{ContextsApart}
use Rattle.id_runs.proofs.Serials.{entered_once}

-- each context has one seat, and a procedure's body is live at iteration 0 alone
pub record OneSeat (S : Source) (number : ℕ → ℕ → ℕ) (run : List Event) : Type 0 where
  pub one : (c : Context) (s t : Seat) → SeatOf S number run c s → SeatOf S number run c t → s ≡ t
  pub first : {a : Activation} {d h : ℕ} (x : IsDefOf (rows S.checked) d h)
      → Live S number run a (region S.checked x.body) → a.iteration ≡ 0

-- an activation has one path
pub one_path : {S : Source} {number : ℕ → ℕ → ℕ} {run : List Event} {a : Activation} {p q : Path} → OneSeat S number run
    → PathOf S number run a p → PathOf S number run a q → p ≡ q
one_path {a = a} seats h k =
    h.is ∙ ap (λ s. path_at s a.iteration) (seats.one a.context h.seat k.seat h.of_context k.of_context) ∙ sym k.is

pub main_path : {S : Source} {number : ℕ → ℕ → ℕ} {run : List Event} → PathOf S number run main_activation outermost
main_path = record { seat = Outermost; of_context = main_seat; is = refl }

-- the path of main's activation is empty
pub main_path_is : {S : Source} {number : ℕ → ℕ → ℕ} {run : List Event} {p : Path} → OneSeat S number run
    → PathOf S number run main_activation p → p ≡ outermost
main_path_is seats h = one_path seats h main_path

-- the path of a context that was made goes on below that of the activation under which it was
pub entered_path : {S : Source} {number : ℕ → ℕ
    → ℕ} {run : List Event} {a : Activation} {n h q : ℕ} {c : Context} {p : Path} (k : ℕ) →
    n < length (rows S.checked)
    → Begins S.checked n h q → Opens S number run a n c → PathOf S number run a p
    → PathOf S number run (at_iteration c k) (below p (place S.checked n) k)
entered_path {S = S} {n = n} k within is opened path =
    record {
      seat = _;
      of_context = made_seat within is opened path.of_context;
      is =
          ap (λ p. below p (place S.checked n) k) path.is;
    }

-- an iteration has a path where another of its context has one
pub moved_path : {S : Source} {number : ℕ → ℕ → ℕ} {run : List Event} {a : Activation} {p : Path} (k : ℕ)
    → PathOf S number run a p → (q : Path) × PathOf S number run (at_iteration a.context k) q
moved_path k path = (path_at path.seat k, record { seat = path.seat; of_context = path.of_context; is = refl })

-- a live region's activation has a path
pub live_path : {S : Source} {number : ℕ → ℕ → ℕ} {run : List Event} {a : Activation} {r : Region}
    → Live S number run a r → (p : Path) × PathOf S number run a p
live_path at_start = (outermost, main_path)
live_path (on_side within tests live says goes) = live_path live
live_path (entered within is live opened) = let z = live_path live in (_, entered_path 0 within is opened z.1)
live_path (again {k = k} within is live says goes) = moved_path (suc k) (live_path live).1

no_snoc : {A : Type 0} (xs : List A) (y : A) → [] ≡ xs ++ y ∷ [] → ⊥
no_snoc [] y e = cc
no_snoc (x ∷ xs) y e = cc

snoc_is : {A : Type 0} (xs ys : List A) (x y : A) → xs ++ x ∷ [] ≡ ys ++ y ∷ [] → (xs ≡ ys) × (x ≡ y)
snoc_is [] [] x y e = (refl, cc)
snoc_is [] (z ∷ ys) x y e = let bad : [] ≡ ys ++ y ∷ [] = cc in absurd (no_snoc ys y bad)
snoc_is (z ∷ xs) [] x y e = let bad : [] ≡ xs ++ x ∷ [] = cc in absurd (no_snoc xs x bad)
snoc_is (z ∷ xs) (w ∷ ys) x y e =
    let head : z ≡ w = cc in
    let tail : xs ++ x ∷ [] ≡ ys ++ y ∷ [] = cc in
    let t = snoc_is xs ys x y tail in
    ((λ i. head i ∷ t.0 i), t.1)

-- paths with one more step are one where the paths and the steps are
pub below_is : (p p' : Path) (q q' k k' : ℕ) → below p q k ≡ below p' q' k' → (p ≡ p') × (q ≡ q') × (k ≡ k')
below_is p p' q q' k k' e =
    let t = snoc_is p.steps p'.steps _ _ (ap (λ (x : Path). x.steps) e) in
    ((λ i. record { steps = t.0 i }), ap (λ (x : PathStep). x.place) t.1, ap (λ (x : PathStep). x.number) t.1)

pub length_snoc : {A : Type 0} (xs : List A) (y : A) → length (xs ++ y ∷ []) ≡ suc (length xs)
length_snoc [] y = refl
length_snoc (x ∷ xs) y = ap suc (length_snoc xs y)

below_other : (p : Path) (q k : ℕ) → p ≡ below p q k → ⊥
below_other p q k e =
    let longer : length p.steps ≡ suc (length p.steps) = ap (λ (x : Path). length x.steps) e ∙ length_snoc p.steps _ in
    omega (arith, longer)

-- a seat is not below its own paths
pub seat_other : (s : Seat) (k e : ℕ) → s ≡ Below (path_at s k) e → ⊥
seat_other Outermost k e same = cc
seat_other (Below p q) k e same = let up : p ≡ below p q k = cc in below_other p q k up

-- one event fires under one tag, with one result
event_tag : {run : List Event} {t u : Tag} {f f' : Fired} (x : FiresAs run t f) (y : FiresAs run u f')
    → fired_event x ≡ fired_event y → t ≡ u
event_tag x y e = cc

pub event_context : {run : List Event} {t u : Tag} {c c' : Context} (x : FiresAs run t (Entered c))
    (y : FiresAs run u (Entered c')) →
    fired_event x ≡ fired_event y → c ≡ c'
event_context x y e = cc

module _ (S : Source) (known : IsKnown S.checked) (g : Parts) (number : ℕ → ℕ
    → ℕ) (numbered : Numbered S.checked g number) (run : List Event)
    (apart : ContextsApart run) where
  -- no context that was made is main's
  pub not_main : {t : Tag} {c : Context} → FiresAs run t (Entered c) → c ≡ main_context → ⊥
  not_main o e = apart.not_main (fired_event o) o.among (ap Entered e)

  -- one `Enter` has made a context, under one activation
  pub one_opening : {a a' : Activation} {n n' h h' q q' : ℕ} {c c' : Context} → n < length (rows S.checked)
      → n' < length (rows S.checked) → Begins S.checked n h q → Begins S.checked n' h' q' → Opens S number run a n c
      → Opens S number run a' n' c' → c ≡ c' → (a ≡ a') × (n ≡ n')
  one_opening {a} {a'} {n} {n'} {c = c} {c' = c'} within within' is is' o o' e =
      let here = subst (λ z. Opens S number run a n z) e o in
      let tags : tag_in a (number n 0) ≡ tag_in a' (number n' 0) = event_tag here o' (entered_once apart here o') in (
        same_activation a a' _ _ tags,
        (one_part numbered (part_of within (opens is)) (part_of within' (opens is')) (same_number a a' _ _ tags)).0,
      )

  seats_by : (c c' : Context) (s t : Seat) → SeatOf S number run c s → SeatOf S number run c' t → c ≡ c' → s ≡ t
  seats_by c c' s t main_seat main_seat e = refl
  seats_by c c' s t main_seat (made_seat within is o seat) e = absurd (not_main o (sym e))
  seats_by c c' s t (made_seat within is o seat) main_seat e = absurd (not_main o e)
  seats_by c c' s t (made_seat {a = a} {s = u} within is o seat) (made_seat {a = b} {s = v} within' is' o' seat') e =
      let both = one_opening within within' is is' o o' e in
      let up = seats_by a.context b.context u v seat seat' (ap (λ (x : Activation). x.context) both.0) in
      (λ i. Below (path_at (up i) (both.0 i).iteration) (place S.checked (both.1 i)))

  -- a context has one seat
  pub one_seat : (c : Context) (s t : Seat) → SeatOf S number run c s → SeatOf S number run c t → s ≡ t
  one_seat c s t x y = seats_by c c s t x y refl

  module _ (once : FiresOnce run)
      (zero : (a : Activation) (n h q : ℕ) (c : Context) → n < length (rows S.checked) → Begins S.checked n h q
      → Opens S number run a n c →
      a.context ≡ main_context → a.iteration ≡ 0) where
    -- contexts of which some paths are one are one context, and these paths are of one iteration, where none is main's:
    -- the paths of the activations that made them are one
    contexts_by : (c c' : Context) (s t : Seat) (k k' : ℕ) → SeatOf S number run c s → SeatOf S number run c' t
        → path_at s k ≡ path_at t k' → (c ≡ c') × ((k ≡ k') ⊎ (c ≡ main_context))
    contexts_by c c' s t k k' main_seat main_seat e = (refl, inr refl)
    contexts_by c c' s t k k' main_seat (made_seat within is o seat) e =
        absurd (no_snoc _ _ (ap (λ (x : Path). x.steps) e))
    contexts_by c c' s t k k' (made_seat within is o seat) main_seat e =
        absurd (no_snoc _ _ (ap (λ (x : Path). x.steps) (sym e)))
    contexts_by c c' s t k k' (made_seat {a = a} {n = n} {s = u} within is o seat)
        (made_seat {a = b} {n = m} {s = v} within' is' o' seat') e =
        let parts =
        below_is (path_at u a.iteration) (path_at v b.iteration) (place S.checked n) (place S.checked m) k k' e in
        let up = contexts_by a.context b.context u v a.iteration b.iteration seat seat' parts.0 in
        let row = one_begun_at known within within' is is' parts.1 in
        let same : a.iteration ≡ b.iteration = elim up.1 [
          | inl h ↦ h
          | inr h ↦ zero a n _ _ c within is o h ∙ sym (zero b m _ _ c' within' is' o' (sym up.0 ∙ h))
        ] in
        let at : tag_in a (number n 0) ≡ tag_in b (number m 0) =
        (λ i. record { context = up.0 i; iteration = same i; instr = number (row i) 0 }) in
        let here = subst (λ t. FiresAs run t (Entered c)) at o in
        (event_context here o' (once _ _ _ here o'), inl parts.2)

    -- two activations that have one path are one
    pub paths_apart : {a b : Activation} {p : Path} → PathOf S number run a p → PathOf S number run b p
        → (a.context ≡ main_context → a.iteration ≡ 0) → (b.context ≡ main_context → b.iteration ≡ 0) → a ≡ b
    paths_apart {a} {b} x y first first' =
        let one =
        contexts_by a.context b.context x.seat y.seat a.iteration b.iteration x.of_context y.of_context (sym x.is
        ∙ y.is) in
        let same : a.iteration ≡ b.iteration =
        elim one.1 [ inl h ↦ h | inr h ↦ first h ∙ sym (first' (sym one.0 ∙ h)) ] in
        (λ i. record { context = one.0 i; iteration = same i })
