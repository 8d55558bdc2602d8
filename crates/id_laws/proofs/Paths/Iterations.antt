-- From one iteration of a loop to the next: its head is live there, and what stands outside of the loop has the same
-- path.
use Rattle.std.proofs.Common.{◌≡◌, ℕ, zero, suc, ◌+◌, ◌-◌, ◌<◌, ◌≤◌, ◌++◌, true, List, [], ◌∷◌, length}
use Rattle.std.proofs.Common.{refl, sym, ◌∙◌, ap, subst, arith}
use Rattle.std.specs.Prelude.{take}
use Rattle.id_table.specs.declared.row.Region.{Region}
use Rattle.id_table.specs.declared.row.Row.{Row}
use Rattle.id_table.specs.declared.row.Node.TheVariants.{Program, Start, LoopHead, Switches}
use Rattle.id_table.specs.Loops.{depth, loops_from}
use Rattle.id_table.specs.Rows.{arm_at, at}
use Rattle.id_table.specs.Tables.{is_binder}
use Rattle.id_check.specs.declared.checked.Checked.{Checked}
use Rattle.id_check.specs.Scopes.{loops_between}
use Rattle.id_check.specs.Programs.{region, rows}
use Rattle.id_source.specs.declared.Path.{Path}
use Rattle.id_source.specs.declared.PathStep.{PathStep}
use Rattle.id_source.specs.Sources.{Source}
use Rattle.id_source.specs.Facts.{below, without}
use Rattle.id_build.specs.Rows.{block, node}
use Rattle.id_build.proofs.NamesSeen.{Sees, own, handed, entered as entered_in}
use Rattle.id_runs.specs.Activations.{Activation, at_iteration}
use Rattle.id_runs.specs.Events.{Event}
use Rattle.id_laws.specs.Activations.{of_turns, Seat, Outermost, Below, path_at, Live, again}
use Rattle.id_laws.proofs.Rows.Assumed.{IsKnown}
use Rattle.id_laws.proofs.Rows.Conditionals.{arm_live}
use Rattle.id_laws.proofs.Rows.Loops.{loop_of_head, loop_of_start, start_node, start_within}
use Rattle.id_laws.proofs.Rows.Regions.{as_tests, home_row, region_of}
use Rattle.id_laws.proofs.Paths.Seats.{length_snoc}
use Rattle.id_laws.proofs.Rows.Sources.{tests_other}

-- where a loop goes on, its head is live again
pub turned_again : {S : Source} (known : IsKnown S.checked) {number : ℕ → ℕ
    → ℕ} {run : List Event} {a : Activation} {w t : ℕ} → w < length (rows S.checked)
    → node S.checked w ≡ Switches t → Live S number run a (arm_at w true)
    → Live S number run (at_iteration a.context (suc a.iteration)) (region S.checked w)
turned_again {S} known {number} {run} {a} {w} {t} within is live =
    let l = arm_live known live refl (of_turns is) in
    again within is l.live l.chosen l.goes

-- ---- paths

take_before : {A : Type 0} (n : ℕ) (xs : List A) (y : A) → n ≤ length xs → take n (xs ++ y ∷ []) ≡ take n xs
take_before zero [] y h = refl
take_before zero (x ∷ xs) y h = refl
take_before (suc n) [] y h = absurd (omega (arith, h))
take_before (suc n) (x ∷ xs) y h = ap (λ zs. x ∷ zs) (take_before n xs y (omega (arith, h)))

-- a path with one more step without that step and some more
pub without_below : (d : ℕ) (p : Path) (e k : ℕ) → without (suc d) (below p e k) ≡ without d p
without_below d p e k =
    let xs = p.steps in
    let y : PathStep = record { place = e; number = k } in
    let less : length (xs ++ y ∷ []) - suc d ≡ length xs - d = omega (arith, length_snoc xs y) in
    ap (λ n. record { steps = take n (xs ++ y ∷ []) }) less
    ∙ ap (λ zs. record { steps = zs }) (take_before (length xs - d) xs y (omega arith))

-- so it is one for all iterations of a context
pub without_moved : (u : Seat) (d j k : ℕ) → without (suc d) (path_at u j) ≡ without (suc d) (path_at u k)
without_moved Outermost d j k = refl
without_moved (Below p e) d j k = without_below d p e j ∙ sym (without_below d p e k)

-- ---- depths

abbrev at_row : Checked → ℕ → Row
at_row P h = at (rows P) h

-- no more loops are round a binder than round where it is seen
pub seen_depth : {P : Checked} (known : IsKnown P) {b : ℕ} {r : Region} → b < length (rows P)
    → is_binder (node P b) ≡ true → Sees P b r →
    depth (rows P) b ≤ depth (rows P) r.head
seen_depth {P} known {b} {r} within binds (own is) =
    let l = home_row known within binds in
    let same = ap (λ (z : Region). block P z.head) (sym is) ∙ (region_of known l.within l.other).block ∙ l.block in
    omega (arith, depth_at r.head b same)
  where
    depth_at : (i j : ℕ) → block P i ≡ block P j → depth (rows P) i ≡ depth (rows P) j
    depth_at i j e = ap (λ h. loops_from (rows P) (length (rows P)) (at_row P h).node) e
seen_depth {P} known {b} within binds (handed {n = n} inside is among rest) =
    let more = seen_depth known within binds rest in
    let same = (region_of known inside (tests_other P known (as_tests is))).block in
    omega (arith, more, ap (λ h. loops_from (rows P) (length (rows P)) (at_row P h).node) same)
seen_depth {P} known {b} within binds (entered_in {h = h} {s = s} inside is among rest) =
    let more = seen_depth known within binds rest in
    let x = loop_of_head known inside is in
    let both : LoopHead s ≡ LoopHead (h - 1) = sym is ∙ x.head in
    let at : s ≡ h - 1 = cc in
    let start = start_node P known h x in
    let node_is : node P s ≡ Start = ap (node P) at ∙ start in
    let less : s < length (rows P) = subst (λ z. z < length (rows P)) (sym at) (start_within P known h x) in
    let same = (region_of known less (λ e. let bad : Start ≡ Program = sym node_is ∙ e in cc)).block in
    omega (
      arith,
      more,
      ap (λ h. loops_from (rows P) (length (rows P)) (at_row P h).node) same,
      known.loop_depth h s inside is,
    )

-- one loop more stands between a loop's head and a binder that its `Start` sees than between that and the binder
pub loop_between : {P : Checked} (known : IsKnown P) {s b : ℕ} → s < length (rows P) → node P s ≡ Start
    → b < length (rows P) → is_binder (node P b) ≡ true → Sees P b (region P s)
    → loops_between (rows P) (s + 1) b ≡ suc (loops_between (rows P) s b)
loop_between {P} known {s} {b} within is inside binds sees =
    let x = loop_of_start known within is in
    let back : (s + 1) - 1 ≡ s = omega arith in
    let deeper = known.loop_depth (s + 1) s x.within (x.head ∙ ap (λ k. LoopHead k) back) in
    let same = (region_of known within (λ e. let bad : Start ≡ Program = sym is ∙ e in cc)).block in
    omega (
      arith,
      deeper,
      seen_depth known inside binds sees,
      ap (λ h. loops_from (rows P) (length (rows P)) (at_row P h).node) same,
    )
