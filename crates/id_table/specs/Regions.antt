-- Which regions there are, and which rows stand in the arms of a conditional (docs/GRAPH.md, "Parts").
use Rattle.std.specs.Prelude.{◌≡◌, ◌<◌, ◌≤◌, ◌+◌, ℕ, Bool, true, false, List, length}
use Rattle.id_table.specs.declared.row.Region.{Region}
use Rattle.id_table.specs.declared.row.Row.{Row}
use Rattle.id_table.specs.declared.row.Node.TheVariants.{Split, If, LoopHead}
use Rattle.id_table.specs.Rows.{arm_at, at, top}
use Rattle.id_table.specs.Tables.{is_split, is_switches}

-- the one region lies in the other: it is that one, or an arm whose split stands in a region that lies there, the
-- beginning of a loop whose `Start` does, or a side of a loop's switches that do
pub data Lies (R : List Row) (q : Region) : Region → Type 0 where
  here : Lies R q q
  in_arm : {s : ℕ} {b : Bool} → s < length R → is_split (at R s).node ≡ true → Lies R q (at R s).region
      → Lies R q (arm_at s b)
  in_loop : {h s : ℕ} → h < length R → (at R h).node ≡ LoopHead s → Lies R q (at R s).region
      → Lies R q (top h)
  in_side : {w : ℕ} {b : Bool} → w < length R → is_switches (at R w).node ≡ true → Lies R q (at R w).region
      → Lies R q (arm_at w b)

-- the row a stands where the row n does: in the same block and region
abbrev pub StandsWith : List Row → ℕ → ℕ → Type 0
StandsWith R n a = ((at R a).block ≡ (at R n).block) × ((at R a).region ≡ (at R n).region)

-- the row a stands where the row n does, or further in: in a region that lies in that of n
abbrev pub StandsInside : List Row → ℕ → ℕ → Type 0
StandsInside R n a = Lies R (at R n).region (at R a).region

-- the row n is the conditional of the split at the row s
pub record IsIfOf (R : List Row) (n s : ℕ) : Type 0 where
  pub then : ℕ
  pub otherwise : ℕ
  pub within : n < length R
  pub node : (at R n).node ≡ If s then otherwise

-- the row i is one of the arm on this side, where the split is at s, the last row of the `then` arm is x, and the
-- conditional is at n
abbrev pub InArm : ℕ → ℕ → ℕ → Bool → ℕ → Type 0
InArm s x n true i = (s < i) × (i ≤ x)
InArm s x n false i = (x < i) × (i < n)

-- the row stands right in an arm of a conditional of its block
pub record StandsInArm (R : List Row) (i : ℕ) : Type 0 where
  pub split : ℕ
  pub side : Bool
  pub row : ℕ
  pub conditional : IsIfOf R row split
  pub region : (at R i).region ≡ arm_at split side
  pub among : InArm split conditional.then row side i
  pub block : (at R split).block ≡ (at R i).block

-- the split at the row s is right behind the predicate, and has the place, the block, the region and the first row of
-- the conditional at n
pub record IsSplitOf (R : List Row) (s n : ℕ) : Type 0 where
  pub test : ℕ
  pub node : (at R s).node ≡ Split test
  pub behind : test + 1 ≡ s
  pub test_first : (at R test).first ≡ (at R s).first
  pub place : (at R s).place ≡ (at R n).place
  pub block : (at R s).block ≡ (at R n).block
  pub region : (at R s).region ≡ (at R n).region
  pub first : (at R s).first ≡ (at R n).first

-- between the split at s and the conditional at n stand the rows of the `then` arm, the last of which is x, and then
-- those of the other arm, the last of which is y: the last right in the arm's region, the others there or further in
pub record AreArms (R : List Row) (s x y n : ℕ) : Type 0 where
  pub low : s < x
  pub next : x < y
  pub ends : y + 1 ≡ n
  pub then_first : (at R x).first ≡ s + 1
  pub otherwise_first : (at R y).first ≡ x + 1
  pub then_stands : (at R x).region ≡ arm_at s true
  pub otherwise_stands : (at R y).region ≡ arm_at s false
  pub each : (b : Bool) (i : ℕ) → InArm s x n b i → Lies R (arm_at s b) (at R i).region
