-- How many loops are round a row.
use Rattle.std.proofs.Common.{◌≡◌, ◌+◌, ◌-◌, ◌<◌, ◌≤◌, ℕ, zero, suc, List, length, refl, sym, ap, ◌∙◌, arith}
use Rattle.id_table.specs.declared.row.Row.{Row}
use Rattle.id_table.specs.declared.row.Node.{Node}
use Rattle.id_table.specs.declared.row.Node.TheVariants.{LoopHead}
use Rattle.id_table.specs.Rows.{at}
use Rattle.id_table.specs.Tables.{begins_block}
use Rattle.id_table.specs.Loops.{depth, loops_from}
use Rattle.id_table.specs.Turns.{IsTable}

abbrev start_or : ℕ → Node → ℕ
start_or d (LoopHead s) = s
start_or d _ = d

module _ (R : List Row) (t : IsTable R) where
  -- the block of a loop's `Start` begins before the loop's head
  start_before : (h s : ℕ) → h < length R → (at R h).node ≡ LoopHead s → (s + 1 ≡ h) × ((at R s).block < h)
  start_before h s l e =
      let n = t.has_loop h s l e in
      let x = t.loop_is n.0 h n.1 in
      let same : s + 1 ≡ h = omega (arith, x.begins, ap (start_or 0) (sym e ∙ x.before_test.head)) in
      (same, omega (arith, same, (t.block s (omega (arith, same, l))).0))

  loops-node : (b f g : ℕ) → ((c : ℕ) → c < length R → c < f → c < g → loops_from R f (at R c).node ≡ loops_from R g (at R c).node)
      → b < length R → b ≤ f → b ≤ g → (n : Node) → (at R b).node ≡ n → loops_from R (suc f) n ≡ loops_from R (suc g) n
  loops-node b f g step l m k (LoopHead s) e =
      let q = start_before b s l e in
      ap suc (step (at R s).block (omega (arith, q.1, l)) (omega (arith, q.1)) (omega (arith, q.1)))
  loops-node b f g step l m k _ e = refl

  -- no more steps than rows before the block's head are made
  loops-enough : (b f g : ℕ) → b < length R → b < f → b < g → loops_from R f (at R b).node ≡ loops_from R g (at R b).node
  loops-enough b zero g l m k = absurd (omega arith)
  loops-enough b f zero l m k = absurd (omega arith)
  loops-enough b (suc f) (suc g) l m k = loops-node b f g (λ c x y z. loops-enough c f g x y z) l (omega arith) (omega arith) (at R b).node refl

  -- round the head of a loop there is one loop more than round its `Start`
  pub depth-head : (h s : ℕ) → h < length R → (at R h).node ≡ LoopHead s → depth R h ≡ suc (depth R s)
  depth-head h s l e =
      let q = start_before h s l e in
      let own : (at R h).block ≡ h = t.head_block h l (ap begins_block e) in
      let few : suc (length R - 1) ≡ length R = omega (arith, l) in
      ap (λ k. loops_from R (length R) (at R k).node) own
      ∙ ap (loops_from R (length R)) e
      ∙ ap (λ k. loops_from R k (LoopHead s)) (sym few)
      ∙ ap suc (loops-enough (at R s).block (length R - 1) (length R) (omega (arith, q.1)) (omega (arith, q.1)) (omega (arith, q.1)))

  -- round a row there are as many as round the head of its block
  pub depth-block : (i : ℕ) → i + 1 < length R → depth R i ≡ depth R (at R i).block
  depth-block i l =
      let w = t.block i l in
      ap (λ k. loops_from R (length R) (at R k).node) (sym (t.head_block (at R i).block (omega (arith, w.0)) w.1))
