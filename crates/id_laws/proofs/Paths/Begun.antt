-- Where the contexts of calls and loops begin, and where these end.
use Rattle.std.proofs.Common.{◌≡◌, ℕ, ◌+◌, ◌-◌, ◌<◌, true, length, refl, sym, ◌∙◌, ap, subst, arith}
use Rattle.id_table.specs.declared.row.Node.{Node}
use Rattle.id_table.specs.declared.row.Node.TheVariants.{Call, Loop, Start}
use Rattle.id_table.specs.Tables.{begins_block, is_expression, is_thing}
use Rattle.id_check.specs.declared.checked.Checked.{Checked}
use Rattle.id_check.specs.Programs.{place, region, rows}
use Rattle.id_build.specs.Rows.{node}
use Rattle.id_laws.specs.Activations.{Begins, of_call, of_loop}
use Rattle.id_laws.proofs.Rows.Assumed.{IsKnown}
use Rattle.id_laws.proofs.Rows.Loops.{loop_of_start, start_place, start_region}
use Rattle.id_laws.proofs.Rows.Calls.{call_at, called_head}

-- what ends at a row of this node has begun at the row n
pub data EndsAs (n : ℕ) (m : Node) : Type 0 where
  as_call : {c : ℕ} → m ≡ Call n c → EndsAs n m
  as_loop : {w l : ℕ} → m ≡ Loop (n + 1) w l → EndsAs n m

-- the call or loop whose context the row n makes, and the head of its block
pub record BegunAt (P : Checked) (n h q : ℕ) : Type 0 where
  pub head_within : h < length (rows P)
  pub head : begins_block (node P h) ≡ true
  pub within : q < length (rows P)
  pub ends : EndsAs n (node P q)
  pub expression : is_expression (node P q) ≡ true
  pub thing : is_thing (node P q) ≡ true
  pub place : place P n ≡ place P q
  pub region : region P n ≡ region P q

pub begun_at : {P : Checked} (known : IsKnown P) {n h q : ℕ} → n < length (rows P) → Begins P n h q → BegunAt P n h q
begun_at {P} known {n} within (of_call is) =
    let c = call_at known within is in
    let head = called_head known within is in
    record {
      head_within = head.0;
      head = ap begins_block head.1;
      within = c.within;
      ends = as_call c.node;
      expression = ap is_expression c.node;
      thing = ap is_thing c.node;
      place = c.place;
      region = c.region;
    }
begun_at {P} known {n} within (of_loop is) =
    let l = loop_of_start known within is in
    let back : (n + 1) - 1 ≡ n = omega arith in
    record {
      head_within = l.within;
      head = ap begins_block l.head;
      within = (l.the).within;
      ends = as_loop (l.the).node;
      expression = ap is_expression (l.the).node;
      thing = ap is_thing (l.the).node;
      place = ap (place P) (sym back) ∙ start_place P known (n + 1) l;
      region = ap (region P) (sym back) ∙ start_region P known (n + 1) l;
    }

as_begun : {n n' : ℕ} {m : Node} → EndsAs n m → EndsAs n' m → n ≡ n'
as_begun {n} {n'} (as_call {c = c} is) (as_call {c = c'} is') = let both : Call n c ≡ Call n' c' = sym is ∙ is' in cc
as_begun {n} {n'} (as_call {c = c} is) (as_loop {w = w} {l = l} is') =
    let bad : Call n c ≡ Loop (n' + 1) w l = sym is ∙ is' in cc
as_begun {n} {n'} (as_loop {w = w} {l = l} is) (as_call {c = c} is') =
    let bad : Loop (n + 1) w l ≡ Call n' c = sym is ∙ is' in cc
as_begun {n} {n'} (as_loop {w = w} {l = l} is) (as_loop {w = w'} {l = l'} is') =
    let both : Loop (n + 1) w l ≡ Loop (n' + 1) w' l' = sym is ∙ is' in
    let same : n + 1 ≡ n' + 1 = cc in
    omega (arith, same)

-- what ends at one row has begun at one
pub one_begun : {P : Checked} (known : IsKnown P) {n n' h h' q q' : ℕ} → n < length (rows P) → n' < length (rows P)
    → Begins P n h q → Begins P n' h' q' → q ≡ q' → n ≡ n'
one_begun {P} known {n} {n'} within within' b b' same =
    as_begun (subst (λ z. EndsAs n (node P z)) same (begun_at known within b).ends) (begun_at known within' b').ends

-- two that begin at one place are one
pub one_begun_at : {P : Checked} (known : IsKnown P) {n n' h h' q q' : ℕ} → n < length (rows P) → n' < length (rows P)
    → Begins P n h q → Begins P n' h' q' → place P n ≡ place P n' → n ≡ n'
one_begun_at {P} known {q = q} {q' = q'} within within' b b' same =
    let c = begun_at known within b in
    let d = begun_at known within' b' in
    one_begun known within within' b b'
    ((known.apart).apart q q' c.within d.within c.thing d.thing (sym c.place ∙ same ∙ d.place))

-- the one row begins one block
pub one_head : {P : Checked} {n h q h' q' : ℕ} → Begins P n h q → Begins P n h' q' → (h ≡ h') × (q ≡ q')
one_head (of_call is) (of_call is') = (refl, refl)
one_head {P} {n} (of_call {x = x} is) (of_loop is') =
    let bad : Rattle.id_table.specs.declared.row.Node.TheVariants.Enter x ≡ Start = sym is ∙ is' in cc
one_head {P} {n} (of_loop is) (of_call {x = x} is') =
    let bad : Start ≡ Rattle.id_table.specs.declared.row.Node.TheVariants.Enter x = sym is ∙ is' in cc
one_head (of_loop is) (of_loop is') = (refl, refl)
