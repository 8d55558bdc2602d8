-- Which rows are things.
use Rattle.std.proofs.Common.{◌≡◌, ℕ, true, ap, sym, refl, subst}
use Rattle.std.proofs.lemmas.Bool.{false≢true}
use Rattle.id_table.specs.declared.row.Node.{Node}
use Rattle.id_table.specs.declared.row.Node.TheVariants.{Def}
use Rattle.id_table.specs.Rows.{at}
use Rattle.id_table.specs.Tables.{HasOperand, is_thing}
use Rattle.id_check.specs.Causes.{defines_main}
use Rattle.id_check.specs.Programs.{Stands, rows}
use Rattle.id_check.proofs.ProgramsLemmas.{part_row}
use Rattle.id_source.specs.Sources.{Source, body_of, main_body}
use Rattle.id_source.specs.Things.{IsThing}
use Rattle.id_source.specs.Facts.{LoopStands}
use Rattle.id_source.proofs.CheckedLemmas.{test-row, thing-expression}

-- an operand of a row is a thing
pub part-thing : (S : Source) (n a : ℕ) (z : Node) → Stands S.checked n z → HasOperand z a → IsThing S a
part-thing S n a z s h =
    let w = part_row S.checked n a z s h in
    record { within = w.0; thing = thing-expression (at (rows S.checked) a).node w.1 }

-- and so is the predicate of a loop
pub test-thing : (S : Source) (n h w t l : ℕ) → LoopStands S.checked n h w t l → IsThing S t
test-thing S n h w t l s =
    let q = test-row S.checked n h w t l s in
    record { within = q.0; thing = thing-expression (at (rows S.checked) t).node q.1 }

-- what stands at a node that is a thing is one
pub node-thing : (S : Source) (n : ℕ) (z : Node) → Stands S.checked n z → is_thing z ≡ true → IsThing S n
node-thing S n z s t =
    let P : Node → Type 0 = λ y. is_thing y ≡ true in record { within = s.within; thing = subst P (sym s.node) t }

-- main's body is a thing
main-by : (S : Source) (z : Node) → (at (rows S.checked) S.checked.main).node ≡ z → defines_main z ≡ true
    → IsThing S (main_body S.checked)
main-by S (Def x h k b) e d =
    let q : main_body S.checked ≡ b = ap body_of e in
    let T : ℕ → Type 0 = λ n. IsThing S n in
    subst T (sym q)
    (part-thing S S.checked.main b (Def x h k b) (record { within = S.checked.is_main.within; node = e }) refl)
main-by S _ e d = absurd (false≢true d)

pub main-thing : (S : Source) → IsThing S (main_body S.checked)
main-thing S =
    let P : Node → Type 0 =
    λ z. defines_main z ≡ true in main-by S (at (rows S.checked) S.checked.main).node refl S.checked.is_main.node
