use Rattle.std.proofs.Common.{inl, inr, ◌≡◌, ◌<◌, ◌^◌, ℕ, refl, sym, subst, arith}
use Rattle.id_table.specs.declared.row.Node.{Node}
use Rattle.id_table.specs.declared.row.Node.TheVariants.{Fetch, Address}
use Rattle.id_table.specs.Tables.{HasPart}
use Rattle.id_check.proofs.kinds.link_of.Goals as goal

-- a part of the node has a number of 32 bits
part : (n m : Node) (a : ℕ) → ((b : ℕ) → HasPart n b → b < 2 ^ 32) → n ≡ m → HasPart m a → a < 2 ^ 32
part n m a h e p = h a (subst (λ z. HasPart z a) (sym e) p)

pub overflow_cast-result : goal.overflow_cast-result
overflow_cast-result c =
    let p = part c.args.node _ c.in-Block.body c.requires.parts c.in-Block.is refl in omega (arith, p)

pub overflow_cast-result-in-Binding : goal.overflow_cast-result-in-Binding
overflow_cast-result-in-Binding c =
    let p = part c.args.node _ c.in-Binding.value c.requires.parts c.in-Binding.is refl in omega (arith, p)

pub overflow_cast-result-in-Fetch : goal.overflow_cast-result-in-Fetch
overflow_cast-result-in-Fetch c =
    let t = c.in-Fetch.target in
    let p : t < 2 ^ 32 =
    elim c.in-Fetch.is [
      | inl w ↦ part c.args.node (Fetch t w.0) t c.requires.parts w.1 (inl refl)
      | inr w ↦ part c.args.node (Address t w.0) t c.requires.parts w.1 (inl refl)
    ] in
    omega (arith, p)
