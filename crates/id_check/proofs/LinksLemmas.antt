-- A chain goes on to a row of the table.
use Rattle.std.proofs.Common.{◌≡◌, ◌<◌, inl, inr, ℕ, List, Option, Some, None, length, refl, sym, subst, arith}
use Rattle.id_table.specs.declared.row.Row.{Row}
use Rattle.id_table.specs.declared.row.Node.{Node}
use Rattle.id_table.specs.declared.row.Node.TheVariants.{Head, Param, Literal, Name, Unary, Binary, Split, If, Enter}
use Rattle.id_table.specs.declared.row.Node.TheVariants.{Arg, Call, Block, Binding, Def, Program}
use Rattle.id_table.specs.declared.row.Node.TheVariants.{Start, LoopHead, Variable, Entries, Switches, Turn, NextUse}
use Rattle.id_table.specs.declared.row.Node.TheVariants.{Next, Body, Reset, Loop}
use Rattle.id_table.specs.declared.row.Node.TheVariants.{Bounds, Carried, Within, Count, Index, Span}
use Rattle.id_table.specs.declared.row.Node.TheVariants.{Fetch, Address, Store}
use Rattle.id_table.specs.declared.row.Node.TheVariants as node
use Rattle.id_table.specs.Rows.{at}
use Rattle.id_table.specs.Tables.{HasPart, IsFormed}
use Rattle.id_check.specs.Scopes.{user_of}
use Rattle.id_check.specs.Kinds.{link_at, link_of, link_of_name}
use Rattle.id_check.specs.Chains.{goes_to}

-- a part of a row is a row
pub part_of : {R : List Row} {i : ℕ} {n : Node} (a : ℕ) → IsFormed R → i < length R → (at R i).node ≡ n → HasPart n a
    → a < length R
part_of {R} {i} {n} a t less s h =
    let low = ((t.each i less).parts a (subst (λ z. HasPart z a) (sym s) h)).1 in
    omega arith

some_same : (a b : ℕ) → Some a ≡ Some b → a ≡ b
some_same a b e = cc

named : (n j : ℕ) (o : Option ℕ) → ((b : ℕ) → o ≡ Some b → b < n) → goes_to (link_of_name o) ≡ Some j → j < n
named n j None h e = let d : None ≡ Some j = e in cc
named n j (Some b) h e = subst (λ z. z < n) (some_same b j e) (h b refl)

-- the row that uses the name which a row is about is a row
pub user_below : (R : List Row) (i : ℕ) → IsFormed R → i < length R → user_of i (at R i).node < length R
user_below R i t less = of (at R i).node refl
  where
    of : (n : Node) → (at R i).node ≡ n → user_of i n < length R
    of (Arg e k v) s = part_of e t less s (inl refl)
    of (Call e c) s = part_of e t less s refl
    of (Next x k o v) s = part_of o t less s (inl refl)
    of _ s = less

pub link_below : (R : List Row) (β : ℕ → Option ℕ) → IsFormed R
    → ((i b : ℕ) → i < length R → β i ≡ Some b → b < length R)
    → (i j : ℕ) → i < length R → goes_to (link_at R β i) ≡ Some j → j < length R
link_below R β t within i j less e = of (at R i).node refl e
  where
    part : (n : Node) (a : ℕ) → (at R i).node ≡ n → HasPart n a → Some a ≡ Some j → j < length R
    part n a s h f = subst (λ z. z < length R) (some_same a j f) (part_of a t less s h)

    of : (n : Node) → (at R i).node ≡ n → goes_to (link_of (β (user_of i n)) n) ≡ Some j → j < length R
    of Head s f = let d : None ≡ Some j = f in cc
    of (Param x k) s f = let d : None ≡ Some j = f in cc
    of (Literal v) s f = let d : None ≡ Some j = f in cc
    of (Name x) s f = named (length R) j (β i) (λ b. within i b less) f
    of (Unary p a) s f = let d : None ≡ Some j = f in cc
    of (Binary p a b) s f = let d : None ≡ Some j = f in cc
    of (Split t) s f = let d : None ≡ Some j = f in cc
    of (If t x y) s f = part (If t x y) x s (inr (inl refl)) f
    of (Enter x) s f = let d : None ≡ Some j = f in cc
    of (Arg e k v) s f = let d : None ≡ Some j = f in cc
    of (Call e c) s f = named (length R) j (β e) (λ b. within e b (part_of e t less s refl)) f
    of (Block b) s f = part (Block b) b s refl f
    of (Binding x a) s f = part (Binding x a) a s refl f
    of (Def x h k b) s f = let d : None ≡ Some j = f in cc
    of Program s f = let d : None ≡ Some j = f in cc
    of (Bounds a b) s f = let d : None ≡ Some j = f in cc
    of Start s f = let d : None ≡ Some j = f in cc
    of (LoopHead k) s f = let d : None ≡ Some j = f in cc
    of (Carried k) s f = let d : None ≡ Some j = f in cc
    of Variable s f = let d : None ≡ Some j = f in cc
    of Entries s f = let d : None ≡ Some j = f in cc
    of (Within k) s f = let d : None ≡ Some j = f in cc
    of (Switches k) s f = let d : None ≡ Some j = f in cc
    of Count s f = let d : None ≡ Some j = f in cc
    of Turn s f = let d : None ≡ Some j = f in cc
    of (Index x) s f = let d : None ≡ Some j = f in cc
    of (NextUse x) s f = named (length R) j (β i) (λ b. within i b less) f
    of (Next x k o v) s f = part (Next x k o v) o s (inl refl) f
    of Body s f = let d : None ≡ Some j = f in cc
    of (Reset v) s f = let d : None ≡ Some j = f in cc
    of Span s f = let d : None ≡ Some j = f in cc
    of (Loop h w l) s f = part (Loop h w l) l s (inr (inr refl)) f
    of (node.Array nested a b) s f = let d : None ≡ Some j = f in cc
    of (Fetch t i) s f = part (Fetch t i) t s (inl refl) f
    of (Address t i) s f = part (Address t i) t s (inl refl) f
    of (Store a v) s f = let d : None ≡ Some j = f in cc
