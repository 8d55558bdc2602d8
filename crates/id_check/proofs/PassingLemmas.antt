-- The pass over the rows: what stays while a scope takes its binders, and what is so when one more row is passed.
use Rattle.std.proofs.Common.{◌≡◌, ◌+◌, ◌<◌, ℕ, Bool, true, List, Option, None, Some, length, refl, ap, sym, ◌∙◌, subst}
use Rattle.std.proofs.lemmas.Bool.{false≢true}
use Rattle.id_table.specs.declared.row.Row.{Row}
use Rattle.id_table.specs.declared.row.Node.{Node}
use Rattle.id_table.specs.declared.row.Node.TheVariants.{Param, Name, Enter, Binding, Def, Index, NextUse, Next}
use Rattle.id_table.specs.declared.rows.Rows.{Rows}
use Rattle.id_table.specs.Lent.{list_of}
use Rattle.id_table.specs.Rows.{at}
use Rattle.id_table.specs.Tables.{name_of}
use Rattle.id_check.specs.declared.scope.Scopes.{Scopes}
use Rattle.id_check.specs.Scopes.{bound_name, is_scope, used_name}
use Rattle.id_check.specs.Names.{AreNames, AreWaiting, IsBehind, is_outside, key_of, keys}
use Rattle.id_check.specs.Passing.{Keeps, Passes, Stays, keys_of, rows}

-- ---- what is so of the rows is so where they stay

pub moved : {A B : Type 0} (P : A → B → Type 0) {a c : A} {b d : B} → c ≡ a → d ≡ b → P a b → P c d
moved P {a} {c} {b} {d} e f h = subst (λ x. P x d) (sym e) (subst (P a) (sym f) h)

-- then
pub on : (P : List Row → ℕ → Type 0) (p q : Scopes) → Stays p q → P (list_of p.rows.now) p.passed
    → P (list_of q.rows.now) q.passed
on P p q h x = moved (λ r s. P (list_of r) s) h.rows h.passed x

-- and before
pub back : (P : List Row → ℕ → Type 0) (p q : Scopes) → Stays p q → P (list_of q.rows.now) q.passed
    → P (list_of p.rows.now) p.passed
back P p q h x = moved (λ r s. P (list_of r) s) (sym h.rows) (sym h.passed) x

pub stays_through : (p q r : Scopes) → Stays p q → Stays q r → Stays p r
stays_through p q r h k = record { rows = k.rows ∙ h.rows; passed = k.passed ∙ h.passed }

pub keeps_through : (p q r : Scopes) → Keeps p q → Keeps q r → Keeps p r
keeps_through p q r h k =
    record { stays = stays_through p q r h.stays k.stays; bound = k.bound ∙ h.bound; first = k.first ∙ h.first }

pub passes_through : (p q r : Scopes) → Stays p q → Passes q r → Passes p r
passes_through p q r h k = record { rows = k.rows ∙ h.rows; passed = k.passed ∙ ap (λ n. n + 1) h.passed }

-- ---- the names of the rows are those of the table

bound_one : (n : Node) (x : ℕ) → bound_name n ≡ Some x → name_of n ≡ Some x
bound_one (Param y k) x e = e
bound_one (Binding y a) x e = e
bound_one (Next y k o v) x e = e
bound_one (Index y) x e = e
bound_one (Def y h k b) x e = e
bound_one _ x e = let d : None ≡ Some x = e in cc

used_one : (n : Node) (x : ℕ) → used_name n ≡ Some x → name_of n ≡ Some x
used_one (Name y) x e = e
used_one (Enter y) x e = e
used_one (NextUse y) x e = e
used_one _ x e = let d : None ≡ Some x = e in cc

pub are_names : (r : Rows) → AreNames (list_of r) (length r.table.now.names.items)
are_names r = record {
  bound = λ i x less e. r.table.now.named.each i x less (bound_one (at (list_of r) i).node x e);
  used = λ i x less e. r.table.now.named.each i x less (used_one (at (list_of r) i).node x e);
}

-- a scope uses no name
pub scope_key : (n : Node) → is_scope n ≡ true → key_of n ≡ None
scope_key (Name x) e = absurd (false≢true e)
scope_key (Enter x) e = absurd (false≢true e)
scope_key (NextUse x) e = absurd (false≢true e)
scope_key _ e = refl

pub none : {A : Type 0} (o : Option A) → ((k : A) → o ≡ Some k → ⊥) → o ≡ None
none None h = refl
none (Some k) h = absurd (h k refl)

-- ---- what a test says of two rows that were read

pub by_nodes : (f : Node → Node → Bool) (R : List Row) (s b : ℕ) (x y : Row) (t : Bool) → x ≡ at R s → y ≡ at R b
    → t ≡ f x.node y.node → f (at R s).node (at R b).node ≡ t
by_nodes f R s b x y t d e h =
    sym (h ∙ (ap (λ (r : Row). f r.node y.node) d ∙ ap (λ (r : Row). f (at R s).node r.node) e))

pub by_node : {A : Type 0} (f : Node → A) (R : List Row) (i : ℕ) (x : Row) (t : A) → x ≡ at R i → t ≡ f x.node
    → f (at R i).node ≡ t
by_node f R i x t d h = sym (h ∙ ap (λ (r : Row). f r.node) d)

-- ---- what a scope knows of the uses stays, too

pub waiting_back : (p q : Scopes) (os ls es : List (Option ℕ)) → Stays p q
    → AreWaiting (rows q) q.passed (keys_of q) os ls es → AreWaiting (rows p) p.passed (keys_of p) os ls es
waiting_back p q os ls es h x =
    moved (λ r s. AreWaiting (list_of r) s (keys (length r.table.now.names.items)) os ls es) (sym h.rows) (sym h.passed)
    x

pub key_on : (p q : Scopes) (k : ℕ) → Stays p q → k < keys_of p → k < keys_of q
key_on p q k h x = subst (λ r. k < keys (length r.table.now.names.items)) (sym h.rows) x

pub outside_back : (p q : Scopes) (u : ℕ) → Stays p q → is_outside (rows q) q.passed u ≡ is_outside (rows p) p.passed u
outside_back p q u h = on (λ R s. is_outside R s u ≡ is_outside (rows p) p.passed u) p q h refl

pub behind_below : (R : List Row) (os : List (Option ℕ)) (s x l : ℕ) (o : Option ℕ) → IsBehind R os s x o → o ≡ Some l
    → l < s
behind_below R os s x l None b e = let d : None ≡ Some l = e in cc
behind_below R os s x l (Some k) b e = let d : k ≡ l = same k e in subst (λ z. z < s) d b.0
  where
    same : (k : ℕ) → Some k ≡ Some l → k ≡ l
    same k e = cc
