-- What is true of the feeds of each row: they come from sides of instructions, and they differ. By cases on the row.
use Rattle.std.proofs.Common.{◌≡◌, inl, inr, ℕ, suc, ◌+◌, ◌-◌, ◌≤◌, ◌<◌, Bool, true, false}
use Rattle.std.proofs.Common.{cond, List, [], ◌∷◌, length, refl, ap, sym, subst, ◌∙◌, arith}
use Rattle.std.proofs.lemmas.Bool.{false≢true}
use Rattle.id_value.specs.List.{Among, AllDiffer}
use Rattle.id_value.proofs.AmongLemmas.{Among-either}
use Rattle.id_value.proofs.DifferLemmas.{AllDiffer-append}
use Rattle.id_table.specs.declared.row.Region.{Region}
use Rattle.id_table.specs.declared.row.Node.{Node}
use Rattle.id_table.specs.declared.row.Node.TheVariants.{Head, Param, Literal, Name, Unary as UnaryNode}
use Rattle.id_table.specs.declared.row.Node.TheVariants.{Binary as BinaryNode, Split, If, Enter, Arg, Call, Block}
use Rattle.id_table.specs.declared.row.Node.TheVariants.{Binding, Def, Program, Start, LoopHead, Variable, Entries}
use Rattle.id_table.specs.declared.row.Node.TheVariants.{Switches, Turn, NextUse, Next, Body, Reset, Loop, Array, Fetch}
use Rattle.id_table.specs.declared.row.Node.TheVariants.{Address, Store, Bounds, Carried, Within, Count, Index, Span}
use Rattle.id_table.specs.Rows.{arm_at, at, top}
use Rattle.id_table.specs.Tables.{is_enter}
use Rattle.id_check.specs.declared.checked.Checked.{Checked}
use Rattle.id_check.specs.Programs.{rows, place, region}
use Rattle.id_desugar.specs.Regions.{carried, has_index, imports_of}
use Rattle.id_instr.specs.declared.instr.Op.TheVariants.{Merge, Switch}
use Rattle.id_instr.specs.declared.dests.Port.{Port}
use Rattle.id_instr.specs.declared.dests.Port.TheVariants.{Zero, One}
use Rattle.id_build.specs.declared.arc.Origin.{Origin}
use Rattle.id_build.specs.declared.arc.Feed.{Feed}
use Rattle.id_build.specs.declared.arc.Piece.{Piece}
use Rattle.id_build.specs.Rows.{block, bounds_feeds, carried_feeds, entering, entries_row, entry_feeds, feed, feeds_of}
use Rattle.id_build.specs.Rows.{import_feeds, label, made, made_of, name_in, named_in, node, origin, origin_of, output}
use Rattle.id_build.specs.Rows.{part_of, reply, switches, trigger_of, turn_feeds, turn_row}
use Rattle.id_build.proofs.NamesSeen.{Comes, HasSwitches, comes, from_entry, from_label, from_switch, of_arms, of_turns}
use Rattle.id_build.proofs.RowLemmas.{AllSeen, Gives, HasEntries, Heads, IsBuildable, IsEntered, IsOrigin, IsOriginOf}
use Rattle.id_build.proofs.RowLemmas.{IsPart, IsSeen, IsTurned, IsValue, Suits, SuitsBounds, SuitsCarried, for_each-at}
use Rattle.id_build.proofs.RowLemmas.{home, home_of, is_label}

label_gives : (P : Checked) (m e : ℕ) (n : Node) → is_label n ≡ true → Gives (made_of P m e n) 0 true
label_gives P m e (Param x k) h = record { piece = _; at = refl; gives = λ _. refl }
label_gives P m e (Binding x a) h = record { piece = _; at = refl; gives = λ _. refl }
label_gives P m e (Carried k) h = record { piece = _; at = refl; gives = λ _. refl }
label_gives P m e Variable h = record { piece = _; at = refl; gives = λ _. refl }
label_gives P m e _ h = absurd (false≢true h)

-- what is bound belongs where its label stands
label_home : (n : Node) (r : Region) (s : Origin) → is_label n ≡ true → home_of n r s ≡ r
label_home (Param x k) r s h = refl
label_home (Binding x a) r s h = refl
label_home Variable r s h = refl
label_home (Carried k) r s h = refl
label_home _ r s h = absurd (false≢true h)

-- the switch of each import sends on both sides
switch_gives : (P : Checked) (e : ℕ) (side : Bool) (p : Piece) (bs : List ℕ) (k : ℕ) → k < length bs
    → Gives (p ∷ switches P e bs) (suc k) side
switch_gives P e side p bs k l =
    let z = for_each-at P Switch e bs k l in record { piece = _; at = z.1; gives = λ _. tt }

switches_give : (P : Checked) (n t k : ℕ) (c : Bool) → HasSwitches P n t → k < length (imports_of P n)
    → Gives (made P n) (suc k) c
switches_give P n t k c (of_arms is) l =
    subst (λ x. Gives (made_of P n (place P n) x) (suc k) c) (sym is)
    (switch_gives P (place P n) c _ (imports_of P n) k l)
switches_give P n t k c (of_turns is) l =
    subst (λ x. Gives (made_of P n (place P n) x) (suc k) c) (sym is)
    (switch_gives P (place P n) c _ (imports_of P n) k l)

switches_home : (P : Checked) (n t k : ℕ) (c : Bool) → HasSwitches P n t
    → home P (record { row = n; part = suc k; side = c }) ≡ arm_at n c
switches_home P n t k c (of_arms is) = ap (λ x. home_of x (region P n) (record { row = n; part = suc k; side = c })) is
switches_home P n t k c (of_turns is) = ap (λ x. home_of x (region P n) (record { row = n; part = suc k; side = c })) is

-- the merge of each import sends
entry_gives : (P : Checked) (h k : ℕ) → HasEntries P h → k < length (imports_of P h)
    → Gives (made P (entries_row P h)) k true
entry_gives P h k e l =
    let n = entries_row P h in
    let less = subst (λ g. k < length (imports_of P g)) (sym e.block) l in
    let z = for_each-at P Merge (place P n) (imports_of P (block P n)) k less in
    subst (λ x. Gives (made_of P n (place P n) x) k true) (sym e.node) (record {
      piece = _;
      at = z.1;
      gives =
          λ _. refl;
    })

-- where the value of a name comes from in a region that sees its binder
pub named_origin : (P : Checked) (r : Region) (b : ℕ) → IsBuildable P → IsSeen P r b → IsOriginOf P r (name_in P r b)
named_origin P r b t h = by (comes P r b h.sees)
  where
    by : Comes P r b → IsOriginOf P r (name_in P r b)
    by (from_label here is) =
        let Z : Origin → Type 0 = IsOriginOf P r in
        let m = label P b in
        subst Z (sym is) (record {
          is_origin = record { within = h.within; gives = label_gives P m (place P m) (node P m) h.is_label };
          side = ap (λ (z : Region). z.side) (label_home (node P m) (region P m) (output m) h.is_label) ∙ h.side
              ∙ ap (λ (z : Region). z.side) here;
        })
    by (from_switch n t k c within switched less there rest arm is) =
        let Z : Origin → Type 0 = IsOriginOf P r in
        subst Z (sym is) (record {
          is_origin = record { within = within; gives = switches_give P n t k c switched less };
          side = ap (λ (z : Region). z.side) (switches_home P n t k c switched ∙ sym arm);
        })
    by (from_entry h s k within loop less there rest right is) =
        let Z : Origin → Type 0 = IsOriginOf P r in
        let e = t.entered h s within loop in
        let o : Origin = record { row = entries_row P h; part = k; side = true } in
        subst Z (sym is) (record {
          is_origin = record { within = e.within; gives = entry_gives P h k e less };
          side = ap (λ (z : Region). z.side) (ap (λ x. home_of x (region P (entries_row P h)) o) e.node ∙ e.region
              ∙ sym right);
        })

-- a row of another node than a split's belongs where it stands
own : (P : Checked) (v : ℕ) (n : Node) → v < length (rows P) → node P v ≡ n
    → home_of n (region P v) (output v) ≡ region P v →
    Gives (made_of P v (place P v) n) 0 true
    → IsOriginOf P (region P v) (output v)
own P v n l e h g =
    let G : Node → Type 0 = λ x. Gives (made_of P v (place P v) x) 0 true in
    record {
      is_origin = record { within = l; gives = subst G (sym e) g };
      side =
          ap (λ (z : Region). z.side) (ap (λ x. home_of x (region P v) (output v)) e ∙ h);
    }

value_origin : (P : Checked) (v : ℕ) (n : Node) → IsBuildable P → v < length (rows P) → node P v ≡ n → IsValue n →
    IsOriginOf P (region P v) (origin_of P v (region P v) n)
value_origin P v (Name x) t l e h =
    let named = t.named v x l e in
    let Z : Origin → Type 0 = IsOriginOf P (region P v) in
    subst Z (sym (ap (named_in P (region P v) v) named.binds)) (named_origin P (region P v) named.row t named.seen)
value_origin P v (Literal c) t l e h = own P v (Literal c) l e refl (record { piece = _; at = refl; gives = λ _. refl })
value_origin P v (UnaryNode o a) t l e h =
    own P v (UnaryNode o a) l e refl (record { piece = _; at = refl; gives = λ _. refl })
value_origin P v (BinaryNode o a b) t l e h =
    own P v (BinaryNode o a b) l e refl (record { piece = _; at = refl; gives = λ _. refl })
value_origin P v (If s x y) t l e h = own P v (If s x y) l e refl (record { piece = _; at = refl; gives = λ _. refl })
value_origin P v (Call s c) t l e h = own P v (Call s c) l e refl (record { piece = _; at = refl; gives = λ _. refl })
value_origin P v (Carried k) t l e h = own P v (Carried k) l e refl (record { piece = _; at = refl; gives = λ _. refl })
value_origin P v (Loop g w x) t l e h =
    own P v (Loop g w x) l e refl (record { piece = _; at = refl; gives = λ _. refl })
value_origin P v (Array nested a b) t l e h =
    own P v (Array nested a b) l e refl (record { piece = _; at = refl; gives = λ _. refl })
value_origin P v (Fetch a b) t l e h =
    let G : Node → Type 0 = λ x. Gives (made_of P v (place P v) x) 2 true in
    record {
      is_origin = record { within = l; gives = subst G (sym e) (record { piece = _; at = refl; gives = λ _. refl }) };
      side = ap (λ (z : Region). z.side) (ap (λ x. home_of x (region P v) (reply v)) e);
    }
value_origin P v _ t l e h = absurd h

-- the value of a part comes from an origin of its region
pub part_origin : (P : Checked) (r : Region) (e : ℕ) → IsBuildable P → IsPart P r e → IsOriginOf P r (origin P e)
part_origin P r e t p =
    let v = (at (rows P) e).value in
    let Z : Region → Type 0 = λ x. IsOriginOf P x (origin P e) in
    subst Z p.region_of (value_origin P v (node P v) t p.within refl p.value)

head_gives : (P : Checked) (m e : ℕ) (n : Node) (b : Bool) → Heads n b → Gives (made_of P m e n) 0 b
head_gives P m e Head b h = record { piece = _; at = refl; gives = λ _. h }
head_gives P m e (LoopHead s) b h = record { piece = _; at = refl; gives = λ _. h }
head_gives P m e (Split t) b h = record { piece = _; at = refl; gives = λ _. tt }
head_gives P m e (Switches t) b h = record { piece = _; at = refl; gives = λ _. tt }
head_gives P m e _ b h = absurd h

-- what turns a region on is the side of an instruction
pub trigger_origin : (P : Checked) (r : Region) → IsTurned P r → IsOrigin P (trigger_of r)
trigger_origin P r h =
    record { within = h.within; gives = head_gives P r.head (place P r.head) (node P r.head) r.side h.heads }

enter_gives : (P : Checked) (m e : ℕ) (n : Node) → is_enter n ≡ true → Gives (made_of P m e n) 0 true
enter_gives P m e (Enter x) h = record { piece = _; at = refl; gives = λ _. refl }
enter_gives P m e _ h = cc

-- the context of a call comes from an origin
pub context_origin : (P : Checked) (e : ℕ) → IsEntered P e → IsOrigin P (output e)
context_origin P e h = record { within = h.within; gives = enter_gives P e (place P e) (node P e) h.is_enter }

-- a feed has the origin that it is made with
from_only : (P : Checked) (s : Origin) (k : ℕ) (p : Port) (f : Feed) → IsOrigin P s → f ≡ feed s k p
    → IsOrigin P f.origin
from_only P s k p f g i = let Z : Origin → Type 0 = IsOrigin P in subst Z (sym (ap (λ x. x.origin) i)) g

imports_come : (P : Checked) (s : Origin) (r : Region) (k : ℕ) (bs : List ℕ) (f : Feed) → IsBuildable P → IsOrigin P s
    → AllSeen P r bs → Among f (import_feeds P s r k bs) → IsOrigin P f.origin
imports_come P s r k [] f t g a h = absurd h
imports_come P s r k (b ∷ bs) f t g a (inl i) = from_only P s k Zero f g i
imports_come P s r k (b ∷ bs) f t g a (inr (inl i)) =
    from_only P (name_in P r b) k One f (named_origin P r b t (a b (inl refl))).is_origin i
imports_come P s r k (b ∷ bs) f t g a (inr (inr h)) = imports_come P s r (k + 1) bs f t g (λ c i. a c (inr i)) h

entries_come : (P : Checked) (n i k : ℕ) (bs : List ℕ) (f : Feed)
    → ((j : ℕ) → j < length bs → IsOrigin P (part_of n (i + j)))
    → Among f (entry_feeds n i k bs) → IsOrigin P f.origin
entries_come P n m k [] f all h = absurd h
entries_come P n m k (b ∷ bs) f all (inl i) =
    let here : m + 0 ≡ m = omega arith in
    from_only P _ k Zero f (subst (λ z. IsOrigin P (part_of n z)) here (all 0 (omega arith))) i
entries_come P n m k (b ∷ bs) f all (inr h) =
    entries_come P n (m + 1) (k + 1) bs f
    (λ j l. (
    let next : m + suc j ≡ m + 1 + j = omega arith in
    subst (λ z. IsOrigin P (part_of n z)) next (all (suc j) (omega (arith, l))))) h

bounds_come : (P : Checked) (m : ℕ) (r : Region) (x : Node) (f : Feed) → IsBuildable P → IsOrigin P (output m)
    → SuitsBounds P m r x → Among f (bounds_feeds P m x) → IsOrigin P f.origin
bounds_come P m r (Bounds a b) f t o s (inl i) = from_only P _ _ _ f o i
bounds_come P m r (Bounds a b) f t o s (inr (inl i)) = from_only P _ _ _ f s.1 i
bounds_come P m r (Bounds a b) f t o s (inr (inr (inl i))) = from_only P _ _ _ f o i
bounds_come P m r (Bounds a b) f t o s (inr (inr (inr (inl i)))) =
    from_only P _ _ _ f (part_origin P r b t s.2).is_origin i
bounds_come P m r (Bounds a b) f t o s (inr (inr (inr (inr (inl i))))) = from_only P _ _ _ f o i
bounds_come P m r (Bounds a b) f t o s (inr (inr (inr (inr (inr (inl i)))))) = from_only P _ _ _ f s.3 i
bounds_come P m r (Bounds a b) f t o s (inr (inr (inr (inr (inr (inr h)))))) = absurd h
bounds_come P m r _ f t o s h = absurd h

carried_come : (P : Checked) (m : ℕ) (r : Region) (g : ℕ) (f : Feed) → IsBuildable P → SuitsCarried P m r g
    → Among f (carried_feeds P m r g) → IsOrigin P f.origin
carried_come P m r g f t s among = go (has_index P g) refl among
  where
    fs : List Feed
    fs = feed (part_of (m - 1) 4) 1 Zero ∷ feed (name_in P r (g + 2)) 2 Zero ∷ feed (output (m - 1)) 3 Zero ∷ []

    there : has_index P g ≡ true → Among f fs → IsOrigin P f.origin
    there e (inl i) = from_only P _ _ _ f (s e).0 i
    there e (inr (inl i)) = from_only P _ _ _ f (named_origin P r (g + 2) t (s e).1).is_origin i
    there e (inr (inr (inl i))) = from_only P _ _ _ f (s e).2 i
    there e (inr (inr (inr h))) = absurd h

    go : (b : Bool) → has_index P g ≡ b → Among f (cond b fs []) → IsOrigin P f.origin
    go true e h = there e h
    go false e h = absurd h

turn_come : (P : Checked) (r : Region) (k : ℕ) (bs : List ℕ) (f : Feed) → IsBuildable P → AllSeen P r bs
    → Among f (turn_feeds P r k bs) → IsOrigin P f.origin
turn_come P r k [] f t a h = absurd h
turn_come P r k (b ∷ bs) f t a (inl i) =
    from_only P (name_in P r b) k Zero f (named_origin P r b t (a b (inl refl))).is_origin i
turn_come P r k (b ∷ bs) f t a (inr h) = turn_come P r (k + 1) bs f t (λ c i. a c (inr i)) h

-- each feed of a row comes from a side of an instruction
pub feeds_come : (P : Checked) (m : ℕ) (r : Region) (n : Node) (f : Feed) → IsBuildable P → Suits P m r n
    → Among f (feeds_of P m r n) → IsOrigin P f.origin
feeds_come P m r Head f t s (inl i) = from_only P _ _ _ f (part_origin P (top m) _ t s).is_origin i
feeds_come P m r Head f t s (inr h) = absurd h
feeds_come P m r (Param x k) f t s h = absurd h
feeds_come P m r (Literal v) f t s (inl i) = from_only P _ _ _ f (trigger_origin P r s) i
feeds_come P m r (Literal v) f t s (inr h) = absurd h
feeds_come P m r (Name x) f t s h = absurd h
feeds_come P m r (UnaryNode o a) f t s (inl i) = from_only P _ _ _ f (part_origin P r a t s).is_origin i
feeds_come P m r (UnaryNode o a) f t s (inr h) = absurd h
feeds_come P m r (BinaryNode o a b) f t s (inl i) = from_only P _ _ _ f (part_origin P r a t s.0).is_origin i
feeds_come P m r (BinaryNode o a b) f t s (inr (inl i)) = from_only P _ _ _ f (part_origin P r b t s.1).is_origin i
feeds_come P m r (BinaryNode o a b) f t s (inr (inr h)) = absurd h
feeds_come P m r (Split c) f t s (inl i) = from_only P _ _ _ f (part_origin P r c t s.0).is_origin i
feeds_come P m r (Split c) f t s (inr (inl i)) = from_only P _ _ _ f (trigger_origin P r s.1) i
feeds_come P m r (Split c) f t s (inr (inr h)) =
    imports_come P (origin P c) r 1 (imports_of P m) f t (part_origin P r c t s.0).is_origin s.2 h
feeds_come P m r (If g x y) f t s (inl i) = from_only P _ _ _ f (part_origin P (arm_at g true) x t s.0).is_origin i
feeds_come P m r (If g x y) f t s (inr (inl i)) =
    from_only P _ _ _ f (part_origin P (arm_at g false) y t s.1).is_origin i
feeds_come P m r (If g x y) f t s (inr (inr h)) = absurd h
feeds_come P m r (Enter x) f t s (inl i) = from_only P _ _ _ f (trigger_origin P r s) i
feeds_come P m r (Enter x) f t s (inr h) = absurd h
feeds_come P m r (Arg g k v) f t s (inl i) = from_only P _ _ _ f (context_origin P g s.0) i
feeds_come P m r (Arg g k v) f t s (inr (inl i)) = from_only P _ _ _ f (part_origin P r v t s.1).is_origin i
feeds_come P m r (Arg g k v) f t s (inr (inr h)) = absurd h
feeds_come P m r (Call g c) f t s h = absurd h
feeds_come P m r (Block b) f t s h = absurd h
feeds_come P m r (Binding x a) f t s (inl i) = from_only P _ _ _ f (part_origin P r a t s).is_origin i
feeds_come P m r (Binding x a) f t s (inr h) = absurd h
feeds_come P m r (Def x g k b) f t s h = absurd h
feeds_come P m r Program f t s h = absurd h
feeds_come P m r (Bounds a b) f t s (inl i) = from_only P _ _ _ f (part_origin P r a t s.0).is_origin i
feeds_come P m r (Bounds a b) f t s (inr (inl i)) = from_only P _ _ _ f (part_origin P r b t s.1).is_origin i
feeds_come P m r (Bounds a b) f t s (inr (inr (inl i))) = from_only P _ _ _ f s.2 i
feeds_come P m r (Bounds a b) f t s (inr (inr (inr (inl i)))) =
    from_only P _ _ _ f (part_origin P r a t s.0).is_origin i
feeds_come P m r (Bounds a b) f t s (inr (inr (inr (inr h)))) = absurd h
feeds_come P m r (Carried k) f t s (inl i) = from_only P _ _ _ f s i
feeds_come P m r (Carried k) f t s (inr h) = absurd h
feeds_come P m r Count f t s (inl i) = from_only P _ _ _ f s.0 i
feeds_come P m r Count f t s (inr (inl i)) = from_only P _ _ _ f (named_origin P r (block P m + 2) t s.1).is_origin i
feeds_come P m r Count f t s (inr (inr (inl i))) = from_only P _ _ _ f s.3 i
feeds_come P m r Count f t s (inr (inr (inr (inl i)))) = from_only P _ _ _ f (trigger_origin P r s.2) i
feeds_come P m r Count f t s (inr (inr (inr (inr (inl i))))) = from_only P _ _ _ f s.3 i
feeds_come P m r Count f t s (inr (inr (inr (inr (inr (inl i)))))) = from_only P _ _ _ f s.0 i
feeds_come P m r Count f t s (inr (inr (inr (inr (inr (inr (inl i))))))) = from_only P _ _ _ f s.4 i
feeds_come P m r Count f t s (inr (inr (inr (inr (inr (inr (inr (inl i)))))))) = from_only P _ _ _ f s.5 i
feeds_come P m r Count f t s (inr (inr (inr (inr (inr (inr (inr (inr (inl i))))))))) = from_only P _ _ _ f s.6 i
feeds_come P m r Count f t s (inr (inr (inr (inr (inr (inr (inr (inr (inr h))))))))) = absurd h
feeds_come P m r (Within g) f t s h = absurd h
feeds_come P m r (Index x) f t s h = absurd h
feeds_come P m r Span f t s h = absurd h
feeds_come P m r Start f t s (inl i) = from_only P _ _ _ f (trigger_origin P r s.0) i
feeds_come P m r Start f t s (inr h) =
    let k = 1 + length (carried P (m + 1)) in
    elim (Among-either f (bounds_feeds P m (node P (m - 1))) (import_feeds P (output m) r k (entering P (m + 1))) h) [
      | inl i ↦ bounds_come P m r (node P (m - 1)) f t s.1 s.3 i
      | inr i ↦ imports_come P (output m) r k (entering P (m + 1)) f t s.1 s.2 i
    ]
feeds_come P m r (LoopHead g) f t s (inl i) = from_only P _ _ _ f s.0 i
feeds_come P m r (LoopHead g) f t s (inr (inl i)) = from_only P _ _ _ f s.1 i
feeds_come P m r (LoopHead g) f t s (inr (inr h)) = absurd h
feeds_come P m r Variable f t s (inl i) = from_only P _ _ _ f s i
feeds_come P m r Variable f t s (inr h) = absurd h
feeds_come P m r Entries f t s h =
    entries_come P (turn_row P (block P m)) (1 + length (carried P (block P m))) 0 (imports_of P (block P m)) f s h
feeds_come P m r (Switches c) f t s (inl i) = from_only P _ _ _ f (part_origin P r c t s.0).is_origin i
feeds_come P m r (Switches c) f t s (inr (inl i)) = from_only P _ _ _ f (trigger_origin P r s.1) i
feeds_come P m r (Switches c) f t s (inr (inr h)) =
    imports_come P (origin P c) r 1 (imports_of P m) f t (part_origin P r c t s.0).is_origin s.2 h
feeds_come P m r Turn f t s (inl i) = from_only P _ _ _ f (trigger_origin P r s.0) i
feeds_come P m r Turn f t s (inr h) =
    let g = block P m in
    let k = 1 + length (carried P g) in
    elim (Among-either f (carried_feeds P m r g) (turn_feeds P r k (imports_of P g)) h) [
      | inl i ↦ carried_come P m r g f t s.2 i
      | inr i ↦ turn_come P r k (imports_of P g) f t s.1 i
    ]
feeds_come P m r (NextUse x) f t s h = absurd h
feeds_come P m r (Next x k o v) f t s (inl i) = from_only P _ _ _ f (part_origin P r v t s).is_origin i
feeds_come P m r (Next x k o v) f t s (inr h) = absurd h
feeds_come P m r Body f t s h = absurd h
feeds_come P m r (Reset v) f t s (inl i) = from_only P _ _ _ f (part_origin P r v t s).is_origin i
feeds_come P m r (Reset v) f t s (inr h) = absurd h
feeds_come P m r (Loop g w l) f t s h = absurd h
feeds_come P m r (Array nested a b) f t s (inl i) = from_only P _ _ _ f (part_origin P r a t s.0).is_origin i
feeds_come P m r (Array nested a b) f t s (inr (inl i)) = from_only P _ _ _ f (part_origin P r b t s.1).is_origin i
feeds_come P m r (Array nested a b) f t s (inr (inr h)) = absurd h
feeds_come P m r (Fetch a b) f t s (inl i) = from_only P _ _ _ f (part_origin P r a t s.0).is_origin i
feeds_come P m r (Fetch a b) f t s (inr (inl i)) = from_only P _ _ _ f (part_origin P r b t s.1).is_origin i
feeds_come P m r (Fetch a b) f t s (inr (inr (inl i))) = from_only P _ _ _ f s.2 i
feeds_come P m r (Fetch a b) f t s (inr (inr (inr h))) = absurd h
feeds_come P m r (Address a b) f t s (inl i) = from_only P _ _ _ f (part_origin P r a t s.0).is_origin i
feeds_come P m r (Address a b) f t s (inr (inl i)) = from_only P _ _ _ f (part_origin P r b t s.1).is_origin i
feeds_come P m r (Address a b) f t s (inr (inr h)) = absurd h
feeds_come P m r (Store a v) f t s (inl i) = from_only P _ _ _ f s.0 i
feeds_come P m r (Store a v) f t s (inr (inl i)) = from_only P _ _ _ f (part_origin P r v t s.1).is_origin i
feeds_come P m r (Store a v) f t s (inr (inr h)) = absurd h

-- the feeds of imports go to the parts from k on
imports_later : (P : Checked) (s : Origin) (r : Region) (k : ℕ) (bs : List ℕ) (f : Feed)
    → Among f (import_feeds P s r k bs) → k ≤ f.part
imports_later P s r k [] f h = absurd h
imports_later P s r k (b ∷ bs) f (inl i) = omega (arith, ap (λ x. x.part) i)
imports_later P s r k (b ∷ bs) f (inr (inl i)) = omega (arith, ap (λ x. x.part) i)
imports_later P s r k (b ∷ bs) f (inr (inr h)) = let rest = imports_later P s r (k + 1) bs f h in omega arith

imports_differ : (P : Checked) (s : Origin) (r : Region) (k : ℕ) (bs : List ℕ) → AllDiffer (import_feeds P s r k bs)
imports_differ P s r k [] = tt
imports_differ P s r k (b ∷ bs) = (
  λ h. elim h [
    | inl i ↦ (let e = ap (λ x. x.port) i in cc)
    | inr i ↦ (let later = imports_later P s r (k + 1) bs (feed s k Zero) i in absurd (omega arith))
  ],
  (
    λ h. (let later = imports_later P s r (k + 1) bs (feed (name_in P r b) k One) h in absurd (omega arith)),
    imports_differ P s r (k + 1) bs,
  ),
)

entries_later : (n m k : ℕ) (bs : List ℕ) (f : Feed) → Among f (entry_feeds n m k bs) → k ≤ f.part
entries_later n m k [] f h = absurd h
entries_later n m k (b ∷ bs) f (inl i) = omega (arith, ap (λ x. x.part) i)
entries_later n m k (b ∷ bs) f (inr h) = let rest = entries_later n (m + 1) (k + 1) bs f h in omega arith

entries_differ : (n m k : ℕ) (bs : List ℕ) → AllDiffer (entry_feeds n m k bs)
entries_differ n m k [] = tt
entries_differ n m k (b ∷ bs) = (
  λ h. (let later = entries_later n (m + 1) (k + 1) bs (feed (part_of n m) k Zero) h in absurd (omega arith)),
  entries_differ n (m + 1) (k + 1) bs,
)

turn_later : (P : Checked) (r : Region) (k : ℕ) (bs : List ℕ) (f : Feed) → Among f (turn_feeds P r k bs) → k ≤ f.part
turn_later P r k [] f h = absurd h
turn_later P r k (b ∷ bs) f (inl i) = omega (arith, ap (λ x. x.part) i)
turn_later P r k (b ∷ bs) f (inr h) = let rest = turn_later P r (k + 1) bs f h in omega arith

turn_differ : (P : Checked) (r : Region) (k : ℕ) (bs : List ℕ) → AllDiffer (turn_feeds P r k bs)
turn_differ P r k [] = tt
turn_differ P r k (b ∷ bs) = (
  λ h. (let later = turn_later P r (k + 1) bs (feed (name_in P r b) k Zero) h in absurd (omega arith)),
  turn_differ P r (k + 1) bs,
)

-- feeds differ that go on to a later port each
abbrev port_rank : Port → ℕ
port_rank Zero = 0
port_rank One = 1

abbrev feed_rank : Feed → ℕ
feed_rank f = f.part + f.part + port_rank f.port

abbrev Rising : ℕ → List Feed → Type 0
Rising k [] = Unit {0}
Rising k (f ∷ fs) = (k ≤ feed_rank f) × Rising (suc (feed_rank f)) fs

rising_later : (k : ℕ) (fs : List Feed) (f : Feed) → Rising k fs → Among f fs → k ≤ feed_rank f
rising_later k [] f u h = absurd h
rising_later k (x ∷ fs) f u (inl i) = omega (arith, u.0, ap feed_rank i)
rising_later k (x ∷ fs) f u (inr h) = let rest = rising_later (suc (feed_rank x)) fs f u.1 h in omega (arith, u.0, rest)

rising_differ : (k : ℕ) (fs : List Feed) → Rising k fs → AllDiffer fs
rising_differ k [] u = tt
rising_differ k (x ∷ fs) u = (
  λ h. (let later = rising_later (suc (feed_rank x)) fs x u.1 h in absurd (omega (arith, later))),
  rising_differ (suc (feed_rank x)) fs u.1,
)

carried_rise : (P : Checked) (m : ℕ) (r : Region) (g : ℕ) → Rising 1 (carried_feeds P m r g)
carried_rise P m r g = go (has_index P g)
  where
    go : (t : Bool)
        → Rising 1
        (cond t (feed (part_of (m - 1) 4) 1 Zero ∷ feed (name_in P r (g + 2)) 2 Zero ∷ feed (output (m - 1)) 3 Zero
        ∷ []) [])
    go true = (omega arith, (omega arith, (omega arith, tt)))
    go false = tt

bounds_rise : (P : Checked) (m : ℕ) (x : Node) → Rising 1 (bounds_feeds P m x)
bounds_rise P m (Bounds a b) =
    (omega arith, (omega arith, (omega arith, (omega arith, (omega arith, (omega arith, tt))))))
bounds_rise P m _ = tt

-- they go to no other parts than those of what is carried on
carried_early : (P : Checked) (m : ℕ) (r : Region) (g : ℕ) (f : Feed) → Among f (carried_feeds P m r g)
    → (1 ≤ f.part) × (f.part ≤ length (carried P g))
carried_early P m r g f among = go (has_index P g) among
  where
    fs : List Feed
    fs = feed (part_of (m - 1) 4) 1 Zero ∷ feed (name_in P r (g + 2)) 2 Zero ∷ feed (output (m - 1)) 3 Zero ∷ []

    there : Among f fs → (1 ≤ f.part) × (f.part ≤ 3)
    there (inl i) = let e = ap (λ (x : Feed). x.part) i in (omega (arith, e), omega (arith, e))
    there (inr (inl i)) = let e = ap (λ (x : Feed). x.part) i in (omega (arith, e), omega (arith, e))
    there (inr (inr (inl i))) = let e = ap (λ (x : Feed). x.part) i in (omega (arith, e), omega (arith, e))
    there (inr (inr (inr h))) = absurd h

    go : (t : Bool) → Among f (cond t fs [])
        → (1 ≤ f.part) × (f.part ≤ length (cond t ((g + 1) ∷ (g + 2) ∷ (g + 3) ∷ []) []))
    go true h = there h
    go false h = absurd h

bounds_early : (P : Checked) (m : ℕ) (r : Region) (x : Node) (f : Feed) → SuitsBounds P m r x
    → Among f (bounds_feeds P m x) → (1 ≤ f.part) × (f.part ≤ length (carried P (m + 1)))
bounds_early P m r (Bounds a b) f s among = let z = there among in (z.0, omega (arith, z.1, three))
  where
    three : length (carried P (m + 1)) ≡ 3
    three = ap (λ (t : Bool). length (cond t ((m + 1 + 1) ∷ (m + 1 + 2) ∷ (m + 1 + 3) ∷ []) [])) s.0

    there : Among f (bounds_feeds P m (Bounds a b)) → (1 ≤ f.part) × (f.part ≤ 3)
    there (inl i) = let e = ap (λ (x : Feed). x.part) i in (omega (arith, e), omega (arith, e))
    there (inr (inl i)) = let e = ap (λ (x : Feed). x.part) i in (omega (arith, e), omega (arith, e))
    there (inr (inr (inl i))) = let e = ap (λ (x : Feed). x.part) i in (omega (arith, e), omega (arith, e))
    there (inr (inr (inr (inl i)))) = let e = ap (λ (x : Feed). x.part) i in (omega (arith, e), omega (arith, e))
    there (inr (inr (inr (inr (inl i))))) = let e = ap (λ (x : Feed). x.part) i in (omega (arith, e), omega (arith, e))
    there (inr (inr (inr (inr (inr (inl i)))))) =
        let e = ap (λ (x : Feed). x.part) i in (omega (arith, e), omega (arith, e))
    there (inr (inr (inr (inr (inr (inr h)))))) = absurd h
bounds_early P m r _ f s among = absurd among

-- the feeds of switches differ
switches_differ : (P : Checked) (m c : ℕ) (r : Region)
    → AllDiffer (feed (origin P c) 0 Zero ∷ feed (trigger_of r) 0 One
    ∷ import_feeds P (origin P c) r 1 (imports_of P m))
switches_differ P m c r = (
  λ h. elim h [
    | inl i ↦ (let e = ap (λ x. x.port) i in cc)
    | inr i ↦ (let later = imports_later P (origin P c) r 1 (imports_of P m) (feed (origin P c) 0 Zero) i in
        absurd (omega arith))
  ],
  (
    λ h. (let later = imports_later P (origin P c) r 1 (imports_of P m) (feed (trigger_of r) 0 One) h in
        absurd (omega arith)),
    imports_differ P (origin P c) r 1 (imports_of P m),
  ),
)

-- the feeds of a row differ
pub feeds_differ : (P : Checked) (m : ℕ) (r : Region) (n : Node) → IsBuildable P → Suits P m r n
    → AllDiffer (feeds_of P m r n)
feeds_differ P m r Head t s = (λ h. h, tt)
feeds_differ P m r (Param x k) t s = tt
feeds_differ P m r (Literal v) t s = (λ h. h, tt)
feeds_differ P m r (Name x) t s = tt
feeds_differ P m r (UnaryNode o a) t s = (λ h. h, tt)
feeds_differ P m r (BinaryNode o a b) t s =
    (λ h. elim h [ inl i ↦ (let e = ap (λ f. f.port) i in cc) | inr i ↦ i ], (λ h. h, tt))
feeds_differ P m r (Split c) t s = switches_differ P m c r
feeds_differ P m r (If g x y) t s = (
  λ h. elim h [
    | inl i ↦ (
        let one = (part_origin P (arm_at g true) x t s.0).side in
        let two = (part_origin P (arm_at g false) y t s.1).side in
        let sides : true ≡ false = sym one ∙ ap (λ z. (home P z).side) (ap (λ z. z.origin) i) ∙ two in
        cc
        )
    | inr i ↦ i
  ],
  (λ h. h, tt),
)
feeds_differ P m r (Enter x) t s = (λ h. h, tt)
feeds_differ P m r (Arg g k v) t s =
    (λ h. elim h [ inl i ↦ (let e = ap (λ f. f.port) i in cc) | inr i ↦ i ], (λ h. h, tt))
feeds_differ P m r (Call g c) t s = tt
feeds_differ P m r (Block b) t s = tt
feeds_differ P m r (Binding x a) t s = (λ h. h, tt)
feeds_differ P m r (Def x g k b) t s = tt
feeds_differ P m r Program t s = tt
feeds_differ P m r (Bounds a b) t s =
    rising_differ 0 (feeds_of P m r (Bounds a b)) (omega arith, (omega arith, (omega arith, (omega arith, tt))))
feeds_differ P m r (Carried k) t s = (λ h. h, tt)
feeds_differ P m r (Within g) t s = tt
feeds_differ P m r Count t s =
    rising_differ 0 (feeds_of P m r Count) (
      omega arith,
      (
        omega arith,
        (omega arith, (omega arith, (omega arith, (omega arith, (omega arith, (omega arith, (omega arith, tt))))))),
      ),
    )
feeds_differ P m r (Index x) t s = tt
feeds_differ P m r Span t s = tt
feeds_differ P m r Start t s =
    let k = 1 + length (carried P (m + 1)) in
    let bs = bounds_feeds P m (node P (m - 1)) in
    let is = import_feeds P (output m) r k (entering P (m + 1)) in
    let early : (f : Feed) → Among f bs → (1 ≤ f.part) × (f.part ≤ length (carried P (m + 1))) =
    λ f h. bounds_early P m r (node P (m - 1)) f s.3 h in
    let late : (f : Feed) → Among f is → k ≤ f.part =
    λ f h. imports_later P (output m) r k (entering P (m + 1)) f h in (
      λ h. elim (Among-either (feed (trigger_of r) 0 Zero) bs is h) [
        | inl i ↦ (let z = early (feed (trigger_of r) 0 Zero) i in absurd (omega (arith, z.0)))
        | inr i ↦ (let z = late (feed (trigger_of r) 0 Zero) i in absurd (omega (arith, z)))
      ],
      AllDiffer-append bs is (rising_differ 1 bs (bounds_rise P m (node P (m - 1))))
          (imports_differ P (output m) r k (entering P (m + 1)))
          (λ f i j. (let y = early f i in let z = late f j in absurd (omega (arith, y.1, z)))),
    )
feeds_differ P m r (LoopHead g) t s =
    (λ h. elim h [ inl i ↦ (let e = ap (λ f. f.port) i in cc) | inr i ↦ i ], (λ h. h, tt))
feeds_differ P m r Variable t s = (λ h. h, tt)
feeds_differ P m r Entries t s =
    entries_differ (turn_row P (block P m)) (1 + length (carried P (block P m))) 0 (imports_of P (block P m))
feeds_differ P m r (Switches c) t s = switches_differ P m c r
feeds_differ P m r Turn t s =
    let g = block P m in
    let k = 1 + length (carried P g) in
    let cs = carried_feeds P m r g in
    let is = turn_feeds P r k (imports_of P g) in
    let late : (f : Feed) → Among f is → k ≤ f.part = λ f h. turn_later P r k (imports_of P g) f h in (
      λ h. elim (Among-either (feed (trigger_of r) 0 Zero) cs is h) [
        | inl i ↦ (let z = carried_early P m r g (feed (trigger_of r) 0 Zero) i in absurd (omega (arith, z.0)))
        | inr i ↦ (let z = late (feed (trigger_of r) 0 Zero) i in absurd (omega (arith, z)))
      ],
      AllDiffer-append cs is (rising_differ 1 cs (carried_rise P m r g)) (turn_differ P r k (imports_of P g))
          (λ f i j. (let y = carried_early P m r g f i in let z = late f j in absurd (omega (arith, y.1, z)))),
    )
feeds_differ P m r (NextUse x) t s = tt
feeds_differ P m r (Next x k o v) t s = (λ h. h, tt)
feeds_differ P m r Body t s = tt
feeds_differ P m r (Reset v) t s = (λ h. h, tt)
feeds_differ P m r (Loop g w l) t s = tt
feeds_differ P m r (Array nested a b) t s =
    (λ h. elim h [ inl i ↦ (let e = ap (λ f. f.port) i in cc) | inr i ↦ i ], (λ h. h, tt))
feeds_differ P m r (Fetch a b) t s = (
  λ h. elim h [
    | inl i ↦ (let e = ap (λ f. f.port) i in cc)
    | inr j ↦ elim j [ inl i ↦ absurd (omega (arith, ap (λ (f : Feed). f.part) i)) | inr i ↦ i ]
  ],
  (λ h. elim h [ inl i ↦ absurd (omega (arith, ap (λ (f : Feed). f.part) i)) | inr i ↦ i ], (λ h. h, tt)),
)
feeds_differ P m r (Address a b) t s =
    (λ h. elim h [ inl i ↦ (let e = ap (λ f. f.port) i in cc) | inr i ↦ i ], (λ h. h, tt))
feeds_differ P m r (Store a v) t s =
    (λ h. elim h [ inl i ↦ (let e = ap (λ f. f.port) i in cc) | inr i ↦ i ], (λ h. h, tt))
