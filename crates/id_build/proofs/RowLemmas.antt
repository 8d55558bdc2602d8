-- What each row makes, what fits the rest of its table, and where its feeds go: by cases on the row.
use Rattle.std.proofs.Common.{◌≡◌, inl, inr, ℕ, zero, suc, ◌+◌, ◌-◌, ◌<◌, Bool, true, false, cond, List, [], ◌∷◌, ◌++◌}
use Rattle.std.proofs.Common.{length, map}
use Rattle.std.proofs.Common.{refl, ap, sym, subst, ◌∙◌, arith, Some, length-append}
use Rattle.std.specs.Prelude.{slice_get, IsSome}
use Rattle.std.proofs.lemmas.List.{length-map}
use Rattle.id_value.specs.List.{Among}
use Rattle.id_value.proofs.AmongLemmas.{Among-either}
use Rattle.id_table.specs.declared.row.Region.{Region}
use Rattle.id_table.specs.declared.row.Node.{Node}
use Rattle.id_table.specs.declared.row.Node.TheVariants.{Head, Param, Literal, Name, Unary as UnaryNode}
use Rattle.id_table.specs.declared.row.Node.TheVariants.{Binary as BinaryNode}
use Rattle.id_table.specs.declared.row.Node.TheVariants.{Split, If, Enter, Arg, Call, Block, Binding, Def, Program}
use Rattle.id_table.specs.declared.row.Node.TheVariants.{Start, LoopHead, Variable, Entries, Switches, Turn, NextUse}
use Rattle.id_table.specs.declared.row.Node.TheVariants.{Next, Body, Reset, Loop, Array, Fetch, Address, Store}
use Rattle.id_table.specs.declared.row.Node.TheVariants.{Bounds, Carried, Within, Count, Index, Span}
use Rattle.id_table.specs.Rows.{arm_at, at, top}
use Rattle.id_table.specs.Tables.{is_enter}
use Rattle.id_check.specs.declared.checked.Checked.{Checked}
use Rattle.id_check.specs.Programs as checked
use Rattle.id_check.specs.Programs.{rows, region}
use Rattle.id_desugar.specs.Ends.{end_of, next_of}
use Rattle.id_desugar.specs.Regions.{carried, first_variable, has_index, imports_of, nexts_of}
use Rattle.id_instr.specs.Ports.{port_kind}
use Rattle.id_instr.specs.declared.instr.Op.{Op}
use Rattle.id_instr.specs.declared.instr.Op.TheVariants.{Merge, Switch, Next as NextOp}
use Rattle.id_instr.specs.declared.instr.PortKind.{PortKind}
use Rattle.id_instr.specs.declared.dests.Port.{Port}
use Rattle.id_instr.specs.declared.dests.Port.TheVariants.{Zero, One}
use Rattle.id_build.specs.declared.arc.Form.TheVariants.{Plain}
use Rattle.id_build.specs.declared.arc.Origin.{Origin}
use Rattle.id_build.specs.declared.arc.Feed.{Feed}
use Rattle.id_build.specs.declared.arc.Piece.{Piece}
use Rattle.id_build.specs.Rows.{Entry, block, body_of, bounds_feeds, carried_feeds, entering, entries_row, entry_feeds}
use Rattle.id_build.specs.Rows.{feed, feeds_of, first_binder, for_each}
use Rattle.id_build.specs.Rows.{import_entries, import_feeds, label, loop_entries, made, made_of, name_in, node, op_by}
use Rattle.id_build.specs.Rows.{home as bound_home, origin, output, param_entry, part_of, piece, send_to, switches}
use Rattle.id_build.specs.Rows.{turn_feeds, turn_row, variable_entries}
use Rattle.id_build.specs.Schemas.{HasSide}
use Rattle.id_build.proofs.NamesSeen.{Sees}

-- among these instructions this part has this port
pub record Takes (ps : List Piece) (k : ℕ) (p : Port) : Type 0 where
  pub piece : Piece
  pub at : slice_get ps k ≡ Some piece
  pub takes : (number : ℕ → ℕ → ℕ) → IsSome (port_kind (op_by number piece.form) p)

-- among these instructions this part sends on this side
pub record Gives (ps : List Piece) (k : ℕ) (b : Bool) : Type 0 where
  pub piece : Piece
  pub at : slice_get ps k ≡ Some piece
  pub gives : (number : ℕ → ℕ → ℕ) → HasSide (op_by number piece.form) b

-- the instruction of each of these binders
pub for_each-at : (P : Checked) (op : PortKind → Op) (e : ℕ) (bs : List ℕ) (j : ℕ) → j < length bs →
    (k : PortKind) × (slice_get (for_each P op e bs) j ≡ Some (piece (Plain (op k)) e))
for_each-at P op e [] j l = absurd (omega (arith, l))
for_each-at P op e (b ∷ bs) zero l = (_, refl)
for_each-at P op e (b ∷ bs) (suc j) l = for_each-at P op e bs j (omega (arith, l))

-- the `send` to each of these entries
send_to-at : (P : Checked) (e : ℕ) (qs : List Entry) (j : ℕ) → j < length qs
    → (q : Entry) × (slice_get (map (send_to P e) qs) j ≡ Some (send_to P e q))
send_to-at P e [] j l = absurd (omega (arith, l))
send_to-at P e (q ∷ qs) zero l = (q, refl)
send_to-at P e (q ∷ qs) (suc j) l = send_to-at P e qs j (omega (arith, l))

length-variable_entries : (v : ℕ) (ms : List ℕ) → length (variable_entries v ms) ≡ length ms
length-variable_entries v [] = refl
length-variable_entries v (m ∷ ms) = ap suc (length-variable_entries (v + 1) ms)

length-import_entries : (e k : ℕ) (bs : List ℕ) → length (import_entries e k bs) ≡ length bs
length-import_entries e k [] = refl
length-import_entries e k (b ∷ bs) = ap suc (length-import_entries e (k + 1) bs)

-- a loop has one entry for each of what it carries on, for each of its variables, and for each of its imports
pub length-loop_entries : (P : Checked) (h : ℕ)
    → length (loop_entries P h) ≡ length (carried P h) + length (nexts_of P h) + length (imports_of P h)
length-loop_entries P h =
    let vs = variable_entries (first_variable P h) (nexts_of P h) in
    let is = import_entries (entries_row P h) 0 (imports_of P h) in
    omega (
      arith,
      length-append (map param_entry (carried P h)) (vs ++ is),
      length-map (carried P h) param_entry,
      length-append vs is,
      length-variable_entries (first_variable P h) (nexts_of P h),
      length-import_entries (entries_row P h) 0 (imports_of P h),
    )

pub length-entering : (P : Checked) (h : ℕ) → length (entering P h) ≡ length (nexts_of P h) + length (imports_of P h)
length-entering P h =
    omega (
      arith,
      length-append (map (first_binder P) (nexts_of P h)) (imports_of P h),
      length-map (nexts_of P h) (first_binder P),
    )

-- each feed of an import goes to a port of its part, where both its ports take something
imports_take : (P : Checked) (ps : List Piece) (s : Origin) (r : Region) (k : ℕ) (bs : List ℕ) (f : Feed)
    → ((j : ℕ) (p : Port) → j < length bs → Takes ps (k + j) p) → Among f (import_feeds P s r k bs)
    → Takes ps f.part f.port
imports_take P ps s r k [] f at h = absurd h
imports_take P ps s r k (b ∷ bs) f at (inl i) =
    let here : k + 0 ≡ k = omega arith in
    subst (λ (g : Feed). Takes ps g.part g.port) (sym i) (subst (λ m. Takes ps m Zero) here (at 0 Zero (omega arith)))
imports_take P ps s r k (b ∷ bs) f at (inr (inl i)) =
    let here : k + 0 ≡ k = omega arith in
    subst (λ (g : Feed). Takes ps g.part g.port) (sym i) (subst (λ m. Takes ps m One) here (at 0 One (omega arith)))
imports_take P ps s r k (b ∷ bs) f at (inr (inr h)) =
    imports_take P ps s r (k + 1) bs f
    (λ j p l. (let next : k + suc j ≡ k + 1 + j = omega arith in
    subst (λ m. Takes ps m p) next (at (suc j) p (omega (arith, l))))) h

-- switches take something at both ports
switch_takes : (P : Checked) (e : ℕ) (p : Piece) (bs : List ℕ) (j : ℕ) (q : Port) → j < length bs
    → Takes (p ∷ switches P e bs) (1 + j) q
switch_takes P e p bs j Zero l =
    let z = for_each-at P Switch e bs j l in
    let next : 1 + j ≡ suc j = omega arith in
    record { piece = _; at = ap (slice_get (p ∷ switches P e bs)) next ∙ z.1; takes = λ _. refl }
switch_takes P e p bs j One l =
    let z = for_each-at P Switch e bs j l in
    let next : 1 + j ≡ suc j = omega arith in
    record { piece = _; at = ap (slice_get (p ∷ switches P e bs)) next ∙ z.1; takes = λ _. refl }

-- and so does a `send`
send_takes : (P : Checked) (e : ℕ) (p : Piece) (qs : List Entry) (j : ℕ) (q : Port) → j < length qs
    → Takes (p ∷ map (send_to P e) qs) (1 + j) q
send_takes P e p qs j Zero l =
    let z = send_to-at P e qs j l in
    let next : 1 + j ≡ suc j = omega arith in
    record { piece = _; at = ap (slice_get (p ∷ map (send_to P e) qs)) next ∙ z.1; takes = λ _. refl }
send_takes P e p qs j One l =
    let z = send_to-at P e qs j l in
    let next : 1 + j ≡ suc j = omega arith in
    record { piece = _; at = ap (slice_get (p ∷ map (send_to P e) qs)) next ∙ z.1; takes = λ _. refl }

-- each feed of an entry goes to it, and each of what hands on to that
entries_take : (ps : List Piece) (n i k : ℕ) (bs : List ℕ) (f : Feed)
    → ((j : ℕ) → j < length bs → Takes ps (k + j) Zero) → Among f (entry_feeds n i k bs) → Takes ps f.part f.port
entries_take ps n m k [] f at h = absurd h
entries_take ps n m k (b ∷ bs) f at (inl i) =
    let here : k + 0 ≡ k = omega arith in
    subst (λ (g : Feed). Takes ps g.part g.port) (sym i) (subst (λ m. Takes ps m Zero) here (at 0 (omega arith)))
entries_take ps n m k (b ∷ bs) f at (inr h) =
    entries_take ps n (m + 1) (k + 1) bs f
    (λ j l. (let next : k + suc j ≡ k + 1 + j = omega arith in
    subst (λ m. Takes ps m Zero) next (at (suc j) (omega (arith, l))))) h

turn_takes : (P : Checked) (ps : List Piece) (r : Region) (k : ℕ) (bs : List ℕ) (f : Feed)
    → ((j : ℕ) → j < length bs → Takes ps (k + j) Zero) → Among f (turn_feeds P r k bs) → Takes ps f.part f.port
turn_takes P ps r k [] f at h = absurd h
turn_takes P ps r k (b ∷ bs) f at (inl i) =
    let here : k + 0 ≡ k = omega arith in
    subst (λ (g : Feed). Takes ps g.part g.port) (sym i) (subst (λ m. Takes ps m Zero) here (at 0 (omega arith)))
turn_takes P ps r k (b ∷ bs) f at (inr h) =
    turn_takes P ps r (k + 1) bs f
    (λ j l. (let next : k + suc j ≡ k + 1 + j = omega arith in
    subst (λ m. Takes ps m Zero) next (at (suc j) (omega (arith, l))))) h

-- a merge of each import takes something, and so does what hands each on
merge_takes : (P : Checked) (e : ℕ) (bs : List ℕ) (j : ℕ) → j < length bs → Takes (for_each P Merge e bs) (0 + j) Zero
merge_takes P e bs j l =
    let z = for_each-at P Merge e bs j l in
    let next : 0 + j ≡ j = omega arith in
    record { piece = _; at = ap (slice_get (for_each P Merge e bs)) next ∙ z.1; takes = λ _. refl }

next_takes : (P : Checked) (e : ℕ) (p : Piece) (bs : List ℕ) (j : ℕ) → j < length bs
    → Takes (p ∷ for_each P NextOp e bs) (1 + j) Zero
next_takes P e p bs j l =
    let z = for_each-at P NextOp e bs j l in
    let next : 1 + j ≡ suc j = omega arith in
    record { piece = _; at = ap (slice_get (p ∷ for_each P NextOp e bs)) next ∙ z.1; takes = λ _. refl }

-- the feeds of what a loop carries on go to the sends of that, and to what hands it on
bounds_take : (P : Checked) (ps : List Piece) (n : ℕ) (x : Node) (f : Feed)
    → ((j : ℕ) (p : Port) → j < 3 → Takes ps (1 + j) p) → Among f (bounds_feeds P n x) → Takes ps f.part f.port
bounds_take P ps n (Bounds a b) f at (inl i) =
    subst (λ (g : Feed). Takes ps g.part g.port) (sym i) (at 0 Zero (omega arith))
bounds_take P ps n (Bounds a b) f at (inr (inl i)) =
    subst (λ (g : Feed). Takes ps g.part g.port) (sym i) (at 0 One (omega arith))
bounds_take P ps n (Bounds a b) f at (inr (inr (inl i))) =
    subst (λ (g : Feed). Takes ps g.part g.port) (sym i) (at 1 Zero (omega arith))
bounds_take P ps n (Bounds a b) f at (inr (inr (inr (inl i)))) =
    subst (λ (g : Feed). Takes ps g.part g.port) (sym i) (at 1 One (omega arith))
bounds_take P ps n (Bounds a b) f at (inr (inr (inr (inr (inl i))))) =
    subst (λ (g : Feed). Takes ps g.part g.port) (sym i) (at 2 Zero (omega arith))
bounds_take P ps n (Bounds a b) f at (inr (inr (inr (inr (inr (inl i)))))) =
    subst (λ (g : Feed). Takes ps g.part g.port) (sym i) (at 2 One (omega arith))
bounds_take P ps n (Bounds a b) f at (inr (inr (inr (inr (inr (inr h)))))) = absurd h
bounds_take P ps n _ f at h = absurd h

carried_take : (P : Checked) (ps : List Piece) (n : ℕ) (r : Region) (h : ℕ) (f : Feed)
    → ((j : ℕ) → j < length (carried P h) → Takes ps (1 + j) Zero)
    → Among f (carried_feeds P n r h) → Takes ps f.part f.port
carried_take P ps n r h f at among = go (has_index P h) at among
  where
    xs : List ℕ
    xs = (h + 1) ∷ (h + 2) ∷ (h + 3) ∷ []

    fs : List Feed
    fs = feed (part_of (n - 1) 4) 1 Zero ∷ feed (name_in P r (h + 2)) 2 Zero ∷ feed (output (n - 1)) 3 Zero ∷ []

    there : ((j : ℕ) → j < 3 → Takes ps (1 + j) Zero) → Among f fs → Takes ps f.part f.port
    there at (inl i) = subst (λ (g : Feed). Takes ps g.part g.port) (sym i) (at 0 (omega arith))
    there at (inr (inl i)) = subst (λ (g : Feed). Takes ps g.part g.port) (sym i) (at 1 (omega arith))
    there at (inr (inr (inl i))) = subst (λ (g : Feed). Takes ps g.part g.port) (sym i) (at 2 (omega arith))
    there at (inr (inr (inr k))) = absurd k

    go : (t : Bool) → ((j : ℕ) → j < length (cond t xs []) → Takes ps (1 + j) Zero) → Among f (cond t fs [])
        → Takes ps f.part f.port
    go true at k = there at k
    go false at k = absurd k

-- a side of an instruction of a row
pub record IsOrigin (P : Checked) (s : Origin) : Type 0 where
  pub within : s.row < length (rows P)
  pub gives : Gives (made P s.row) s.part s.side

-- the region that an origin belongs to, where its row has this node and stands in this region: the switches of a
-- conditional or a loop hand into their sides
abbrev pub home_of : Node → Region → Origin → Region
home_of (Split t) r s = arm_at s.row s.side
home_of (Switches t) r s = arm_at s.row s.side
home_of _ r s = r

abbrev pub home : Checked → Origin → Region
home P s = home_of (node P s.row) (region P s.row) s

-- an origin that belongs to the region, or, of an index, to that of its loop
pub record IsOriginOf (P : Checked) (r : Region) (s : Origin) : Type 0 where
  pub is_origin : IsOrigin P s
  pub side : (home P s).side ≡ r.side

-- whether the value of an expression, or of what is in the place of a predicate, with this node is its own
abbrev pub IsValue : Node → Type 0
IsValue (Literal v) = Unit {0}
IsValue (Name x) = Unit {0}
IsValue (UnaryNode o a) = Unit {0}
IsValue (BinaryNode o a b) = Unit {0}
IsValue (If s x y) = Unit {0}
IsValue (Call s c) = Unit {0}
IsValue (Loop h w l) = Unit {0}
IsValue (Carried k) = Unit {0}
IsValue (Array nested a b) = Unit {0}
IsValue (Fetch a b) = Unit {0}
IsValue _ = ⊥

-- the expression at the row stands in the region, and what gives its value gives its own
pub record IsPart (P : Checked) (r : Region) (e : ℕ) : Type 0 where
  pub within : (at (rows P) e).value < length (rows P)
  pub value : IsValue (node P (at (rows P) e).value)
  pub region_of : region P (at (rows P) e).value ≡ r

-- whether a label stands at a row of this node: a binder's, or that of a loop's variable or of what it carries on
-- beside
abbrev pub is_label : Node → Bool
is_label (Param x k) = true
is_label (Binding x a) = true
is_label Variable = true
is_label (Carried k) = true
is_label _ = false

-- the row is a binder with a label, and the region sees it
pub record IsSeen (P : Checked) (r : Region) (b : ℕ) : Type 0 where
  pub within : label P b < length (rows P)
  pub is_label : is_label (node P (label P b)) ≡ true
  pub sees : Sees P b r
  pub side : (region P (label P b)).side ≡ (region P (bound_home P b)).side

-- the name at the row has a binder that its region sees
pub record IsNamed (P : Checked) (v : ℕ) : Type 0 where
  pub row : ℕ
  pub binds : checked.binder P v ≡ Some row
  pub seen : IsSeen P (region P v) row

-- the region sees these binders
abbrev pub AllSeen : Checked → Region → List ℕ → Type 0
AllSeen P r bs = (b : ℕ) → Among b bs → IsSeen P r b

-- the first instruction of a row of this node turns on what is on this side of it: that of a procedure or a loop its
-- own
-- region, switches both of their sides
abbrev pub Heads : Node → Bool → Type 0
Heads Head b = b ≡ true
Heads (LoopHead s) b = b ≡ true
Heads (Split t) b = Unit {0}
Heads (Switches t) b = Unit {0}
Heads _ b = ⊥

-- a head turns the region on
pub record IsTurned (P : Checked) (r : Region) : Type 0 where
  pub within : r.head < length (rows P)
  pub heads : Heads (node P r.head) r.side

-- a call begins at the row
pub record IsEntered (P : Checked) (e : ℕ) : Type 0 where
  pub within : e < length (rows P)
  pub is_enter : is_enter (node P e) ≡ true

-- of the loop whose `Start` is at the row n, in the region, with this node before it: what feeds the sends of what it
-- carries
-- on
abbrev pub SuitsBounds : Checked → ℕ → Region → Node → Type 0
SuitsBounds P n r (Bounds a b) =
    (has_index P (n + 1) ≡ true) × IsOrigin P (part_of (n - 1) 1) × IsPart P r b × IsOrigin P (output (n - 1))
SuitsBounds P n r _ = Unit {0}

-- what feeds the parts of the `Turn` at the row n, in the region, that hand on what the loop with the head h carries on
abbrev pub SuitsCarried : Checked → ℕ → Region → ℕ → Type 0
SuitsCarried P n r h =
    has_index P h ≡ true → IsOrigin P (part_of (n - 1) 4) × IsSeen P r (h + 2) × IsOrigin P (output (n - 1))

-- what stands in the region fits the rest of the table
abbrev pub Suits : Checked → ℕ → Region → Node → Type 0
Suits P n r Head = IsPart P (top n) (body_of (node P (end_of P n)))
Suits P n r (Literal v) = IsTurned P r
Suits P n r (UnaryNode o a) = IsPart P r a
Suits P n r (BinaryNode o a b) = IsPart P r a × IsPart P r b
Suits P n r (Split t) = IsPart P r t × IsTurned P r × AllSeen P r (imports_of P n)
Suits P n r (If s x y) = IsPart P (arm_at s true) x × IsPart P (arm_at s false) y
Suits P n r (Enter x) = IsTurned P r
Suits P n r (Arg s k v) = IsEntered P s × IsPart P r v
Suits P n r (Binding x a) = IsPart P r a
Suits P n r (Bounds a b) = IsPart P r a × IsPart P r b × IsOrigin P (output n)
Suits P n r Start =
    IsTurned P r × IsOrigin P (output n) × AllSeen P r (entering P (n + 1)) × SuitsBounds P n r (node P (n - 1))
Suits P n r (LoopHead s) = IsOrigin P (output (turn_row P n)) × IsOrigin P (output (end_of P n - 2))
Suits P n r (Carried k) = IsOrigin P (part_of (turn_row P (block P n)) (n - block P n))
Suits P n r Variable = IsOrigin P (output (next_of P n))
Suits P n r Entries =
    (k : ℕ) → k < length (imports_of P (block P n))
    → IsOrigin P (part_of (turn_row P (block P n)) (1 + length (carried P (block P n)) + k))
Suits P n r (Switches t) = IsPart P r t × IsTurned P r × AllSeen P r (imports_of P n)
Suits P n r Count =
    IsOrigin P (output (block P n + 1)) × IsSeen P r (block P n + 2) × IsTurned P r
    × IsOrigin P (output n) × IsOrigin P (part_of n 1) × IsOrigin P (part_of n 2) × IsOrigin P (part_of n 3)
Suits P n r Turn = IsTurned P r × AllSeen P r (imports_of P (block P n)) × SuitsCarried P n r (block P n)
Suits P n r (Next x k o v) = IsPart P r v
Suits P n r (Reset v) = IsPart P r v
Suits P n r (Array nested a b) = IsPart P r a × IsPart P r b
Suits P n r (Fetch a b) = IsPart P r a × IsPart P r b × IsOrigin P (output n)
Suits P n r (Address a b) = IsPart P r a × IsPart P r b
Suits P n r (Store a v) = IsOrigin P (output a) × IsPart P r v
Suits P n r _ = Unit {0}

-- the entries of the imports of the loop with the head h stand right in its region
pub record HasEntries (P : Checked) (h : ℕ) : Type 0 where
  pub within : entries_row P h < length (rows P)
  pub node : node P (entries_row P h) ≡ Entries
  pub block : block P (entries_row P h) ≡ h
  pub region : region P (entries_row P h) ≡ top h

-- what a graph can be built of: each row fits the rest, each name has its binder, and each loop its entries
pub record IsBuildable (P : Checked) : Type 0 where
  pub suits : (n : ℕ) → n < length (rows P) → Suits P n (region P n) (node P n)
  pub named : (v x : ℕ) → v < length (rows P) → node P v ≡ Name x → IsNamed P v
  pub entered : (h s : ℕ) → h < length (rows P) → node P h ≡ LoopHead s → HasEntries P h

-- each feed goes to a port of an instruction of the row
pub feeds_take : (P : Checked) (m e : ℕ) (r : Region) (n : Node) (f : Feed) → Suits P m r n → Among f (feeds_of P m r n)
    → Takes (made_of P m e n) f.part f.port
feeds_take P m e r Head f s (inl i) =
    let Z : Feed → Type 0 = λ g. Takes (made_of P m e Head) g.part g.port in
    subst Z (sym i) (record { piece = _; at = refl; takes = λ _. refl })
feeds_take P m e r Head f s (inr h) = absurd h
feeds_take P m e r (Param x k) f s h = absurd h
feeds_take P m e r (Literal v) f s (inl i) =
    let Z : Feed → Type 0 = λ g. Takes (made_of P m e (Literal v)) g.part g.port in
    subst Z (sym i) (record { piece = _; at = refl; takes = λ _. refl })
feeds_take P m e r (Literal v) f s (inr h) = absurd h
feeds_take P m e r (Name x) f s h = absurd h
feeds_take P m e r (UnaryNode o a) f s (inl i) =
    let Z : Feed → Type 0 = λ g. Takes (made_of P m e (UnaryNode o a)) g.part g.port in
    subst Z (sym i) (record { piece = _; at = refl; takes = λ _. refl })
feeds_take P m e r (UnaryNode o a) f s (inr h) = absurd h
feeds_take P m e r (BinaryNode o a b) f s (inl i) =
    let Z : Feed → Type 0 = λ g. Takes (made_of P m e (BinaryNode o a b)) g.part g.port in
    subst Z (sym i) (record { piece = _; at = refl; takes = λ _. refl })
feeds_take P m e r (BinaryNode o a b) f s (inr (inl i)) =
    let Z : Feed → Type 0 = λ g. Takes (made_of P m e (BinaryNode o a b)) g.part g.port in
    subst Z (sym i) (record { piece = _; at = refl; takes = λ _. refl })
feeds_take P m e r (BinaryNode o a b) f s (inr (inr h)) = absurd h
feeds_take P m e r (Split t) f s (inl i) =
    let Z : Feed → Type 0 = λ g. Takes (made_of P m e (Split t)) g.part g.port in
    subst Z (sym i) (record { piece = _; at = refl; takes = λ _. refl })
feeds_take P m e r (Split t) f s (inr (inl i)) =
    let Z : Feed → Type 0 = λ g. Takes (made_of P m e (Split t)) g.part g.port in
    subst Z (sym i) (record { piece = _; at = refl; takes = λ _. refl })
feeds_take P m e r (Split t) f s (inr (inr h)) =
    imports_take P (made_of P m e (Split t)) (origin P t) r 1 (imports_of P m) f (switch_takes P e _ (imports_of P m)) h
feeds_take P m e r (If q x y) f s (inl i) =
    let Z : Feed → Type 0 = λ g. Takes (made_of P m e (If q x y)) g.part g.port in
    subst Z (sym i) (record { piece = _; at = refl; takes = λ _. refl })
feeds_take P m e r (If q x y) f s (inr (inl i)) =
    let Z : Feed → Type 0 = λ g. Takes (made_of P m e (If q x y)) g.part g.port in
    subst Z (sym i) (record { piece = _; at = refl; takes = λ _. refl })
feeds_take P m e r (If q x y) f s (inr (inr h)) = absurd h
feeds_take P m e r (Enter x) f s (inl i) =
    let Z : Feed → Type 0 = λ g. Takes (made_of P m e (Enter x)) g.part g.port in
    subst Z (sym i) (record { piece = _; at = refl; takes = λ _. refl })
feeds_take P m e r (Enter x) f s (inr h) = absurd h
feeds_take P m e r (Arg q k v) f s (inl i) =
    let Z : Feed → Type 0 = λ g. Takes (made_of P m e (Arg q k v)) g.part g.port in
    subst Z (sym i) (record { piece = _; at = refl; takes = λ _. refl })
feeds_take P m e r (Arg q k v) f s (inr (inl i)) =
    let Z : Feed → Type 0 = λ g. Takes (made_of P m e (Arg q k v)) g.part g.port in
    subst Z (sym i) (record { piece = _; at = refl; takes = λ _. refl })
feeds_take P m e r (Arg q k v) f s (inr (inr h)) = absurd h
feeds_take P m e r (Call q c) f s h = absurd h
feeds_take P m e r (Block b) f s h = absurd h
feeds_take P m e r (Binding x a) f s (inl i) =
    let Z : Feed → Type 0 = λ g. Takes (made_of P m e (Binding x a)) g.part g.port in
    subst Z (sym i) (record { piece = _; at = refl; takes = λ _. refl })
feeds_take P m e r (Binding x a) f s (inr h) = absurd h
feeds_take P m e r (Def x h k b) f s j = absurd j
feeds_take P m e r Program f s h = absurd h
feeds_take P m e r (Bounds a b) f s (inl i) =
    let Z : Feed → Type 0 = λ g. Takes (made_of P m e (Bounds a b)) g.part g.port in
    subst Z (sym i) (record { piece = _; at = refl; takes = λ _. refl })
feeds_take P m e r (Bounds a b) f s (inr (inl i)) =
    let Z : Feed → Type 0 = λ g. Takes (made_of P m e (Bounds a b)) g.part g.port in
    subst Z (sym i) (record { piece = _; at = refl; takes = λ _. refl })
feeds_take P m e r (Bounds a b) f s (inr (inr (inl i))) =
    let Z : Feed → Type 0 = λ g. Takes (made_of P m e (Bounds a b)) g.part g.port in
    subst Z (sym i) (record { piece = _; at = refl; takes = λ _. refl })
feeds_take P m e r (Bounds a b) f s (inr (inr (inr (inl i)))) =
    let Z : Feed → Type 0 = λ g. Takes (made_of P m e (Bounds a b)) g.part g.port in
    subst Z (sym i) (record { piece = _; at = refl; takes = λ _. refl })
feeds_take P m e r (Bounds a b) f s (inr (inr (inr (inr h)))) = absurd h
feeds_take P m e r (Carried k) f s (inl i) =
    let Z : Feed → Type 0 = λ g. Takes (made_of P m e (Carried k)) g.part g.port in
    subst Z (sym i) (record { piece = _; at = refl; takes = λ _. refl })
feeds_take P m e r (Carried k) f s (inr h) = absurd h
feeds_take P m e r Count f s (inl i) =
    let Z : Feed → Type 0 = λ g. Takes (made_of P m e Count) g.part g.port in
    subst Z (sym i) (record { piece = _; at = refl; takes = λ _. refl })
feeds_take P m e r Count f s (inr (inl i)) =
    let Z : Feed → Type 0 = λ g. Takes (made_of P m e Count) g.part g.port in
    subst Z (sym i) (record { piece = _; at = refl; takes = λ _. refl })
feeds_take P m e r Count f s (inr (inr (inl i))) =
    let Z : Feed → Type 0 = λ g. Takes (made_of P m e Count) g.part g.port in
    subst Z (sym i) (record { piece = _; at = refl; takes = λ _. refl })
feeds_take P m e r Count f s (inr (inr (inr (inl i)))) =
    let Z : Feed → Type 0 = λ g. Takes (made_of P m e Count) g.part g.port in
    subst Z (sym i) (record { piece = _; at = refl; takes = λ _. refl })
feeds_take P m e r Count f s (inr (inr (inr (inr (inl i))))) =
    let Z : Feed → Type 0 = λ g. Takes (made_of P m e Count) g.part g.port in
    subst Z (sym i) (record { piece = _; at = refl; takes = λ _. refl })
feeds_take P m e r Count f s (inr (inr (inr (inr (inr (inl i)))))) =
    let Z : Feed → Type 0 = λ g. Takes (made_of P m e Count) g.part g.port in
    subst Z (sym i) (record { piece = _; at = refl; takes = λ _. refl })
feeds_take P m e r Count f s (inr (inr (inr (inr (inr (inr (inl i))))))) =
    let Z : Feed → Type 0 = λ g. Takes (made_of P m e Count) g.part g.port in
    subst Z (sym i) (record { piece = _; at = refl; takes = λ _. refl })
feeds_take P m e r Count f s (inr (inr (inr (inr (inr (inr (inr (inl i)))))))) =
    let Z : Feed → Type 0 = λ g. Takes (made_of P m e Count) g.part g.port in
    subst Z (sym i) (record { piece = _; at = refl; takes = λ _. refl })
feeds_take P m e r Count f s (inr (inr (inr (inr (inr (inr (inr (inr (inl i))))))))) =
    let Z : Feed → Type 0 = λ g. Takes (made_of P m e Count) g.part g.port in
    subst Z (sym i) (record { piece = _; at = refl; takes = λ _. refl })
feeds_take P m e r Count f s (inr (inr (inr (inr (inr (inr (inr (inr (inr h))))))))) = absurd h
feeds_take P m e r (Within g) f s h = absurd h
feeds_take P m e r (Index x) f s h = absurd h
feeds_take P m e r Span f s h = absurd h
feeds_take P m e r Start f s (inl i) =
    let Z : Feed → Type 0 = λ g. Takes (made_of P m e Start) g.part g.port in
    subst Z (sym i) (record { piece = _; at = refl; takes = λ _. refl })
feeds_take P m e r Start f s (inr h) = elim (Among-either f bs is h) [
  | inl k ↦ bounds (node P (m - 1)) s.3 k
  | inr k ↦
      imports_take P (made_of P m e Start) (output m) r (1 + length (carried P (m + 1))) (entering P (m + 1)) f
      (λ j p l. (
      let up : 1 + (length (carried P (m + 1)) + j) ≡ 1 + length (carried P (m + 1)) + j = omega arith in
      subst (λ z. Takes (made_of P m e Start) z p) up
      (send_takes P e _ (loop_entries P (m + 1)) (length (carried P (m + 1)) + j) p
      (omega (arith, l, length-loop_entries P (m + 1), length-entering P (m + 1)))))) k
]
  where
    bs : List Feed
    bs = bounds_feeds P m (node P (m - 1))

    is : List Feed
    is = import_feeds P (output m) r (1 + length (carried P (m + 1))) (entering P (m + 1))

    bounds : (x : Node) → SuitsBounds P m r x → Among f (bounds_feeds P m x) → Takes (made_of P m e Start) f.part f.port
    bounds (Bounds a b) u k =
        let three : length (carried P (m + 1)) ≡ 3 =
        ap (λ (t : Bool). length (cond t ((m + 1 + 1) ∷ (m + 1 + 2) ∷ (m + 1 + 3) ∷ []) [])) u.0 in
        bounds_take P (made_of P m e Start) m (Bounds a b) f
        (λ j p l. send_takes P e _ (loop_entries P (m + 1)) j p
        (omega (arith, l, three, length-loop_entries P (m + 1)))) k
    bounds _ u k = absurd k
feeds_take P m e r (LoopHead q) f s (inl i) =
    let Z : Feed → Type 0 = λ g. Takes (made_of P m e (LoopHead q)) g.part g.port in
    subst Z (sym i) (record { piece = _; at = refl; takes = λ _. refl })
feeds_take P m e r (LoopHead q) f s (inr (inl i)) =
    let Z : Feed → Type 0 = λ g. Takes (made_of P m e (LoopHead q)) g.part g.port in
    subst Z (sym i) (record { piece = _; at = refl; takes = λ _. refl })
feeds_take P m e r (LoopHead q) f s (inr (inr h)) = absurd h
feeds_take P m e r Variable f s (inl i) =
    let Z : Feed → Type 0 = λ g. Takes (made_of P m e Variable) g.part g.port in
    subst Z (sym i) (record { piece = _; at = refl; takes = λ _. refl })
feeds_take P m e r Variable f s (inr h) = absurd h
feeds_take P m e r Entries f s h =
    entries_take (made_of P m e Entries) (turn_row P (block P m)) (1 + length (carried P (block P m))) 0
    (imports_of P (block P m)) f (merge_takes P e (imports_of P (block P m))) h
feeds_take P m e r (Switches t) f s (inl i) =
    let Z : Feed → Type 0 = λ g. Takes (made_of P m e (Switches t)) g.part g.port in
    subst Z (sym i) (record { piece = _; at = refl; takes = λ _. refl })
feeds_take P m e r (Switches t) f s (inr (inl i)) =
    let Z : Feed → Type 0 = λ g. Takes (made_of P m e (Switches t)) g.part g.port in
    subst Z (sym i) (record { piece = _; at = refl; takes = λ _. refl })
feeds_take P m e r (Switches t) f s (inr (inr h)) =
    imports_take P (made_of P m e (Switches t)) (origin P t) r 1 (imports_of P m) f
    (switch_takes P e _ (imports_of P m)) h
feeds_take P m e r Turn f s (inl i) =
    let Z : Feed → Type 0 = λ g. Takes (made_of P m e Turn) g.part g.port in
    subst Z (sym i) (record { piece = _; at = refl; takes = λ _. refl })
feeds_take P m e r Turn f s (inr h) =
    let g = block P m in
    let cs = carried P g in
    let all = cs ++ imports_of P g in
    elim (Among-either f (carried_feeds P m r g) (turn_feeds P r (1 + length cs) (imports_of P g)) h) [
      | inl k ↦
          carried_take P (made_of P m e Turn) m r g f
          (λ j l. next_takes P e _ all j (omega (arith, l, length-append cs (imports_of P g)))) k
      | inr k ↦
          turn_takes P (made_of P m e Turn) r (1 + length cs) (imports_of P g) f
          (λ j l. (
          let up : 1 + (length cs + j) ≡ 1 + length cs + j = omega arith in
          subst (λ z. Takes (made_of P m e Turn) z Zero) up
          (next_takes P e _ all (length cs + j) (omega (arith, l, length-append cs (imports_of P g)))))) k
    ]
feeds_take P m e r (NextUse x) f s h = absurd h
feeds_take P m e r (Next x k o v) f s (inl i) =
    let Z : Feed → Type 0 = λ g. Takes (made_of P m e (Next x k o v)) g.part g.port in
    subst Z (sym i) (record { piece = _; at = refl; takes = λ _. refl })
feeds_take P m e r (Next x k o v) f s (inr h) = absurd h
feeds_take P m e r Body f s h = absurd h
feeds_take P m e r (Reset v) f s (inl i) =
    let Z : Feed → Type 0 = λ g. Takes (made_of P m e (Reset v)) g.part g.port in
    subst Z (sym i) (record { piece = _; at = refl; takes = λ _. refl })
feeds_take P m e r (Reset v) f s (inr h) = absurd h
feeds_take P m e r (Loop g w l) f s h = absurd h
feeds_take P m e r (Array nested a b) f s (inl i) =
    let Z : Feed → Type 0 = λ g. Takes (made_of P m e (Array nested a b)) g.part g.port in
    subst Z (sym i) (record { piece = _; at = refl; takes = λ _. refl })
feeds_take P m e r (Array nested a b) f s (inr (inl i)) =
    let Z : Feed → Type 0 = λ g. Takes (made_of P m e (Array nested a b)) g.part g.port in
    subst Z (sym i) (record { piece = _; at = refl; takes = λ _. refl })
feeds_take P m e r (Array nested a b) f s (inr (inr h)) = absurd h
feeds_take P m e r (Fetch a b) f s (inl i) =
    let Z : Feed → Type 0 = λ g. Takes (made_of P m e (Fetch a b)) g.part g.port in
    subst Z (sym i) (record { piece = _; at = refl; takes = λ _. refl })
feeds_take P m e r (Fetch a b) f s (inr (inl i)) =
    let Z : Feed → Type 0 = λ g. Takes (made_of P m e (Fetch a b)) g.part g.port in
    subst Z (sym i) (record { piece = _; at = refl; takes = λ _. refl })
feeds_take P m e r (Fetch a b) f s (inr (inr (inl i))) =
    let Z : Feed → Type 0 = λ g. Takes (made_of P m e (Fetch a b)) g.part g.port in
    subst Z (sym i) (record { piece = _; at = refl; takes = λ _. refl })
feeds_take P m e r (Fetch a b) f s (inr (inr (inr h))) = absurd h
feeds_take P m e r (Address a b) f s (inl i) =
    let Z : Feed → Type 0 = λ g. Takes (made_of P m e (Address a b)) g.part g.port in
    subst Z (sym i) (record { piece = _; at = refl; takes = λ _. refl })
feeds_take P m e r (Address a b) f s (inr (inl i)) =
    let Z : Feed → Type 0 = λ g. Takes (made_of P m e (Address a b)) g.part g.port in
    subst Z (sym i) (record { piece = _; at = refl; takes = λ _. refl })
feeds_take P m e r (Address a b) f s (inr (inr h)) = absurd h
feeds_take P m e r (Store a v) f s (inl i) =
    let Z : Feed → Type 0 = λ g. Takes (made_of P m e (Store a v)) g.part g.port in
    subst Z (sym i) (record { piece = _; at = refl; takes = λ _. refl })
feeds_take P m e r (Store a v) f s (inr (inl i)) =
    let Z : Feed → Type 0 = λ g. Takes (made_of P m e (Store a v)) g.part g.port in
    subst Z (sym i) (record { piece = _; at = refl; takes = λ _. refl })
feeds_take P m e r (Store a v) f s (inr (inr h)) = absurd h
