-- What sends to a tag of its own, and into a context: the way back of a block, arguments, and the first values and
-- imports of a loop.
use Rattle.std.proofs.Common.{◌≡◌, ℕ, suc, ◌<◌, Bool, true, length, refl, sym, ◌∙◌, ap}
use Rattle.id_value.proofs.AmongLemmas.{Among-from_at}
use Rattle.id_table.specs.declared.row.Region.{Region}
use Rattle.id_table.specs.declared.row.Node.{Node}
use Rattle.id_table.specs.declared.row.Node.TheVariants.{Head, LoopHead, Array, Fetch, Store}
use Rattle.id_table.specs.Rows.{top}
use Rattle.id_table.specs.Tables.{begins_block}
use Rattle.id_table.specs.Turns.{params_at}
use Rattle.id_check.specs.declared.checked.Checked.{Checked}
use Rattle.id_check.specs.Programs.{region, rows}
use Rattle.id_instr.specs.declared.dests.Port.TheVariants.{Zero}
use Rattle.id_instr.specs.declared.instr.Op.TheVariants as op
use Rattle.id_instr.specs.declared.instr.PortKind.{PortKind}
use Rattle.id_build.specs.declared.arc.Form.{Form}
use Rattle.id_build.specs.Rows.{called, loop_entries, node, op_by, param_of}
use Rattle.id_laws.specs.Activations.{Begins}
use Rattle.id_laws.specs.Topics.{IsPart, Turned, WayBack, ContextOf, topic_at, wants}
use Rattle.id_laws.specs.Ways.{SendsTo, of_argument, of_entry}
use Rattle.id_laws.proofs.Rows.Arcs.{Does, starts, returns, enters, constant, unary, binary, turns_on, hands, joins}
use Rattle.id_laws.proofs.Rows.Arcs.{opens, passes, gets, names, answers}
use Rattle.id_laws.proofs.Rows.Arcs.{sends_in, gives_back, varies, takes_in, moves_on, moves_name, advances, resets}
use Rattle.id_laws.proofs.Rows.Arcs.{gets_last, part_of}
use Rattle.id_laws.proofs.Rows.Arcs.{allocates, addresses, fetches, gets_reply, stores}
use Rattle.id_laws.proofs.Rows.Arcs.{bounds_meet, begins_index, carries, meets_bound, goes_further, hands_index}
use Rattle.id_laws.proofs.Rows.Arcs.{has_one, adds_one}
use Rattle.id_laws.proofs.Rows.Assumed.{IsKnown}
use Rattle.id_laws.proofs.Rows.Loops.{loop_of_start}
use Rattle.id_laws.proofs.Rows.LoopRows.{loop_merge}
use Rattle.id_laws.proofs.Paths.Begun.{EndsAs, as_call, as_loop, begun_at}
use Rattle.id_laws.proofs.Rows.Blocks.{a_param}

true_false : true ≡ Rattle.std.proofs.Common.false → ⊥
true_false h = cc

-- a `back` is the second part of a block's head
pub is_back : (P : Checked) (number : ℕ → ℕ → ℕ) (part n : ℕ) (o : Form) {k : PortKind} → Does P n part o
    → op_by number o ≡ op.Back k → (part ≡ 1) × (begins_block (node P n) ≡ true)
is_back P number part n o (starts is) e = cc
is_back P number part n o (returns is) e = (refl, ap begins_block is)
is_back P number part n o (enters is) e = cc
is_back P number part n o (constant is) e = cc
is_back P number part n o (unary is) e = cc
is_back P number part n o (binary is) e = cc
is_back P number part n o (turns_on is) e = cc
is_back P number part n o (hands j is less) e = cc
is_back P number part n o (joins is) e = cc
is_back P number part n o (opens is) e = cc
is_back P number part n o (passes is) e = cc
is_back P number part n o (gets is) e = cc
is_back P number part n o (names is) e = cc
is_back P number part n o (sends_in j q is at) e = cc
is_back P number part n o (gives_back is) e = (refl, ap begins_block is)
is_back P number part n o (varies is) e = cc
is_back P number part n o (takes_in j is less) e = cc
is_back P number part n o (moves_on is) e = cc
is_back P number part n o (moves_name j is less) e = cc
is_back P number part n o (advances is) e = cc
is_back P number part n o (resets is) e = cc
is_back P number part n o (gets_last is) e = cc
is_back P number part n o (allocates is) e = cc
is_back P number part n o (addresses is) e = cc
is_back P number part n o (fetches is) e = cc
is_back P number part n o (gets_reply is) e = cc
is_back P number part n o (stores is) e = cc
is_back P number part n o (bounds_meet is) e = cc
is_back P number part n o (begins_index is) e = cc
is_back P number part n o (carries is) e = cc
is_back P number part n o (meets_bound is) e = cc
is_back P number part n o (goes_further is) e = cc
is_back P number part n o (hands_index is) e = cc
is_back P number part n o (has_one is) e = cc
is_back P number part n o (adds_one is) e = cc
is_back P number part n o (answers is) e = cc

-- it wants the way back of the block
pub wants_back : (P : Checked) (n : ℕ) (r : Region) (m : Node) → begins_block m ≡ true
    → wants P n r m 1 Zero ≡ WayBack n
wants_back P n r Head e = refl
wants_back P n r (LoopHead s) e = refl
wants_back P n r _ e = absurd (true_false (sym e))

-- its first part wants a signal
pub wants_signal : (P : Checked) (n : ℕ) (r : Region) (m : Node) → begins_block m ≡ true
    → wants P n r m 0 Zero ≡ Turned (top n)
wants_signal P n r Head e = refl
wants_signal P n r (LoopHead s) e = refl
wants_signal P n r _ e = absurd (true_false (sym e))

-- what sends into a context
pub record Passing (P : Checked) (number : ℕ → ℕ → ℕ) (n j target : ℕ) : Type 0 where
  pub opener : ℕ
  pub row : ℕ
  pub part : ℕ
  pub sends : SendsTo P n j opener row part
  pub goes : target ≡ number row part

pub is_send : (P : Checked) (number : ℕ → ℕ → ℕ) (part n : ℕ) (o : Form) (k : PortKind) (target : ℕ)
    → n < length (rows P) → Does P n part o → op_by number o ≡ op.Send k target → Passing P number n part target
is_send P number part n o k target within (starts is) e = cc
is_send P number part n o k target within (returns is) e = cc
is_send P number part n o k target within (enters is) e = cc
is_send P number part n o k target within (constant is) e = cc
is_send P number part n o k target within (unary is) e = cc
is_send P number part n o k target within (binary is) e = cc
is_send P number part n o k target within (turns_on is) e = cc
is_send P number part n o k target within (hands j is less) e = cc
is_send P number part n o k target within (joins is) e = cc
is_send P number part n o k target within (opens is) e = cc
is_send P number part n o k target within (passes {e = m} {k = i} is) e =
    let same : number (param_of P m i) 0 ≡ target = cc in
    record { opener = m; row = param_of P m i; part = 0; sends = of_argument within is; goes = sym same }
is_send P number part n o k target within (gets is) e = cc
is_send P number part n o k target within (names is) e = cc
is_send P number part n o k target within (sends_in j q is at) e =
    let same : number q.row q.part ≡ target = cc in
    record { opener = n; row = q.row; part = q.part; sends = of_entry j q within is at; goes = sym same }
is_send P number part n o k target within (gives_back is) e = cc
is_send P number part n o k target within (varies is) e = cc
is_send P number part n o k target within (takes_in j is less) e = cc
is_send P number part n o k target within (moves_on is) e = cc
is_send P number part n o k target within (moves_name j is less) e = cc
is_send P number part n o k target within (advances is) e = cc
is_send P number part n o k target within (resets is) e = cc
is_send P number part n o k target within (gets_last is) e = cc
is_send P number part n o k target within (allocates is) e = cc
is_send P number part n o k target within (addresses is) e = cc
is_send P number part n o k target within (fetches is) e = cc
is_send P number part n o k target within (gets_reply is) e = cc
is_send P number part n o k target within (stores is) e = cc
is_send P number part n o k target within (bounds_meet is) e = cc
is_send P number part n o k target within (begins_index is) e = cc
is_send P number part n o k target within (carries is) e = cc
is_send P number part n o k target within (meets_bound is) e = cc
is_send P number part n o k target within (goes_further is) e = cc
is_send P number part n o k target within (hands_index is) e = cc
is_send P number part n o k target within (has_one is) e = cc
is_send P number part n o k target within (adds_one is) e = cc
is_send P number part n o k target within (answers is) e = cc

-- an `enter` is the first part of a row where a context begins
pub record Opens (P : Checked) (number : ℕ → ℕ → ℕ) (n part b back : ℕ) : Type 0 where
  pub head : ℕ
  pub end : ℕ
  pub begins : Begins P n head end
  pub first_part : part ≡ 0
  pub first : b ≡ number head 0
  pub returns_to : back ≡ number end 0

pub is_enter : (P : Checked) (number : ℕ → ℕ → ℕ) (part n : ℕ) (o : Form) (b back : ℕ) → Does P n part o
    → op_by number o ≡ op.Enter b back → Opens P number n part b back
is_enter P number part n o b back (starts is) e = cc
is_enter P number part n o b back (returns is) e = cc
is_enter P number part n o b back (enters is) e = cc
is_enter P number part n o b back (constant is) e = cc
is_enter P number part n o b back (unary is) e = cc
is_enter P number part n o b back (binary is) e = cc
is_enter P number part n o b back (turns_on is) e = cc
is_enter P number part n o b back (hands j is less) e = cc
is_enter P number part n o b back (joins is) e = cc
is_enter P number part n o b back (opens {h = h} {q = q} is) e =
    let first : number h 0 ≡ b = cc in
    let back_is : number q 0 ≡ back = cc in
    record { head = h; end = q; begins = is; first_part = refl; first = sym first; returns_to = sym back_is }
is_enter P number part n o b back (passes is) e = cc
is_enter P number part n o b back (gets is) e = cc
is_enter P number part n o b back (names is) e = cc
is_enter P number part n o b back (sends_in j q is at) e = cc
is_enter P number part n o b back (gives_back is) e = cc
is_enter P number part n o b back (varies is) e = cc
is_enter P number part n o b back (takes_in j is less) e = cc
is_enter P number part n o b back (moves_on is) e = cc
is_enter P number part n o b back (moves_name j is less) e = cc
is_enter P number part n o b back (advances is) e = cc
is_enter P number part n o b back (resets is) e = cc
is_enter P number part n o b back (gets_last is) e = cc
is_enter P number part n o b back (allocates is) e = cc
is_enter P number part n o b back (addresses is) e = cc
is_enter P number part n o b back (fetches is) e = cc
is_enter P number part n o b back (gets_reply is) e = cc
is_enter P number part n o b back (stores is) e = cc
is_enter P number part n o b back (bounds_meet is) e = cc
is_enter P number part n o b back (begins_index is) e = cc
is_enter P number part n o b back (carries is) e = cc
is_enter P number part n o b back (meets_bound is) e = cc
is_enter P number part n o b back (goes_further is) e = cc
is_enter P number part n o b back (hands_index is) e = cc
is_enter P number part n o b back (has_one is) e = cc
is_enter P number part n o b back (adds_one is) e = cc
is_enter P number part n o b back (answers is) e = cc

-- a `fetch` is the second part of a fetch's row, and its reply goes to the third; a `store` is that of a store's
pub record Fetches (P : Checked) (number : ℕ → ℕ → ℕ) (n part r : ℕ) : Type 0 where
  pub target : ℕ
  pub index : ℕ
  pub node : node P n ≡ Fetch target index
  pub second : part ≡ 1
  pub reply : r ≡ number n 2

pub is_fetch : {nested : _} (P : Checked) (number : ℕ → ℕ → ℕ) (part n : ℕ) (o : Form) (r : ℕ) → Does P n part o
    → op_by number o ≡ op.Fetch nested r → Fetches P number n part r
is_fetch P number part n o r (fetches {t = t} {i = i} is) e =
    let same : number n 2 ≡ r = cc in
    record { target = t; index = i; node = is; second = refl; reply = sym same }
is_fetch P number part n o r (starts is) e = cc
is_fetch P number part n o r (returns is) e = cc
is_fetch P number part n o r (enters is) e = cc
is_fetch P number part n o r (constant is) e = cc
is_fetch P number part n o r (unary is) e = cc
is_fetch P number part n o r (binary is) e = cc
is_fetch P number part n o r (turns_on is) e = cc
is_fetch P number part n o r (hands j is less) e = cc
is_fetch P number part n o r (joins is) e = cc
is_fetch P number part n o r (opens is) e = cc
is_fetch P number part n o r (passes is) e = cc
is_fetch P number part n o r (gets is) e = cc
is_fetch P number part n o r (names is) e = cc
is_fetch P number part n o r (sends_in j q is at) e = cc
is_fetch P number part n o r (gives_back is) e = cc
is_fetch P number part n o r (varies is) e = cc
is_fetch P number part n o r (takes_in j is less) e = cc
is_fetch P number part n o r (moves_on is) e = cc
is_fetch P number part n o r (moves_name j is less) e = cc
is_fetch P number part n o r (advances is) e = cc
is_fetch P number part n o r (resets is) e = cc
is_fetch P number part n o r (gets_last is) e = cc
is_fetch P number part n o r (allocates is) e = cc
is_fetch P number part n o r (addresses is) e = cc
is_fetch P number part n o r (gets_reply is) e = cc
is_fetch P number part n o r (stores is) e = cc
is_fetch P number part n o r (bounds_meet is) e = cc
is_fetch P number part n o r (begins_index is) e = cc
is_fetch P number part n o r (carries is) e = cc
is_fetch P number part n o r (meets_bound is) e = cc
is_fetch P number part n o r (goes_further is) e = cc
is_fetch P number part n o r (hands_index is) e = cc
is_fetch P number part n o r (has_one is) e = cc
is_fetch P number part n o r (adds_one is) e = cc
is_fetch P number part n o r (answers is) e = cc

pub record Stores (P : Checked) (n part : ℕ) : Type 0 where
  pub address : ℕ
  pub stored : ℕ
  pub node : node P n ≡ Store address stored
  pub first : part ≡ 0

pub is_store : {nested : _} (P : Checked) (number : ℕ → ℕ → ℕ) (part n : ℕ) (o : Form) → Does P n part o
    → op_by number o ≡ op.Store nested → Stores P n part
is_store P number part n o (stores {a = a} {v = v} is) e = record { address = a; stored = v; node = is; first = refl }
is_store P number part n o (starts is) e = cc
is_store P number part n o (returns is) e = cc
is_store P number part n o (enters is) e = cc
is_store P number part n o (constant is) e = cc
is_store P number part n o (unary is) e = cc
is_store P number part n o (binary is) e = cc
is_store P number part n o (turns_on is) e = cc
is_store P number part n o (hands j is less) e = cc
is_store P number part n o (joins is) e = cc
is_store P number part n o (opens is) e = cc
is_store P number part n o (passes is) e = cc
is_store P number part n o (gets is) e = cc
is_store P number part n o (names is) e = cc
is_store P number part n o (sends_in j q is at) e = cc
is_store P number part n o (gives_back is) e = cc
is_store P number part n o (varies is) e = cc
is_store P number part n o (takes_in j is less) e = cc
is_store P number part n o (moves_on is) e = cc
is_store P number part n o (moves_name j is less) e = cc
is_store P number part n o (advances is) e = cc
is_store P number part n o (resets is) e = cc
is_store P number part n o (gets_last is) e = cc
is_store P number part n o (allocates is) e = cc
is_store P number part n o (addresses is) e = cc
is_store P number part n o (fetches is) e = cc
is_store P number part n o (gets_reply is) e = cc
is_store P number part n o (bounds_meet is) e = cc
is_store P number part n o (begins_index is) e = cc
is_store P number part n o (carries is) e = cc
is_store P number part n o (meets_bound is) e = cc
is_store P number part n o (goes_further is) e = cc
is_store P number part n o (hands_index is) e = cc
is_store P number part n o (has_one is) e = cc
is_store P number part n o (adds_one is) e = cc
is_store P number part n o (answers is) e = cc

-- an `alloc` is that of an array's row
pub record Allocates (P : Checked) (nested : Bool) (n part : ℕ) : Type 0 where
  pub low : ℕ
  pub high : ℕ
  pub node : node P n ≡ Array nested low high
  pub first : part ≡ 0

pub is_alloc : {nested : Bool} (P : Checked) (number : ℕ → ℕ → ℕ) (part n : ℕ) (o : Form) → Does P n part o
    → op_by number o ≡ op.Alloc nested → Allocates P nested n part
is_alloc {nested} P number part n o (allocates {nested = m} {a = a} {b = b} is) e =
    let same : m ≡ nested = cc in
    record { low = a; high = b; node = is ∙ ap (λ z. Array z a b) same; first = refl }
is_alloc P number part n o (starts is) e = cc
is_alloc P number part n o (returns is) e = cc
is_alloc P number part n o (enters is) e = cc
is_alloc P number part n o (constant is) e = cc
is_alloc P number part n o (unary is) e = cc
is_alloc P number part n o (binary is) e = cc
is_alloc P number part n o (turns_on is) e = cc
is_alloc P number part n o (hands j is less) e = cc
is_alloc P number part n o (joins is) e = cc
is_alloc P number part n o (opens is) e = cc
is_alloc P number part n o (passes is) e = cc
is_alloc P number part n o (gets is) e = cc
is_alloc P number part n o (names is) e = cc
is_alloc P number part n o (sends_in j q is at) e = cc
is_alloc P number part n o (gives_back is) e = cc
is_alloc P number part n o (varies is) e = cc
is_alloc P number part n o (takes_in j is less) e = cc
is_alloc P number part n o (moves_on is) e = cc
is_alloc P number part n o (moves_name j is less) e = cc
is_alloc P number part n o (advances is) e = cc
is_alloc P number part n o (resets is) e = cc
is_alloc P number part n o (gets_last is) e = cc
is_alloc P number part n o (addresses is) e = cc
is_alloc P number part n o (fetches is) e = cc
is_alloc P number part n o (gets_reply is) e = cc
is_alloc P number part n o (stores is) e = cc
is_alloc P number part n o (bounds_meet is) e = cc
is_alloc P number part n o (begins_index is) e = cc
is_alloc P number part n o (carries is) e = cc
is_alloc P number part n o (meets_bound is) e = cc
is_alloc P number part n o (goes_further is) e = cc
is_alloc P number part n o (hands_index is) e = cc
is_alloc P number part n o (has_one is) e = cc
is_alloc P number part n o (adds_one is) e = cc
is_alloc P number part n o (answers is) e = cc

-- the row from which it is sent has the part
pub sending_part : {P : Checked} (known : IsKnown P) {m j i n part : ℕ} → SendsTo P m j i n part → IsPart P m j
sending_part known (of_argument within is) = part_of within (passes is)
sending_part known (of_entry k q within is at) = part_of within (sends_in k q is at)

-- it wants the context
pub wants_context : {P : Checked} {m j i n part : ℕ} → SendsTo P m j i n part → topic_at P m j Zero ≡ ContextOf i
wants_context {P} {m} (of_argument within is) = ap (λ z. wants P m (region P m) z 0 Zero) is
wants_context {P} {m} (of_entry k q within is at) = ap (λ z. wants P m (region P m) z (suc k) Zero) is

-- and the row to which it is sent has its part
pub sent_part : {P : Checked} (known : IsKnown P) {m j i n part : ℕ} → SendsTo P m j i n part → IsPart P n part
sent_part {P} known (of_argument {e = e} {k = k} {v = v} within is) =
    let b = param_of P e k in
    let goes = known.passed _ e k v within is in
    let param =
    a_param (rows P) (called P e) (length (rows P)) b (Among-from_at b (params_at (rows P) (called P e)) k goes.0) in
    part_of param.within (enters (param.param).is)
sent_part {P} known (of_entry k q within is at) =
    let l = loop_of_start known within is in
    let z = loop_merge P _ _ q l.within l.head (Among-from_at q (loop_entries P _) k at) in
    part_of z.within z.does

-- the head of a block has a trigger and a way back
second_part : {P : Checked} {h : ℕ} (m : Node) → node P h ≡ m → begins_block m ≡ true → h < length (rows P)
    → IsPart P h 1
second_part Head is b less = part_of less (returns is)
second_part (LoopHead s) is b less = part_of less (gives_back is)
second_part _ is b less = absurd (true_false (sym b))

pub head_parts : {P : Checked} (known : IsKnown P) {n h q : ℕ} → n < length (rows P) → Begins P n h q
    → IsPart P h 0 × IsPart P h 1
head_parts {P} known {h = h} within begins =
    let z = begun_at known within begins in
    (part_of z.head_within (starts z.head), second_part (node P h) refl z.head z.head_within)

-- where a block ends stands what its value comes back to
ending_part : {P : Checked} {n q : ℕ} → q < length (rows P) → EndsAs n (node P q) → IsPart P q 0
ending_part less (as_call is) = part_of less (gets is)
ending_part less (as_loop is) = part_of less (gets_last is)

pub returns_at : {P : Checked} (known : IsKnown P) {n h q : ℕ} → n < length (rows P) → Begins P n h q → IsPart P q 0
returns_at known within begins = let z = begun_at known within begins in ending_part z.within z.ends
