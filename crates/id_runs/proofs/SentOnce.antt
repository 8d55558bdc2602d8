-- An event sends at most one message for a key, where the destinations of an instruction on one side differ, and each
-- key was handled once.
use Rattle.std.proofs.Common.{◌≡◌, inl, inr, ℕ, zero, suc, ◌+◌, ◌≤◌, Bool, true, false, cond, Option, Some, None}
use Rattle.std.proofs.Common.{List, [], ◌∷◌, ◌++◌, map, refl, sym, ◌∙◌, ap, subst, arith}
use Rattle.std.proofs.lemmas.List.{map-append}
use Rattle.id_instr.specs.declared.dests.Dest.{Dest}
use Rattle.id_instr.specs.declared.dests.Port.{Port}
use Rattle.id_instr.specs.declared.dests.Port.TheVariants.{Zero, One}
use Rattle.id_instr.specs.Graph.{Parts}
use Rattle.id_tag.specs.declared.Tag.{Tag}
use Rattle.id_tag.specs.declared.Context.{Context}
use Rattle.id_tag.specs.declared.Value.{Value}
use Rattle.id_tag.specs.declared.Value.TheVariants as value
use Rattle.id_tag.specs.declared.Payload.{Payload}
use Rattle.id_instr.specs.declared.instr.Op.{Op}
use Rattle.id_instr.specs.declared.instr.Op.TheVariants.{Const, Unary, Binary, Merge, Switch, Back, Enter, Send, Next}
use Rattle.id_instr.specs.declared.instr.Op.TheVariants.{Reset, Alloc, Address, Fetch, Store}
use Rattle.id_valid.specs.Roles.{op_at}
use Rattle.id_tag.specs.declared.Payload.TheVariants.{Token, Read, Write}
use Rattle.id_ops.specs.declared.Fired.{Fired}
use Rattle.id_ops.specs.declared.Fired.TheVariants as fires
use Rattle.id_ops.specs.Operators.{side_of, tag_within}
use Rattle.id_record.specs.Events.{tag_of}
use Rattle.id_record.specs.Sends.{beside, started}
use Rattle.id_record.specs.Records.{dests_at}
use Rattle.id_core.specs.Steps.{sent, moved_to, token_to}
use Rattle.id_value.specs.List.{Among, AllDiffer}
use Rattle.id_value.proofs.AmongLemmas.{Among-from_map, Among-one}
use Rattle.id_tag.specs.declared.Cell.{Cell}
use Rattle.id_tag.specs.Tags.{same_cell}
use Rattle.id_bank.specs.declared.cell.ReadAnswer.TheVariants.{Now, Deferred}
use Rattle.id_bank.specs.declared.cell.WriteAnswer.TheVariants.{Readers, Second}
use Rattle.id_core.specs.Machines.{World}
use Rattle.id_value.specs.declared.Constant.{Constant}
use Rattle.id_runs.specs.Events.{Waits, Blocked, Fires, Event, Took, Looked, Wrote, payload_of, sends_of, Enters}
use Rattle.id_runs.specs.Runs.{Reach, handled}
use Rattle.id_runs.specs.Cells.{held, put_off, cell_at}
use Rattle.id_runs.specs.Keys.{Key, AtPort, ByFetch, ByStore, key_of}
use Rattle.id_runs.specs.OneMessage.{count_for, Few}
use Rattle.id_runs.proofs.Keys.{hit, hit_itself, hit_is, hit_small, count_none, count_cons, count_one, count_first}
use Rattle.id_runs.proofs.Keys.{count_append, counted}
use Rattle.id_runs.proofs.Cells.{cells_exact}
use Rattle.id_runs.proofs.CellLaws.{whole_list}

-- a key is for one port of one tag
pub key_parts : {t u : Tag} {p q : Port} → AtPort t p ≡ AtPort u q → (t ≡ u) × (p ≡ q)
key_parts e = (cc, cc)

-- tokens to destinations that differ are for ports that differ
dests_apart : (k : Key) (u : Tag) (v : Value) (ds : List Dest) → AllDiffer ds → count_for k (map (token_to u v) ds) ≤ 1
dests_apart k u v [] differ = omega (arith, count_none k)
dests_apart k u v (d ∷ ds) differ =
    count_first k (token_to u v d) (map (token_to u v) ds) (dests_apart k u v ds differ.1)
    (λ y h e.
    let other = Among-from_map (token_to u v) y ds h in
    let at = key_parts (e ∙ ap key_of other.2) in
    let same : d ≡ other.0 = (λ i. record { instr = (at.0 i).instr; port = at.1 i }) in
    differ.0 (subst (λ z. Among z ds) (sym same) other.1))

-- what starts a block is for two ports
started_apart : (k : Key) (o : Option Op) (t : Tag) (c : Context) → count_for k (started o t c) ≤ 1
started_apart k None t c = omega (arith, count_none k)
started_apart k (Some (Enter b r)) t c =
    let second : Payload = Token (tag_within c (b + 1)) Zero (value.Continuation (beside t r)) in
    count_first k (Token (tag_within c b) Zero value.Signal) (second ∷ []) (count_one k second)
    (λ y h e.
    let at = key_parts (e ∙ ap key_of (Among-one y second h)) in
    let same : b ≡ b + 1 = ap (λ (u : Tag). u.instr) at.0 in
    omega (arith, same))
started_apart k (Some (Const v)) t c = omega (arith, count_none k)
started_apart k (Some (Unary f)) t c = omega (arith, count_none k)
started_apart k (Some (Binary f)) t c = omega (arith, count_none k)
started_apart k (Some (Merge j)) t c = omega (arith, count_none k)
started_apart k (Some (Switch j)) t c = omega (arith, count_none k)
started_apart k (Some (Back j)) t c = omega (arith, count_none k)
started_apart k (Some (Send j n)) t c = omega (arith, count_none k)
started_apart k (Some (Next j)) t c = omega (arith, count_none k)
started_apart k (Some (Reset j)) t c = omega (arith, count_none k)
started_apart k (Some (Alloc nested)) t c = omega (arith, count_none k)
started_apart k (Some (Address nested)) t c = omega (arith, count_none k)
started_apart k (Some (Fetch nested r)) t c = omega (arith, count_none k)
started_apart k (Some (Store nested)) t c = omega (arith, count_none k)

-- and they are in the context
started_within : (o : Option Op) (t : Tag) (c : Context) (x : Payload) → Among x (started o t c)
    → (tag_of x).context ≡ c
started_within None t c x h = absurd h
started_within (Some (Enter b r)) t c x (inl e) = ap (λ y. (tag_of y).context) e
started_within (Some (Enter b r)) t c x (inr h) = ap (λ y. (tag_of y).context) (Among-one x _ h)
started_within (Some (Const v)) t c x h = absurd h
started_within (Some (Unary f)) t c x h = absurd h
started_within (Some (Binary f)) t c x h = absurd h
started_within (Some (Merge j)) t c x h = absurd h
started_within (Some (Switch j)) t c x h = absurd h
started_within (Some (Back j)) t c x h = absurd h
started_within (Some (Send j n)) t c x h = absurd h
started_within (Some (Next j)) t c x h = absurd h
started_within (Some (Reset j)) t c x h = absurd h
started_within (Some (Alloc nested)) t c x h = absurd h
started_within (Some (Address nested)) t c x h = absurd h
started_within (Some (Fetch nested r)) t c x h = absurd h
started_within (Some (Store nested)) t c x h = absurd h

-- the key of a message tells its tag
tag_of_key : (x y : Payload) → key_of x ≡ key_of y → tag_of x ≡ tag_of y
tag_of_key (Token t p v) (Token u q w) e = (key_parts e).0
tag_of_key (Read c t) (Read d u) e = cc
tag_of_key (Write c v t) (Write d w u) e = cc
tag_of_key (Token t p v) (Read d u) e = cc
tag_of_key (Token t p v) (Write d w u) e = cc
tag_of_key (Read c t) (Token u q w) e = cc
tag_of_key (Read c t) (Write d w u) e = cc
tag_of_key (Write c v t) (Token u q w) e = cc
tag_of_key (Write c v t) (Read d u) e = cc

-- lists of which no two share a key have one at most, where each has
apart_lists : (k : Key) (xs ys : List Payload) → count_for k xs ≤ 1 → count_for k ys ≤ 1
    → ((x y : Payload) → Among x xs → Among y ys → key_of x ≡ key_of y → ⊥) → count_for k (xs ++ ys) ≤ 1
apart_lists k xs ys few few' differ = go (count_for k xs) (count_for k ys) refl refl
  where
    go : (m n : ℕ) → count_for k xs ≡ m → count_for k ys ≡ n → count_for k (xs ++ ys) ≤ 1
    go zero n e f = omega (arith, count_append k xs ys)
    go (suc m) zero e f = omega (arith, count_append k xs ys)
    go (suc m) (suc n) e f =
        let a = counted k xs (omega arith) in
        let b = counted k ys (omega arith) in
        absurd (differ a.0 b.0 a.1 b.1 (a.2 ∙ sym b.2))

entered_apart : (k : Key) (o : Option Op) (u : Tag) (ds : List Dest) (c : Context) → AllDiffer ds → (c ≡ u.context → ⊥)
    →
    count_for k (sent o ds u (fires.Entered c)) ≤ 1
entered_apart k o u ds c differ elsewhere =
    apart_lists k (map (token_to u (value.Context c)) ds) (started o u c) (dests_apart k u (value.Context c) ds differ)
    (started_apart k o u c)
    (λ x y a b e.
    let d = Among-from_map (token_to u (value.Context c)) x ds a in
    let of_dest : (tag_of x).context ≡ u.context = ap (λ z. (tag_of z).context) d.2 in
    elsewhere (sym (started_within o u c y b) ∙ sym (ap (λ (t : Tag). t.context) (tag_of_key x y e)) ∙ of_dest))

sent_apart : (k : Key) (o : Option Op) (u : Tag) (ds : List Dest) (f : Fired) → AllDiffer ds
    → ((c : Context) → f ≡ fires.Entered c → c ≡ u.context → ⊥)
    → count_for k (sent o ds u f) ≤ 1
sent_apart k o u ds (fires.Out v) differ elsewhere = dests_apart k u v ds differ
sent_apart k o u ds (fires.Side b v) differ elsewhere = dests_apart k u v ds differ
sent_apart k o u ds (fires.Moved i v) differ elsewhere = dests_apart k (moved_to u i) v ds differ
sent_apart k o u ds (fires.Entered c) differ elsewhere = entered_apart k o u ds c differ (elsewhere c refl)
sent_apart k o u ds (fires.Sent to v) differ elsewhere = count_one k (Token to Zero v)
sent_apart k o u ds (fires.Asked c to) differ elsewhere = count_one k (Read c to)
sent_apart k o u ds (fires.Stored c v to) differ elsewhere = count_one k (Write c v to)
sent_apart k o u ds (fires.Failed f) differ elsewhere = omega (arith, count_none k)
sent_apart k o u ds fires.Nothing differ elsewhere = omega (arith, count_none k)

-- ---- the answers of a fill

-- the answers to these replies
abbrev pub answers : Value → List Tag → List Payload
answers v ts = map (λ t. Token t Zero v) ts

-- an answer is for a port of a reply: there are no more of one than there are reads for that reply
hit_answer : (t u : Tag) (v : Value) (c : Cell) → hit (AtPort t Zero) (Token u Zero v) ≤ hit (ByFetch t) (Read c u)
hit_answer t u v c = go (hit (AtPort t Zero) (Token u Zero v)) refl
  where
    go : (n : ℕ) → hit (AtPort t Zero) (Token u Zero v) ≡ n
        → hit (AtPort t Zero) (Token u Zero v) ≤ hit (ByFetch t) (Read c u)
    go zero e = omega (arith, e)
    go (suc n) e =
        let is = (key_parts (hit_is (AtPort t Zero) (Token u Zero v) (omega (arith, e)))).0 in
        omega (arith, hit_small (AtPort t Zero) (Token u Zero v), hit_itself (ByFetch t) (Read c u) (ap ByFetch is))

held_hits : (t : Tag) (v : Value) (c : Cell) (e : Event)
    → count_for (AtPort t Zero) (answers v (held c e)) ≤ hit (ByFetch t) (payload_of e)
held_hits t v c (Took n u p w a) = omega (arith, count_none (AtPort t Zero))
held_hits t v c (Wrote n d w x a) = omega (arith, count_none (AtPort t Zero))
held_hits t v c (Looked n d u (Now w)) = omega (arith, count_none (AtPort t Zero))
held_hits t v c (Looked n d u Deferred) = by (same_cell d c)
  where
    by : (b : Bool) → count_for (AtPort t Zero) (answers v (cond b (u ∷ []) [])) ≤ hit (ByFetch t) (Read d u)
    by true =
        omega (arith, count_cons (AtPort t Zero) (Token u Zero v) [], count_none (AtPort t Zero), hit_answer t u v d)
    by false = omega (arith, count_none (AtPort t Zero))

off_hits : (t : Tag) (v : Value) (c : Cell) (run : List Event)
    → count_for (AtPort t Zero) (answers v (put_off run c)) ≤ count_for (ByFetch t) (handled run)
off_hits t v c [] = omega (arith, count_none (AtPort t Zero))
off_hits t v c (e ∷ run) =
    let parts : count_for (AtPort t Zero) (answers v (put_off run c ++ held c e)) ≡
    count_for (AtPort t Zero) (answers v (put_off run c)) + count_for (AtPort t Zero) (answers v (held c e)) =
    ap (count_for (AtPort t Zero)) (map-append (λ u. Token u Zero v) (put_off run c) (held c e)) ∙
    count_append (AtPort t Zero) (answers v (put_off run c)) (answers v (held c e)) in
    omega (arith, parts, off_hits t v c run, held_hits t v c e, count_cons (ByFetch t) (payload_of e) (handled run))

-- an answer has no other key
no_answer : (k : Key) (v : Value) (ts : List Tag) → ((t : Tag) → AtPort t Zero ≡ k → ⊥) → count_for k (answers v ts) ≤ 1
no_answer k v ts other = go (count_for k (answers v ts)) refl
  where
    go : (n : ℕ) → count_for k (answers v ts) ≡ n → count_for k (answers v ts) ≤ 1
    go zero e = omega (arith, e)
    go (suc n) e =
        let b = counted k (answers v ts) (omega (arith, e)) in
        let u = Among-from_map (λ t. Token t Zero v) b.0 ts b.1 in
        absurd (other u.0 (sym (ap key_of u.2) ∙ b.2))

pub off_once : (k : Key) (v : Value) (c : Cell) (run : List Event) → Few run
    → count_for k (answers v (put_off run c)) ≤ 1
off_once (AtPort t Zero) v c run few = omega (arith, off_hits t v c run, few (ByFetch t))
off_once (AtPort t One) v c run few =
    no_answer (AtPort t One) v (put_off run c) (λ u e. let bad : Zero ≡ One = (key_parts e).1 in cc)
off_once (ByFetch t) v c run few = no_answer (ByFetch t) v (put_off run c) (λ u e. cc)
off_once (ByStore t) v c run few = no_answer (ByStore t) v (put_off run c) (λ u e. cc)

module _ (g : Parts) (vs : List Constant) (count : ℕ) (differ : (n : ℕ) (b : Bool) → AllDiffer (dests_at g n b)) where
  -- so an event that enters a block does so in another context than its own
  pub sent_once : (s : World) (run : List Event) → Reach g vs count s run → Few run → (e : Event) → Among e run
      → (k : Key) → ((c : Context) → Enters e c → c ≡ (tag_of (payload_of e)).context → ⊥)
      → count_for k (sends_of g e) ≤ 1
  sent_once s run r few (Took n t p v Waits) among k elsewhere = omega (arith, count_none k)
  sent_once s run r few (Took n t p v Blocked) among k elsewhere = omega (arith, count_none k)
  sent_once s run r few (Took n t p v (Fires ops f)) among k elsewhere =
      sent_apart k (op_at g t.instr) t (dests_at g t.instr (side_of f)) f (differ t.instr (side_of f)) elsewhere
  sent_once s run r few (Looked n c t (Now v)) among k elsewhere = count_one k (Token t Zero v)
  sent_once s run r few (Looked n c t Deferred) among k elsewhere = omega (arith, count_none k)
  sent_once s run r few (Wrote n c v w (Readers ts)) among k elsewhere =
      subst (λ us. count_for k (answers v us) ≤ 1)
      (sym (whole_list run (cell_at count s) (cells_exact g vs count s run r) c v w ts
      (record { element = n; among = among })))
      (off_once k v c run few)
  sent_once s run r few (Wrote n c v w (Second x)) among k elsewhere = omega (arith, count_none k)
