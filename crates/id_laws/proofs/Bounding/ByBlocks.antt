-- The messages of a run are no more than the keys of its live activations in their blocks, and the answer's.
use Rattle.std.proofs.Common.{◌≡◌, ◌⊎◌, inl, inr, ℕ, List, [], ◌∷◌, ◌++◌, length, map, refl, sym, ◌∙◌, ap, subst, arith}
use Rattle.std.proofs.Common.{length-append}
use Rattle.std.proofs.lemmas.List.{length-map}
use Rattle.std.specs.Prelude.{flat_map, sum_by}
use Rattle.std.proofs.lemmas.Bool.{cases_eq}
use Rattle.std.proofs.lemmas.List.Sums.{sum_by-cons}
use Rattle.id_value.specs.List.{Among, AllDiffer}
use Rattle.id_value.proofs.AmongLemmas.{Among-from_map, Among-left, Among-map, Among-right}
use Rattle.id_value.proofs.DifferLemmas.{AllDiffer-few}
use Rattle.id_table.specs.declared.row.Node.TheVariants.{Fetch, Program, Store}
use Rattle.id_check.specs.declared.checked.Checked.{Checked}
use Rattle.id_check.specs.Programs.{place}
use Rattle.id_instr.specs.declared.dests.Port.{Port}
use Rattle.id_instr.specs.Graph.{Parts}
use Rattle.id_tag.specs.declared.Cell.{Cell}
use Rattle.id_tag.specs.declared.Tag.{Tag}
use Rattle.id_tag.specs.declared.Value.{Value}
use Rattle.id_tag.specs.declared.Payload.{Payload}
use Rattle.id_tag.specs.declared.Payload.TheVariants.{Token, Read, Write}
use Rattle.id_core.specs.Machines.{World}
use Rattle.id_source.specs.declared.Path.{Path}
use Rattle.id_source.specs.Sources.{Source}
use Rattle.id_build.specs.declared.arc.Piece.{Piece}
use Rattle.id_build.specs.Rows.{answer_row, block, made_of, node}
use Rattle.id_build.specs.Schemas.{Numbered}
use Rattle.id_runs.specs.Activations.{Activation, activation_of, main_activation, tag_in}
use Rattle.id_runs.specs.Events.{Event}
use Rattle.id_runs.specs.Keys.{Key, AtPort, ByFetch, ByStore, key_of}
use Rattle.id_runs.specs.Runs.{Reach, Moving, SentBy, starting}
use Rattle.id_runs.proofs.Messages.{origin}
use Rattle.id_runs.proofs.Runs.{reached}
use Rattle.id_runs.proofs.Serials.{contexts_apart}
use Rattle.id_laws.specs.Activations.{PathOf}
use Rattle.id_laws.specs.Laws.{messages}
use Rattle.id_laws.specs.Topics.{Told, ToldToken}
use Rattle.id_laws.proofs.Rows.Arcs.{doing, fetches, makes, stores}
use Rattle.id_laws.proofs.Rows.Assumed.{IsKnown}
use Rattle.id_laws.proofs.Telling.FiringMeans.{IsBacked}
use Rattle.id_laws.proofs.Rows.Known.{known}
use Rattle.id_laws.proofs.Paths.Opened.{OpenedFor}
use Rattle.id_laws.proofs.Paths.Seats.{live_path}
use Rattle.id_laws.proofs.Paths.Senders.{SentSo, as_token, as_read, as_write, sent_so}
use Rattle.id_laws.proofs.Paths.Sites.{one_activation}
use Rattle.id_laws.proofs.Rows.Start.{started}
use Rattle.id_laws.proofs.Telling.StartTells.{all_tell, seats}
use Rattle.id_laws.proofs.Rows.Tokens.{one_part, token_is}
use Rattle.id_laws.proofs.Telling.Wholes.{AreWhole, are_whole}
use Rattle.id_laws.specs.ByBlock.{BoundedByBlock, IsBoundedByBlock, IsTurn, Turn, messages_in_block, messages_of}
use Rattle.id_laws.proofs.Bounding.BlockKeys.{block_key, block_keys, block_long, row_key, row_keys, row_long}
use Rattle.id_laws.proofs.Bounding.BlockKeys.{sum_by_alike}
use Rattle.id_laws.proofs.Bounding.BlockRows.{answer_main, one_block, part_block, row_block}
use Rattle.id_laws.proofs.Bounding.BoundsLemmas.{acting, acting_live, backed as is_backed, keys, keys_are_apart, moved}
use Rattle.id_laws.proofs.Bounding.DifferCounts.{Among-flat_map, length-flat_map}
use Rattle.id_laws.proofs.Bounding.Keys.{part_key}
use Rattle.id_laws.proofs.Bounding.Paid.{pays}
use Rattle.id_laws.proofs.Bounding.Told.{IsLive, under}

no_fetch : {t i : ℕ} → Fetch t i ≡ Program → ⊥
no_fetch e = cc

no_store : {a v : ℕ} → Store a v ≡ Program → ⊥
no_store e = cc

token_no_read : {t u : Tag} {p : Port} {v : Value} {d : Cell} → Token t p v ≡ Read d u → ⊥
token_no_read e = cc

token_no_write : {t u : Tag} {p : Port} {v w : Value} {d : Cell} → Token t p v ≡ Write d w u → ⊥
token_no_write e = cc

sum_by_map : {A B : Type 0} (f : B → ℕ) (h : A → B) (xs : List A) → sum_by f (map h xs) ≡ sum_by (λ x. f (h x)) xs
sum_by_map f h [] = refl
sum_by_map f h (x ∷ xs) =
    omega (arith, sum_by-cons f (h x) (map h xs), sum_by-cons (λ z. f (h z)) x xs, sum_by_map f h xs)

module _ (S : Source) (known : IsKnown S.checked) (are : AreWhole S) (g : Parts) (number : ℕ → ℕ
    → ℕ) (numbered : Numbered S.checked g number)
    (count : ℕ) (s : World) (run : List Event) (r : Reach g S.inputs count s run) where
  abbrev P : Checked
  P = S.checked

  backed : IsBacked S run
  backed = is_backed S known are g number numbered count s run r

  -- ---- keys

  -- the answer's row has one
  abbrev answer_keys : List Key
  answer_keys = row_keys number main_activation P (answer_row P)

  answer_long : length answer_keys ≡ 1
  answer_long =
      row_long number main_activation P (answer_row P)
      ∙ ap (λ m. sum_by (λ (q : Piece). messages_of q.form) (made_of P (answer_row P) (place P (answer_row P)) m))
      (known.table).ends

  -- the key is the answer's, or one of the block that its activation's context was opened for
  record InItsBlock (k : Key) : Type 0 where
    head : ℕ
    opened : OpenedFor S number run (under k).context head
    among : Among k (block_keys number (under k) P head)

  abbrev Keyed : Key → Type 0
  Keyed k = Among k answer_keys ⊎ InItsBlock k

  -- a token for the answer comes under main's activation
  answered : (x : Payload) → Moving s run x → (y : ToldToken S number run x) → node P y.row ≡ Program
      → y.activation ≡ main_activation
  answered x moving y is = by (origin g S.inputs count s run r x moving)
    where
      of_event : (e : Event) → SentSo S number run e x → y.activation ≡ main_activation
      of_event e (as_token c) =
          let tags = (token_is (sym y.is ∙ c.is)).0 in
          let one = one_part numbered y.is_part c.is_part (ap (λ (t : Tag). t.instr) tags) in
          ap activation_of tags
          ∙ answer_main S known number run g numbered (contexts_apart g S.inputs count s run r) c.way
          (ap (node P) (sym one.0) ∙ is)
      of_event e (as_read c) = absurd (token_no_read (sym y.is ∙ c.is))
      of_event e (as_write c) = absurd (token_no_write (sym y.is ∙ c.is))

      by : Among x (starting g S.inputs) ⊎ SentBy g run x → y.activation ≡ main_activation
      by (inl h) = let z = started S g number numbered known x h in ap activation_of (token_is (sym y.is ∙ z.is)).0
      by (inr h) =
          of_event h.event
          (sent_so S g number numbered count s run r known (all_tell S known g number numbered run count s r backed)
          h.event h.among x h.sends)

  -- a token's key is the answer's, or one of the row's block
  token_keyed : (x : Payload) → Moving s run x → (y : ToldToken S number run x)
      → Keyed (AtPort (tag_in y.activation (number y.row y.part)) y.port)
  token_keyed x moving y = elim (cases_eq y.row (answer_row P)) [
    | inl e ↦ answer (ap (node P) e ∙ (known.table).ends) e
    | inr other ↦ inside (λ is. other (omega (arith, (known.table).ends_once y.row ((y.is_part).makes).within is)))
  ]
    where
      answer : node P y.row ≡ Program → y.row ≡ answer_row P
          → Keyed (AtPort (tag_in y.activation (number y.row y.part)) y.port)
      answer is e =
          let here =
          row_key number y.activation P (AtPort (tag_in y.activation (number y.row y.part)) y.port) (y.is_part).makes
          (part_key S number run y) in
          inl (subst
          (λ (z : Activation × ℕ). Among (AtPort (tag_in y.activation (number y.row y.part)) y.port)
          (row_keys number z.0 P z.1))
          {x = (y.activation, y.row)} {y = (main_activation, answer_row P)} (λ i. (answered x moving y is i, e i)) here)

      inside : (node P y.row ≡ Program → ⊥) → Keyed (AtPort (tag_in y.activation (number y.row y.part)) y.port)
      inside other = inr (record {
        head = block P y.row;
        opened = part_block S known number run y.activation y.value y.row ((y.is_part).makes).within y.port
            (doing (y.is_part).makes).does other y.tells;
        among = block_key number y.activation P known (block P y.row)
            (AtPort (tag_in y.activation (number y.row y.part)) y.port) (y.is_part).makes other refl
            (part_key S number run y);
      })

  keyed : (x : Payload) → Moving s run x → Told S number run x → Keyed (key_of x)
  keyed (Token t p v) moving y = subst Keyed (sym (ap key_of y.is)) (token_keyed (Token t p v) moving y)
  keyed (Read c t) moving y =
      let other = λ (e : node P y.row ≡ Program). no_fetch (sym y.node ∙ e) in
      subst (λ u. Keyed (ByFetch u)) (sym y.is) (inr (record {
        head = block P y.row;
        opened = row_block S known number run y.within other y.live;
        among = block_key number y.activation P known (block P y.row) (ByFetch (tag_in y.activation (number y.row 2)))
            (makes y.within (fetches y.node)) other
            refl (inr (inl refl));
      }))
  keyed (Write c v w) moving y =
      let other = λ (e : node P y.row ≡ Program). no_store (sym y.node ∙ e) in
      subst (λ u. Keyed (ByStore u)) (sym y.is) (inr (record {
        head = block P y.row;
        opened = row_block S known number run y.within other y.live;
        among = block_key number y.activation P known (block P y.row) (ByStore (tag_in y.activation (number y.row 0)))
            (makes y.within (stores y.node)) other
            refl (inr (inr (inl refl)));
      }))

  key_keyed : (k : Key) → Among k (keys S known are g number numbered count s run r) → Keyed k
  key_keyed k h =
      let m = moved S known are g number numbered count s run r k h in
      subst Keyed (sym m.has)
      (keyed m.payload m.moving (all_tell S known g number numbered run count s r backed m.payload m.moving))

  -- ---- turns

  -- an activation, with its path and the head of its block
  record Acted : Type 0 where
    activation : Activation
    path : Path
    head : ℕ

  abbrev turn_of : Acted → Turn
  turn_of x = record { path = x.path; head = x.head }

  record IsActed (xs : List Activation) (x : Acted) : Type 0 where
    among : Among x.activation xs
    live : IsLive S number run x.activation
    path_of : PathOf S number run x.activation x.path
    turn : IsTurn S (turn_of x)

  -- the activation is one of those, whose context was opened for the block
  record Places (list : List Acted) (a : Activation) : Type 0 where
    acted : Acted
    among : Among acted list
    is : acted.activation ≡ a
    opened : OpenedFor S number run a.context acted.head

  record Turns (xs : List Activation) : Type 0 where
    list : List Acted
    differ : AllDiffer (map (λ (t : Turn). t.path) (map turn_of list))
    each : (x : Acted) → Among x list → IsActed xs x
    all : (a : Activation) → Among a xs → Places list a

  turns_of : (xs : List Activation) → AllDiffer xs → ((a : Activation) → Among a xs → IsLive S number run a) → Turns xs
  turns_of [] differ live = record { list = []; differ = tt; each = λ x h. absurd h; all = λ a h. absurd h }
  turns_of (a ∷ xs) differ live =
      let rest = turns_of xs differ.1 (λ b h. live b (inr h)) in
      let here = live a (inl refl) in
      let path = live_path here.1 in
      let x = pays S known number run (seats S known g number numbered run count s r) here.1 path.1 in
      let now : Acted = record { activation = a; path = path.0; head = x.head } in
      record {
        list = now ∷ rest.list;
        differ = (
          λ h.
              let t = Among-from_map (λ (t : Turn). t.path) path.0 (map turn_of rest.list) h in
              let y = Among-from_map turn_of t.0 rest.list t.1 in
              let z = rest.each y.0 y.1 in
              let same : path.0 ≡ (y.0).path = t.2 ∙ ap (λ (t : Turn). t.path) y.2 in
              let one =
              one_activation S known g number numbered count s run r backed here.1 (z.live).1
              (subst (PathOf S number run a) same path.1) z.path_of in
              differ.0 (subst (λ b. Among b xs) (sym one) z.among),
          rest.differ,
        );
        each = λ y h. elim h [
          | inl e ↦ subst (IsActed (a ∷ xs)) (sym e) (record {
            among = inl refl;
            live = here;
            path_of = path.1;
            turn = x.turn;
          })
          | inr old ↦ let z =
              rest.each y old in record { among = inr z.among; live = z.live; path_of = z.path_of; turn = z.turn }
        ];
        all = λ b h. elim h [
          | inl e ↦ record {
            acted = now;
            among = inl refl;
            is = sym e;
            opened = subst (λ c. OpenedFor S number run c.context x.head) (sym e) x.opened;
          }
          | inr old ↦ let z =
              rest.all b old in record { acted = z.acted; among = inr z.among; is = z.is; opened = z.opened }
        ];
      }

  turns : Turns (acting S known are g number numbered count s run r).list
  turns =
      let as_all = acting S known are g number numbered count s run r in
      turns_of as_all.list as_all.differ (acting_live S known are g number numbered count s run r)

  -- ---- the bound

  abbrev acted_keys : Acted → List Key
  acted_keys x = block_keys number x.activation P x.head

  abbrev all_keys : List Key
  all_keys = answer_keys ++ flat_map acted_keys turns.list

  key_in : (k : Key) → Among k (keys S known are g number numbered count s run r) → Among k all_keys
  key_in k h = elim (key_keyed k h) [
    | inl answer ↦ Among-left k answer_keys (flat_map acted_keys turns.list) answer
    | inr x ↦
        let as_all = acting S known are g number numbered count s run r in
        let y = turns.all (under k)
        (as_all.all (under k) (Among-map under k (keys S known are g number numbered count s run r) h)) in
        let head =
        one_block S known number run g numbered (contexts_apart g S.inputs count s run r) x.opened y.opened in
        Among-right k answer_keys (flat_map acted_keys turns.list)
        (Among-flat_map acted_keys k y.acted turns.list y.among
        (subst (λ (z : Activation × ℕ). Among k (block_keys number z.0 P z.1)) {x = (under k, x.head)} {y =
        ((y.acted).activation, (y.acted).head)}
        (λ i. (sym y.is i, head i)) x.among))
  ]

  pub by_block : IsBoundedByBlock S s
  by_block = record {
    turns = map turn_of turns.list;
    differ = turns.differ;
    active = λ t h. (let y = Among-from_map turn_of t turns.list h in
        subst (IsTurn S) (sym y.2) ((turns.each y.0 y.1).turn));
    few = omega (
      arith,
      length-map (messages s) key_of,
      AllDiffer-few (keys S known are g number numbered count s run r) all_keys
          (keys_are_apart S known are g number numbered count s run r) key_in,
      length-append answer_keys (flat_map acted_keys turns.list),
      answer_long,
      length-flat_map acted_keys turns.list,
      sum_by_alike (λ x. length (acted_keys x)) (λ (x : Acted). messages_in_block P x.head) turns.list
          (λ x. block_long number x.activation P x.head),
      sum_by_map (λ (t : Turn). messages_in_block P t.head) turn_of turns.list,
    );
  }

pub bounded_by_block : BoundedByBlock
bounded_by_block = λ S inputs r.
    let x = reached r.graph S.inputs r.count r.positions in
    by_block S (known S.checked) (are_whole S inputs) r.graph r.schemas.number r.schemas.numbered r.count _ x.events
    x.reach
