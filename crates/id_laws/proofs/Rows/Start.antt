-- What is there at the start: a signal and the way back for main's block, and an input for each of its parameters.
use Rattle.std.proofs.Common.{◌≡◌, inl, inr, ℕ, zero, suc, ◌≤◌, ◌<◌, ◌==◌, true, false, Option, Some, List, [], ◌∷◌}
use Rattle.std.proofs.Common.{length, map, slice_get, refl, sym, ◌∙◌, ap}
use Rattle.std.proofs.Common.{subst, arith}
use Rattle.std.specs.Prelude.{filter}
use Rattle.std.proofs.lemmas.Bool.{eqb-true, eq-eqb}
use Rattle.id_value.specs.declared.Kind.{Kind}
use Rattle.id_value.specs.List.{Among, AllDiffer}
use Rattle.id_value.proofs.AmongLemmas.{Among-from_at}
use Rattle.id_table.specs.declared.row.Node.{Node}
use Rattle.id_table.specs.declared.row.Node.TheVariants.{Head, Param, Def, LoopHead, Loop}
use Rattle.id_table.specs.Tables.{begins_block, is_thing}
use Rattle.id_table.specs.Turns.{IsTable, IsDefOf, params_at}
use Rattle.id_check.specs.declared.checked.Checked.{Checked}
use Rattle.id_check.specs.Programs.{place, rows}
use Rattle.id_instr.specs.declared.dests.Port.{Port}
use Rattle.id_instr.specs.declared.dests.Port.TheVariants.{Zero}
use Rattle.id_instr.specs.declared.instr.Instr.{Instr}
use Rattle.id_instr.specs.Graph.{Parts}
use Rattle.id_tag.specs.declared.Value.{Value}
use Rattle.id_tag.specs.declared.Value.TheVariants.{Signal, Continuation}
use Rattle.id_tag.specs.declared.Payload.{Payload}
use Rattle.id_tag.specs.declared.Payload.TheVariants.{Token}
use Rattle.id_tag.specs.declared.Message.{Message}
use Rattle.id_valid.specs.Roles.{has_main_place, same_place}
use Rattle.id_core.specs.Machines.{input_messages, block_messages}
use Rattle.id_value.specs.declared.Constant.{Constant}
use Rattle.id_ops.specs.Operators.{constant_value}
use Rattle.id_source.specs.Sources.{Source}
use Rattle.id_build.specs.Rows.{Entry, node, answer_row, entries, entries_by, param_entry}
use Rattle.id_instr.specs.declared.instr.Block.{Block}
use Rattle.id_build.specs.Schemas.{Numbered, all_heads, block_of}
use Rattle.id_runs.specs.Activations.{main_activation, tag_in}
use Rattle.id_runs.specs.Keys.{Key, AtPort, ByFetch, ByStore, key_of}
use Rattle.id_runs.specs.Runs.{starting}
use Rattle.id_runs.specs.OneMessage.{count_for}
use Rattle.id_runs.proofs.Keys.{count_none, count_first}
use Rattle.id_laws.specs.Activations.{main_head}
use Rattle.id_laws.specs.Topics.{IsPart}
use Rattle.id_laws.specs.Ways.{StartsAt, signal, way_back, input}
use Rattle.id_laws.proofs.Rows.Arcs.{starts, returns, enters, answers, makes, part_of, place_shown}
use Rattle.id_laws.proofs.Rows.Assumed.{IsKnown}
use Rattle.id_laws.proofs.Rows.Blocks.{all_differ, all_listed, any_head, params_differ, a_param, one_passes}
use Rattle.id_laws.proofs.Rows.LoopRows.{head_place as loop_place}
use Rattle.id_laws.proofs.Rows.Tokens.{one_part}

-- a definition is a thing
def_thing : {m : Node} {x h b : ℕ} {k : Kind} → m ≡ Def x h k b → is_thing m ≡ true
def_thing is = ap is_thing is

one_head : {x h b x' h' b' : ℕ} {k k' : Kind} → Def x h k b ≡ Def x' h' k' b' → h ≡ h'
one_head is = cc

same_places : (o o' : Option Instr) (i j : Instr) → o ≡ Some i → o' ≡ Some j → same_place o o' ≡ (i.place == j.place)
same_places o o' i j e e' = (λ n. same_place (e n) (e' n))

some_is : {A : Type 0} {x y : A} → Some x ≡ Some y → x ≡ y
some_is h = cc

loop_no_def : {h w l x i b : ℕ} {k : Kind} → Loop h w l ≡ Def x i k b → ⊥
loop_no_def h = cc

true_false : true ≡ false → ⊥
true_false h = cc

head_no_param : {x : ℕ} {k : Kind} → Head ≡ Param x k → ⊥
head_no_param h = cc

zero_one : zero ≡ suc zero → ⊥
zero_one h = cc

abbrev instr_of_key : Key → ℕ
instr_of_key (AtPort t p) = t.instr
instr_of_key (ByFetch t) = t.instr
instr_of_key (ByStore t) = t.instr

module _ (S : Source) (g : Parts) (number : ℕ → ℕ
    → ℕ) (numbered : Numbered S.checked g number) (known : IsKnown S.checked) where
  abbrev P : Checked
  P = S.checked

  abbrev main : ℕ
  main = main_head P

  pub main_is_head : node P main ≡ Head
  main_is_head = let d = known.main in ((known.table).head_is P.main d.name main d.body d.result d.within d.node).0

  pub main_within : main < length (rows P)
  main_within = let d = known.main in let f = (known.table).formed in
      omega (
        arith,
        d.within,
        ((f.each P.main d.within).parts main
            (subst (λ m. Rattle.id_table.specs.Tables.HasPart m main) (sym d.node) (inl refl))).1,
      )

  answer_within : answer_row P < length (rows P)
  answer_within = let t = known.table in omega (arith, t.some)

  -- the head of a block that has the place of main's definition is main's: a loop's has that of its loop
  head_at : (h : ℕ) → h < length (rows P) → begins_block (node P h) ≡ true → place P h ≡ place P P.main → h ≡ main
  head_at h within begins same = by (node P h) refl begins
    where
      t : IsTable (rows P)
      t = known.table

      m : IsDefOf (rows P) P.main main
      m = known.main

      by : (n : Node) → node P h ≡ n → begins_block n ≡ true → h ≡ main
      by Head is b =
          let d = t.has_def h within is in
          let e = d.1 in
          let one : d.0 ≡ P.main =
          (known.apart).apart d.0 P.main e.within m.within (def_thing e.node) (def_thing m.node)
          (sym (known.head_place d.0 h e) ∙ same) in
          one_head (sym e.node ∙ ap (node P) one ∙ m.node)
      by (LoopHead s) is b =
          let l = loop_place P h s within is in
          let c = l.loop in
          let one : l.row ≡ P.main =
          (known.apart).apart l.row P.main c.within m.within (ap is_thing c.node) (def_thing m.node) (sym l.place
          ∙ same) in
          absurd (loop_no_def (sym c.node ∙ ap (node P) one ∙ m.node))
      by _ is b = absurd (true_false (sym b))

  head_shows : (e : ℕ) (n : Node) → begins_block n ≡ true → place_shown P e n ≡ e
  head_shows e Head b = refl
  head_shows e (LoopHead s) b = refl
  head_shows e _ b = absurd (true_false (sym b))

  -- a head's place and the answer's
  main_test : (h : ℕ) → h < length (rows P) → begins_block (node P h) ≡ true
      → has_main_place g (block_of P number h) ≡ (place P h == place P P.main)
  main_test h within begins =
      let m = numbered.made h 0 _ _ (makes within (starts begins)) in
      let z = numbered.made (answer_row P) 0 _ _ (makes answer_within (answers (known.table).ends)) in
      same_places _ _ m.instr z.instr m.at (ap (slice_get g.instrs) (sym numbered.answer_first) ∙ z.at)
      ∙ (λ i. m.place i == z.place i)
      ∙ (λ i. head_shows (place P h) (node P h) begins i == place_shown P (place P (answer_row P))
      ((known.table).ends i))

  -- the first instructions of its entries are the labels of main's parameters
  param_entries : (bs : List ℕ)
      → map (λ (q : Entry). number q.row q.part) (map param_entry bs) ≡ map (λ b. number b 0) bs
  param_entries [] = refl
  param_entries (b ∷ bs) = ap (λ ns. number b 0 ∷ ns) (param_entries bs)

  pub main_entries : map (λ (q : Entry). number q.row q.part) (entries P main)
      ≡ map (λ b. number b 0) (params_at (rows P) main)
  main_entries =
      ap (λ m. map (λ (q : Entry). number q.row q.part) (entries_by P main m)) main_is_head
      ∙ param_entries (params_at (rows P) main)

  abbrev pub the_block : Block
  the_block = record { first = number main 0; entries = map (λ b. number b 0) (params_at (rows P) main) }

  main_begins : begins_block (node P main) ≡ true
  main_begins = ap begins_block main_is_head

  pub main_block : filter (has_main_place g) g.blocks ≡ the_block ∷ []
  main_block =
      ap (filter (has_main_place g)) numbered.blocks
      ∙ one_passes (has_main_place g) (block_of P number) (all_heads P) main (all_differ P)
      (all_listed P main main_within main_begins)
      (main_test main main_within main_begins
      ∙ eq-eqb (place P main) (place P P.main) (known.head_place P.main main known.main))
      (λ h among e. let z = any_head P h among in
      head_at h z.0 z.1 (eqb-true (place P h) (place P P.main) (sym (main_test h z.0 z.1) ∙ e)))
      ∙ ap (λ es. record { first = number main 0; entries = es } ∷ []) main_entries

  -- the tokens that bring inputs to the labels of parameters, in order
  abbrev pub inputs_to : List ℕ → List Constant → List Payload
  inputs_to [] vs = []
  inputs_to (b ∷ bs) [] = []
  inputs_to (b ∷ bs) (v ∷ vs) = Token (tag_in main_activation (number b 0)) Zero (constant_value v) ∷ inputs_to bs vs

  inputs_sent : (k : ℕ) (bs : List ℕ) (vs : List Constant)
      → map (λ (m : Message). m.payload) (input_messages k (map (λ x. number x 0) bs) vs) ≡ inputs_to bs vs
  inputs_sent k [] vs = refl
  inputs_sent k (b ∷ bs) [] = refl
  inputs_sent k (b ∷ bs) (v ∷ vs) =
      ap (λ ms. Token (tag_in main_activation (number b 0)) Zero (constant_value v) ∷ ms) (inputs_sent (suc k) bs vs)

  abbrev pub signal_to : Payload
  signal_to = Token (tag_in main_activation (number main 0)) Zero Signal

  abbrev pub way_back_to : Payload
  way_back_to =
      Token (tag_in main_activation (number main 1)) Zero
      (Continuation (tag_in main_activation (number (answer_row P) 0)))

  pub starting_is : starting g S.inputs ≡ signal_to ∷ way_back_to ∷ inputs_to (params_at (rows P) main) S.inputs
  starting_is =
      ap (λ bs. map (λ (m : Message). m.payload) (block_messages bs S.inputs)) main_block
      ∙ (λ i. signal_to
      ∷ Token (tag_in main_activation
      (sym (numbered.second_behind main (all_listed P main main_within (ap begins_block main_is_head))) i)) Zero
      (Continuation (tag_in main_activation (sym numbered.answer_first i)))
      ∷ inputs_sent 2 (params_at (rows P) main) S.inputs i)

  -- the message is there at the start
  pub record Started (x : Payload) : Type 0 where
    pub row : ℕ
    pub part : ℕ
    pub port : Port
    pub value : Value
    pub starts_at : StartsAt S number row part port value
    pub is_part : IsPart P row part
    pub is : x ≡ Token (tag_in main_activation (number row part)) port value

  param_part : (b : ℕ) → Among b (params_at (rows P) main) → IsPart P b 0
  param_part b among = let z = a_param (rows P) main (length (rows P)) b among in part_of z.within (enters (z.param).is)

  -- the input that a token brings
  record Brings (bs : List ℕ) (vs : List Constant) (x : Payload) : Type 0 where
    number_of : ℕ
    row : ℕ
    value : Constant
    param : slice_get bs number_of ≡ Some row
    given : slice_get vs number_of ≡ Some value
    is : x ≡ Token (tag_in main_activation (number row 0)) Zero (constant_value value)

  brings : (bs : List ℕ) (vs : List Constant) (x : Payload) → Among x (inputs_to bs vs) → Brings bs vs x
  brings [] vs x h = absurd h
  brings (b ∷ bs) [] x h = absurd h
  brings (b ∷ bs) (v ∷ vs) x (inl is) =
      record { number_of = 0; row = b; value = v; param = refl; given = refl; is = is }
  brings (b ∷ bs) (v ∷ vs) x (inr h) =
      let t = brings bs vs x h in
      record { number_of = suc t.number_of; row = t.row; value = t.value; param = t.param; given = t.given; is = t.is }

  pub started : (x : Payload) → Among x (starting g S.inputs) → Started x
  started x h =
      elim (subst (Among x) starting_is h) [
        | inl is ↦ record {
          row = main;
          part = 0;
          port = Zero;
          value = Signal;
          starts_at = signal;
          is_part = part_of main_within (starts (ap begins_block main_is_head));
          is = is;
        }
        | inr more ↦ elim more [
          | inl is ↦ record {
            row = main;
            part = 1;
            port = Zero;
            value = _;
            starts_at = way_back;
            is_part = part_of main_within (returns main_is_head);
            is = is;
          }
          | inr rest ↦
              let b = brings (params_at (rows P) main) S.inputs x rest in
              record {
                row = b.row;
                part = 0;
                port = Zero;
                value = constant_value b.value;
                starts_at = input b.row b.value (record { number = b.number_of; param = b.param; value = b.given });
                is_part = param_part b.row (Among-from_at b.row (params_at (rows P) main) b.number_of b.param);
                is = b.is;
              }
        ]
      ]

  input_listed : (bs : List ℕ) (vs : List Constant) (n b : ℕ) (v : Constant) → slice_get bs n ≡ Some b
      → slice_get vs n ≡ Some v
      → Among (Token (tag_in main_activation (number b 0)) Zero (constant_value v)) (inputs_to bs vs)
  input_listed [] vs n b v h k = cc
  input_listed (x ∷ bs) [] n b v h k = cc
  input_listed (x ∷ bs) (w ∷ vs) zero b v h k =
      let row_is : x ≡ b = some_is h in
      let value_is : w ≡ v = some_is k in
      inl (λ i. Token (tag_in main_activation (number (sym row_is i) 0)) Zero (constant_value (sym value_is i)))
  input_listed (x ∷ bs) (w ∷ vs) (suc n) b v h k = inr (input_listed bs vs n b v h k)

  -- what starts is there
  pub is_there : {n part : ℕ} {p : Port} {v : Value} → StartsAt S number n part p v
      → Among (Token (tag_in main_activation (number n part)) p v) (starting g S.inputs)
  is_there signal = subst (Among signal_to) (sym starting_is) (inl refl)
  is_there way_back = subst (Among way_back_to) (sym starting_is) (inr (inl refl))
  is_there (input b v x) =
      subst (Among (Token (tag_in main_activation (number b 0)) Zero (constant_value v))) (sym starting_is)
      (inr (inr (input_listed (params_at (rows P) main) S.inputs x.number b v x.param x.value)))

  -- ---- none is there twice

  number_of_key : {j k : Key} {m n : ℕ} {p q : Port} → j ≡ AtPort (tag_in main_activation m) p
      → k ≡ AtPort (tag_in main_activation n) q → j ≡ k → m ≡ n
  number_of_key e e' same = ap instr_of_key (sym e ∙ same ∙ e')

  inputs_apart : (k : Key) (bs : List ℕ) (vs : List Constant) → ((b : ℕ) → Among b bs → IsPart P b 0) → AllDiffer bs
      → count_for k (inputs_to bs vs) ≤ 1
  inputs_apart k [] vs part differ = omega (arith, count_none k)
  inputs_apart k (b ∷ bs) [] part differ = omega (arith, count_none k)
  inputs_apart k (b ∷ bs) (v ∷ vs) part differ =
      count_first k (Token (tag_in main_activation (number b 0)) Zero (constant_value v)) (inputs_to bs vs)
      (inputs_apart k bs vs (λ y h. part y (inr h)) differ.1)
      (λ y h same.
      let z = brings bs vs y h in
      let among = Among-from_at z.row bs z.number_of z.param in
      let one =
      one_part numbered (part b (inl refl)) (part z.row (inr among)) (number_of_key refl (ap key_of z.is) same) in
      differ.0 (subst (λ w. Among w bs) (sym one.0) among))

  -- what goes to the head is no input
  no_input : (part : ℕ) → IsPart P main part → (x y : Payload) (v : Value)
      → x ≡ Token (tag_in main_activation (number main part)) Zero v
      → Among y (inputs_to (params_at (rows P) main) S.inputs) → key_of x ≡ key_of y → ⊥
  no_input part made x y v is h same =
      let z = brings (params_at (rows P) main) S.inputs y h in
      let among = Among-from_at z.row (params_at (rows P) main) z.number_of z.param in
      let one = one_part numbered made (param_part z.row among) (number_of_key (ap key_of is) (ap key_of z.is) same) in
      let p = (a_param (rows P) main (length (rows P)) z.row among).param in
      head_no_param (sym main_is_head ∙ ap (node P) one.0 ∙ p.is)

  pub starts_once : (k : Key) → count_for k (starting g S.inputs) ≤ 1
  starts_once k =
      let rest = inputs_to (params_at (rows P) main) S.inputs in
      subst (λ xs. count_for k xs ≤ 1) (sym starting_is)
      (count_first k signal_to (way_back_to ∷ rest)
      (count_first k way_back_to rest
      (inputs_apart k (params_at (rows P) main) S.inputs param_part (params_differ (rows P) main (length (rows P))))
      (λ y h same. no_input 1 (part_of main_within (returns main_is_head)) way_back_to y _ refl h same))
      (λ y h same.
      elim h [
        | inl is ↦ zero_one
            (one_part numbered (part_of main_within (starts (ap begins_block main_is_head)))
            (part_of main_within (returns main_is_head))
            (number_of_key refl (ap key_of is) same)).1
        | inr more ↦ no_input 0 (part_of main_within (starts (ap begins_block main_is_head))) signal_to y _ refl more
            same
      ]))
