-- What the firings of literals, bindings, operators, arrays and cells tell.
use Rattle.std.proofs.Common.{◌≡◌, ◌⊎◌, inl, inr, ℕ, ◌<◌, Bool as Truth, true, false, if◌then◌else◌, ℤ, List, length}
use Rattle.std.proofs.Common.{refl, sym, ◌∙◌, ap, subst}
use Rattle.std.specs.Bool.{beq}
use Rattle.id_value.specs.declared.Constant.{Constant}
use Rattle.id_value.specs.Bounds.{are_good, is_inside}
use Rattle.id_value.specs.declared.FaultKind.{FaultKind}
use Rattle.id_value.specs.declared.FaultKind.TheVariants.{BadBounds, OutOfBounds}
use Rattle.id_value.specs.declared.UnaryOp.{UnaryOp}
use Rattle.id_value.specs.declared.BinaryOp.{BinaryOp}
use Rattle.id_value.specs.declared.Outcome.{Outcome}
use Rattle.id_value.specs.declared.Outcome.TheVariants.{Gives, Fails, Lacks}
use Rattle.id_value.specs.Results.{result_of_unary, result_of_binary}
use Rattle.id_table.specs.declared.row.Node.{Node}
use Rattle.id_table.specs.declared.row.Node.TheVariants.{Literal, Unary, Binary, Binding, Program, Array, Fetch}
use Rattle.id_table.specs.declared.row.Node.TheVariants.{Address, Store}
use Rattle.id_table.specs.Tables.{HasNear, is_expression, is_store}
use Rattle.id_check.specs.declared.checked.Checked.{Checked}
use Rattle.id_check.specs.Programs.{Stands, place, region, rows}
use Rattle.id_tag.specs.declared.Tag.{Tag}
use Rattle.id_tag.specs.declared.Value.{Value}
use Rattle.id_tag.specs.declared.Value.TheVariants as value
use Rattle.id_ops.specs.declared.Operands.TheVariants as operands
use Rattle.id_ops.specs.declared.Fresh.{Fresh}
use Rattle.id_ops.specs.declared.Fired.{Fired}
use Rattle.id_ops.specs.declared.Fired.TheVariants.{Out, Stored, Failed, Nothing}
use Rattle.id_ops.specs.Operators.{constant_value, fired_by, fired_unary, fired_binary, fired_alloc, fired_address}
use Rattle.id_ops.specs.Operators.{fired_store}
use Rattle.id_ops.specs.Operators.{structure_in, address_in, may_hold}
use Rattle.id_tag.specs.declared.Structure.{Structure}
use Rattle.id_source.specs.declared.Path.{Path}
use Rattle.id_source.specs.declared.Site.{Site}
use Rattle.id_source.specs.declared.SourceFault.TheVariants.{Operator}
use Rattle.id_source.specs.declared.SourceValue.{SourceValue}
use Rattle.id_source.specs.declared.SourceValue.TheVariants as source
use Rattle.id_source.specs.declared.Fact.TheVariants.{On, Has}
use Rattle.id_source.specs.Sources.{Source, value_of}
use Rattle.id_source.specs.Facts.{without, literal_has, unary_has, binary_has, binding_has, unary_fails, binary_fails}
use Rattle.id_source.specs.Facts.{site, shape, shape_made, array_has, asks, puts, bad_bounds, out_of_fetch}
use Rattle.id_source.specs.Facts.{out_of_store}
use Rattle.id_source.specs.Rounds.{Holds, Faulty}
use Rattle.id_build.specs.Rows.{node, port_at, binary_op}
use Rattle.id_runs.specs.Activations.{Activation, tag_in}
use Rattle.id_runs.specs.Events.{Event}
use Rattle.id_laws.specs.Activations.{PathOf, Live}
use Rattle.id_laws.specs.Topics.{Topic, Turned, ValueOf, StandsFor, number_stands, truth_stands, Shown, Tells}
use Rattle.id_laws.specs.Topics.{speaks_of}
use Rattle.id_laws.specs.Topics.{Addresses, of_fetch, of_store, CellOf, Named, name_stands, ShownCell, ToldRead}
use Rattle.id_laws.specs.Topics.{ToldWrite}
use Rattle.id_laws.proofs.Rows.Assumed.{IsKnown}
use Rattle.id_laws.proofs.Rows.Regions.{own_depth}
use Rattle.id_laws.proofs.Rows.Arcs.{place_shown}
use Rattle.id_laws.proofs.Rows.Stores.{address_at}
use Rattle.id_laws.proofs.Paths.Seats.{OneSeat, one_path, live_path}
use Rattle.id_laws.proofs.Telling.TurnedOn.{holds_by, without_none, turned_on}
use Rattle.id_laws.proofs.Telling.OperatorsAgree.{agree_unary, agree_binary, unary_nothing, left_nothing, right_nothing}
use Rattle.id_laws.proofs.Telling.FiringMeans.{stands_constant, constant_stands, Means}

module _ (S : Source) (known : IsKnown S.checked) (number : ℕ → ℕ
    → ℕ) (run : List Event) (seats : OneSeat S number run) (a : Activation) (n : ℕ)
    (within : n < length (rows S.checked)) where
  abbrev P : Checked
  P = S.checked

  abbrev M : ℕ → Fired → Type 0
  M part f = Means S number run a n part f

  abbrev T : Topic → Value → Type 0
  T t v = Tells S number run a t v

  -- what a part speaks of, by the row's node
  pub spoken : (m : Node) (part : ℕ) (v : Value) → node P n ≡ m → T (speaks_of P n (region P n) m part true) v
      → M part (Out v)
  spoken m part v is tells = λ other fires. subst (λ z. T (speaks_of P n (region P n) z part true) v) (sym is) tells

  -- at the path the row is On
  on_at : {p : Path} → PathOf S number run a p → Live S number run a (region P n) → is_expression (node P n) ≡ true
      → Holds S (On p (place P n))
  on_at path live expression = turned_on S known seats live path ((known.table).turned n within expression)

  -- a part of the row stands in its region
  pub part_live : (e : ℕ) (m : Node) → node P n ≡ m → HasNear m e → Live S number run a (region P e)
      → Live S number run a (region P n)
  part_live e m is part live =
      subst (Live S number run a) ((known.table).part_stands n e within (subst (λ z. HasNear z e) (sym is) part)).1 live

  -- the row Has the value, at the path
  shown_at : (p : Path) → PathOf S number run a p → (c : Constant) → Holds S (Has p (place P n) (value_of c))
      → Shown S number run a 0 (place P n) (constant_value c)
  shown_at p path c has =
      record {
        path = p;
        path_of = path;
        value = value_of c;
        stands = constant_stands S number run c;
        holds = subst (λ z. Holds S (Has z (place P n) (value_of c))) (sym (without_none p)) has;
      }

  -- what an outcome of the row's operator tells
  outcome_means : (m : Node) (y : Outcome) → node P n ≡ m → speaks_of P n (region P n) m 0 true ≡ ValueOf n
      → place_shown P (place P n) m ≡ place P n → Live S number run a (region P n) → {p : Path}
      → PathOf S number run a p → ((x : Constant) → y ≡ Gives x → Holds S (Has p (place P n) (value_of x)))
      → ((k : FaultKind) → y ≡ Fails k → Faulty S (Operator k (site p (place P n))))
      → M 0 (fired_by y)
  outcome_means m (Gives x) is topic here live {p} path gives fails =
      spoken m 0 (constant_value x) is (subst (λ z. T z (constant_value x)) (sym topic) (
        live,
        shown_at p path x (gives x refl),
      ))
  outcome_means m (Fails k) is topic here live {p} path gives fails =
      record {
        live = live;
        path = p;
        path_of = path;
        faulty = fails k refl;
        shows =
            ap (place_shown P (place P n)) is ∙ here;
      }
  outcome_means m Lacks is topic here live path gives fails = tt

  -- an operand that is shown, as a constant at a path
  record OperandAt (e : ℕ) (v : Value) : Type 0 where
    path : Path
    path_of : PathOf S number run a path
    constant_is : Constant
    token : v ≡ constant_value constant_is
    holds : Holds S (Has path (place P e) (value_of constant_is))

  operand_at : (e : ℕ) (v : Value) → Shown S number run a 0 (place P e) v
      → OperandAt e v ⊎ ((s : Structure) × (v ≡ value.Structure s))
  operand_at e v w = elim (stands_constant w.stands) [
    | inl c ↦ inl (record {
      path = w.path;
      path_of = w.path_of;
      constant_is = c.constant_is;
      token = c.token;
      holds = subst (λ (z : Path × SourceValue). Holds S (Has z.0 (place P e) z.1))
          (λ i. (without_none w.path i, c.value i)) w.holds;
    })
    | inr s ↦ inr s
  ]

  unary_of : (o : UnaryOp) (e : ℕ) (v : Value) → node P n ≡ Unary o e → T (ValueOf e) v → OperandAt e v
      → M 0 (fired_unary o (operands.One v))
  unary_of o e v is w x =
      let live = part_live e (Unary o e) is refl w.0 in
      let on = on_at x.path_of live (ap is_expression is) in
      let stands : Stands P n (Unary o e) = record { within = within; node = is } in
      subst (M 0) (sym (ap (λ z. fired_unary o (operands.One z)) x.token ∙ agree_unary o x.constant_is))
      (outcome_means (Unary o e) (result_of_unary o x.constant_is) is refl refl live x.path_of
      (λ c gives. holds_by S _ _ (unary_has x.constant_is stands gives) (on, (x.holds, tt)))
      (λ k fails. record { premises = _; rule = unary_fails x.constant_is stands fails; hold = (on, (x.holds, tt)) }))

  pub unary_means : (o : UnaryOp) (e : ℕ) (v : Value) → node P n ≡ Unary o e → T (ValueOf e) v
      → M 0 (fired_unary o (operands.One v))
  unary_means o e v is w = elim (operand_at e v w.1) [
    | inl x ↦ unary_of o e v is w x
    | inr s ↦ subst (M 0) (sym (ap (λ z. fired_unary o (operands.One z)) s.1 ∙ unary_nothing o s.0)) tt
  ]

  binary_of : (o : BinaryOp) (e f : ℕ) (v w : Value) → node P n ≡ Binary o e f → T (ValueOf e) v → T (ValueOf f) w
      → OperandAt e v → OperandAt f w → M 0 (fired_binary (binary_op o (port_at P e)) (operands.Two v w))
  binary_of o e f v w is t u x y =
      let live = part_live e (Binary o e f) is (inl refl) t.0 in
      let on = on_at x.path_of live (ap is_expression is) in
      let other =
      subst (λ z. Holds S (Has z (place P f) (value_of y.constant_is))) (one_path seats y.path_of x.path_of) y.holds in
      let stands : Stands P n (Binary o e f) = record { within = within; node = is } in
      let k = port_at P e in
      let both : fired_binary (binary_op o k) (operands.Two v w) ≡ fired_binary (binary_op o k)
      (operands.Two (constant_value x.constant_is) (constant_value y.constant_is)) =
      (λ i. fired_binary (binary_op o k) (operands.Two (x.token i) (y.token i))) in
      let means : M 0 (fired_by (result_of_binary o x.constant_is y.constant_is)) =
      outcome_means (Binary o e f) (result_of_binary o x.constant_is y.constant_is) is refl refl live x.path_of
      (λ c gives. holds_by S _ _ (binary_has x.constant_is y.constant_is stands gives) (on, (x.holds, (other, tt))))
      (λ k fails. record {
        premises = _;
        rule = binary_fails x.constant_is y.constant_is stands fails;
        hold =
            (on, (x.holds, (other, tt)));
      }) in
      elim (agree_binary o k x.constant_is y.constant_is) [
        | inl nothing ↦ subst (M 0) (sym (both ∙ nothing)) tt
        | inr same ↦ subst (M 0) (sym (both ∙ same)) means
      ]

  pub binary_means : (o : BinaryOp) (e f : ℕ) (v w : Value) → node P n ≡ Binary o e f → T (ValueOf e) v
      → T (ValueOf f) w → M 0 (fired_binary (binary_op o (port_at P e)) (operands.Two v w))
  binary_means o e f v w is t u = elim (operand_at e v t.1) [
    | inl x ↦ elim (operand_at f w u.1) [
      | inl y ↦ binary_of o e f v w is t u x y
      | inr s ↦ subst (M 0)
          (sym (ap (λ z. fired_binary (binary_op o (port_at P e)) (operands.Two v z)) s.1
          ∙ right_nothing (binary_op o (port_at P e)) v s.0))
          tt
    ]
    | inr s ↦ subst (M 0)
        (sym (ap (λ z. fired_binary (binary_op o (port_at P e)) (operands.Two z w)) s.1
        ∙ left_nothing (binary_op o (port_at P e)) s.0 w)) tt
  ]

  -- at the path the store is On
  store_on_at : {p : Path} → PathOf S number run a p → Live S number run a (region P n) → is_store (node P n) ≡ true
      → Holds S (On p (place P n))
  store_on_at path live store = turned_on S known seats live path ((known.table).store_turned n within store)

  -- what makes a structure: it Has its name
  structure_means : {e f : ℕ} (nested : Truth) (lo hi : ℤ) (fresh : Fresh) → node P n ≡ Array nested e f
      → Live S number run a (region P n) → {p : Path} → PathOf S number run a p
      → Holds S (Has p (place P e) (source.Int lo)) → Holds S (Has p (place P f) (source.Int hi))
      → M 0 (structure_in nested fresh lo hi)
  structure_means {e} {f} nested lo hi fresh is live {p} path low high = by (are_good lo hi) refl
    where
      s : Structure
      s = record { element = fresh.element; serial = fresh.structure; low = lo; high = hi; nested = nested }

      on : Holds S (On p (place P n))
      on = on_at path live (ap is_expression is)

      stands : Stands P n (Array nested e f)
      stands = record { within = within; node = is }

      by : (b : Truth) → are_good lo hi ≡ b → M 0 (if b then Out (value.Structure s) else Failed BadBounds)
      by true good = λ other fires.
          let x = site p (place P n) in
          let named : Named S number run s x = record {
            activation = a;
            row = n;
            low = e;
            high = f;
            within = within;
            node = is;
            live = live;
            made = fires;
            path_of = path;
            place = refl;
            holds = holds_by S _ _ (shape_made stands good) (on, (low, (high, tt)));
          } in
          subst (λ z. T (speaks_of P n (region P n) z 0 true) (value.Structure s)) (sym is) (
            live,
            record {
              path = p;
              path_of = path;
              value = source.Name x;
              stands = name_stands s x named;
              holds = subst (λ z. Holds S (Has z (place P n) (source.Name x))) (sym (without_none p))
                  (holds_by S _ _ (array_has stands good) (on, (low, (high, tt))));
            },
          )
      by false bad = record {
        live = live;
        path = p;
        path_of = path;
        faulty = record { premises = _; rule = bad_bounds stands bad; hold = (on, (low, (high, tt))) };
        shows = ap (place_shown P (place P n)) is;
      }

  -- what an operand Has, at this path
  pub shown_has : {p : Path} (e : ℕ) {v : Value} → PathOf S number run a p → (w : Shown S number run a 0 (place P e) v)
      → Holds S (Has p (place P e) w.value)
  shown_has {p} e path w =
      subst (λ z. Holds S (Has z (place P e) w.value)) (without_none w.path ∙ one_path seats w.path_of path) w.holds

  alloc_by : {e f : ℕ} {v w : Value} {x y : SourceValue} (nested : Truth) (fresh : Fresh) → node P n ≡ Array nested e f
      → Live S number run a (region P n) → {p : Path} → PathOf S number run a p
      → StandsFor S number run v x → StandsFor S number run w y → Holds S (Has p (place P e) x)
      → Holds S (Has p (place P f) y) → M 0 (fired_alloc nested fresh (operands.Two v w))
  alloc_by nested fresh is live path (number_stands lo) (number_stands hi) low high =
      structure_means nested lo hi fresh is live path low high
  alloc_by nested fresh is live path (number_stands lo) (truth_stands b) low high = tt
  alloc_by nested fresh is live path (number_stands lo) (name_stands s x named) low high = tt
  alloc_by nested fresh is live path (truth_stands b) y low high = tt
  alloc_by nested fresh is live path (name_stands s x named) y low high = tt

  pub alloc_means : (nested : Truth) (e f : ℕ) (v w : Value) (fresh : Fresh) → node P n ≡ Array nested e f
      → T (ValueOf e) v → T (ValueOf f) w → M 0 (fired_alloc nested fresh (operands.Two v w))
  alloc_means nested e f v w fresh is t u =
      let live = part_live e (Array nested e f) is (inl refl) t.0 in
      let path = (t.1).path_of in
      alloc_by nested fresh is live path (t.1).stands (u.1).stands (shown_has e path t.1) (shown_has f path u.1)

  -- what is done under a test alone means what it means where it is done
  pub where_done : (part : ℕ) (f : Fired) (b : Truth) → M part f → M part (if b then f else Nothing)
  where_done part f true means = means
  where_done part f false means = tt

  -- the row's cell
  cell_topic : {t i : ℕ} → Addresses P n t i → speaks_of P n (region P n) (node P n) 0 true ≡ CellOf n
  cell_topic (of_fetch is) = ap (λ z. speaks_of P n (region P n) z 0 true) is
  cell_topic (of_store is) = ap (λ z. speaks_of P n (region P n) z 0 true) is

  -- an index that is outside is a fault of the source
  outside : {t i : ℕ} {p : Path} {x : Site} {j lo hi : ℤ} → Addresses P n t i → Live S number run a (region P n)
      → PathOf S number run a p → is_inside lo hi j ≡ false
      → Holds S (Has p (place P t) (source.Name x)) → Holds S (Has p (place P i) (source.Int j))
      → Holds S (shape x lo hi) → Faulty S (Operator OutOfBounds (site p (place P n)))
  outside (of_fetch is) live path out has index shaped =
      record {
        premises = _;
        rule = out_of_fetch (record { within = within; node = is }) out;
        hold =
            (on_at path live (ap is_expression is), (has, (index, (shaped, tt))));
      }
  outside {t} {i} {p} (of_store is) live path out has index shaped =
      let z = (known.table).has_store n t i within is in
      let m = z.0 in
      let c = z.1 in
      let d = address_at known c.within c.node in
      let live_m = subst (Live S number run a) d.region live in
      let on = turned_on S known seats live_m path ((known.table).store_turned m c.within (ap is_store c.node)) in
      subst (λ e. Faulty S (Operator OutOfBounds (site p e))) (sym d.place) (record {
        premises = _;
        rule = out_of_store (record {
          address = n;
          store = record { within = c.within; node = c.node };
          parts =
              record { within = within; node = is };
        }) out;
        hold = (on, (has, (index, (shaped, tt))));
      })

  address_shows : {t i : ℕ} → Addresses P n t i → place_shown P (place P n) (node P n) ≡ place P n
  address_shows (of_fetch is) = ap (place_shown P (place P n)) is
  address_shows (of_store is) = ap (place_shown P (place P n)) is

  -- what names a cell: it is that of the structure and at the index that its parts Have
  cell_means : {t i : ℕ} {p : Path} (s : Structure) (x : Site) (j : ℤ) → Addresses P n t i
      → Live S number run a (region P n) → PathOf S number run a p
      → Named S number run s x → Holds S (Has p (place P t) (source.Name x))
      → Holds S (Has p (place P i) (source.Int j)) → M 0 (address_in s j)
  cell_means {t} {i} {p} s x j parts live path named has index = by (is_inside s.low s.high j) refl
    where
      by : (b : Truth) → is_inside s.low s.high j ≡ b
          → M 0 (if b then Out (value.Address (record { structure = s; index = j })) else Failed OutOfBounds)
      by true inside =
          λ other fires. subst (λ z. T z (value.Address (record { structure = s; index = j }))) (sym (cell_topic parts))
          (record {
            cell = record { structure = s; index = j };
            is = refl;
            target = t;
            index = i;
            parts = parts;
            live = live;
            path = p;
            path_of = path;
            name = x;
            named = named;
            has_target = has;
            has_index = index;
            inside = inside;
          })
      by false out =
          record {
            live = live;
            path = p;
            path_of = path;
            faulty = outside parts live path out has index named.holds;
            shows = address_shows parts;
          }

  address_by : {t i : ℕ} {v w : Value} {x y : SourceValue} {p : Path} (nested : Truth) → Addresses P n t i
      → Live S number run a (region P n) → PathOf S number run a p
      → StandsFor S number run v x → StandsFor S number run w y → Holds S (Has p (place P t) x)
      → Holds S (Has p (place P i) y) → M 0 (fired_address nested (operands.Two v w))
  address_by nested parts live path (name_stands s x named) (number_stands j) has index =
      where_done 0 (address_in s j) (beq s.nested nested) (cell_means s x j parts live path named has index)
  address_by nested parts live path (name_stands s x named) (truth_stands b) has index = tt
  address_by nested parts live path (name_stands s x named) (name_stands r y other) has index = tt
  address_by nested parts live path (number_stands m) y has index = tt
  address_by nested parts live path (truth_stands b) y has index = tt

  part_is_near : {t i : ℕ} → Addresses P n t i → HasNear (node P n) t
  part_is_near {t} (of_fetch is) = subst (λ z. HasNear z t) (sym is) (inl refl)
  part_is_near {t} (of_store is) = subst (λ z. HasNear z t) (sym is) (inl refl)

  pub address_means : {t i : ℕ} (nested : Truth) (v w : Value) → Addresses P n t i → T (ValueOf t) v → T (ValueOf i) w
      → M 0 (fired_address nested (operands.Two v w))
  address_means {t} {i} nested v w parts x y =
      let live = subst (Live S number run a) ((known.table).part_stands n t within (part_is_near parts)).1 x.0 in
      let path = (x.1).path_of in
      address_by nested parts live path (x.1).stands (y.1).stands (shown_has t path x.1) (shown_has i path y.1)

  -- a fetch that has its cell asks for it
  pub fetch_asks : {t i : ℕ} (v : Value) (u : Tag) → node P n ≡ Fetch t i → (x : ShownCell S number run a n v)
      → u ≡ tag_in a (number n 2) → ToldRead S number run x.cell u
  fetch_asks {t} {i} v u is x reply = by x.parts
    where
      told : {t' i' : ℕ} → node P n ≡ Fetch t' i' → Holds S (Has x.path (place P t') (source.Name x.name))
          → Holds S (Has x.path (place P i') (source.Int (x.cell).index))
          → ToldRead S number run x.cell u
      told {t'} {i'} here has index = record {
        activation = a;
        row = n;
        target = t';
        index = i';
        within = within;
        node = here;
        is = reply;
        live = x.live;
        path = x.path;
        path_of = x.path_of;
        name = x.name;
        named = x.named;
        holds = holds_by S _ _ (asks (record { within = within; node = here }) x.inside)
            (on_at x.path_of x.live (ap is_expression is), (has, (index, ((x.named).holds, tt))));
      }

      by : Addresses P n x.target x.index → ToldRead S number run x.cell u
      by (of_fetch here) = told here x.has_target x.has_index
      by (of_store here) = let bad : Fetch t i ≡ Address x.target x.index = sym is ∙ here in cc

  -- a store that has its cell and its value puts it there
  store_puts : {d e : ℕ} {w : Value} {y : SourceValue} (v : Value) (u : Tag) → node P n ≡ Store d e
      → (x : ShownCell S number run a d v) → StandsFor S number run w y
      → Holds S (Has x.path (place P e) y) → u ≡ tag_in a (number n 0) → ToldWrite S number run x.cell w u
  store_puts {d} {e} {w} {y} v u is x stands has origin = by x.parts
    where
      z : Rattle.id_laws.proofs.Rows.Stores.AddressAt P n d
      z = address_at known within is

      live : Live S number run a (region P n)
      live = subst (Live S number run a) z.region x.live

      told : node P d ≡ Address x.target x.index → ToldWrite S number run x.cell w u
      told here = record {
        activation = a;
        row = n;
        address = d;
        stored = e;
        within = within;
        node = is;
        is = origin;
        live = live;
        path = x.path;
        path_of = x.path_of;
        name = x.name;
        named = x.named;
        value = y;
        stands = stands;
        holds =
            holds_by S _ _
            (puts (record {
              address = d;
              store = record { within = within; node = is };
              parts =
                  record { within = z.within; node = here };
            })
            x.inside)
            (store_on_at x.path_of live (ap is_store is), (x.has_target, (x.has_index, (has, ((x.named).holds, tt)))));
      }

      by : Addresses P d x.target x.index → ToldWrite S number run x.cell w u
      by (of_fetch here) = let bad : Fetch x.target x.index ≡ Address z.target z.index = sym here ∙ z.node in cc
      by (of_store here) = told here

  pub store_by : {d e : ℕ} {w : Value} {y : SourceValue} (nested : Truth) (v : Value) (u : Tag) → node P n ≡ Store d e
      → (x : ShownCell S number run a d v) → StandsFor S number run w y
      → Holds S (Has x.path (place P e) y) → u ≡ tag_in a (number n 0)
      → M 0 (fired_store nested u (operands.Two (value.Address x.cell) w))
  store_by {w = w} nested v u is x stands has origin =
      where_done 0 (Stored x.cell w u) (may_hold nested x.cell w) (store_puts v u is x stands has origin)

  pub literal_tells : (c : Constant) (v : Value) → node P n ≡ Literal c → T (Turned (region P n)) v
      → M 0 (Out (constant_value c))
  literal_tells c v is w =
      let path = live_path w.1 in
      let on = on_at path.1 w.1 (ap is_expression is) in
      spoken (Literal c) 0 (constant_value c) is (
        w.1,
        shown_at path.0 path.1 c (holds_by S _ _ (literal_has (record { within = within; node = is })) (on, tt)),
      )

  pub binding_tells : (x e : ℕ) (v : Value) → node P n ≡ Binding x e → T (ValueOf e) v → M 0 (Out v)
  binding_tells x e v is w =
      let shown = w.1 in
      let live = part_live e (Binding x e) is refl w.0 in
      let here = own_depth known within (λ z. let bad : Binding x e ≡ Program = sym is ∙ z in cc) in
      let has = subst (λ z. Holds S (Has z (place P e) shown.value)) (without_none shown.path) shown.holds in
      spoken (Binding x e) 0 v is (
        live,
        record {
          path = shown.path;
          path_of = shown.path_of;
          value = shown.value;
          stands = shown.stands;
          holds = subst (λ z. Holds S (Has z (place P n) shown.value))
              (sym (ap (λ d. without d shown.path) here ∙ without_none shown.path))
              (holds_by S _ _ (binding_has (record { within = within; node = is })) (has, tt));
        },
      )
