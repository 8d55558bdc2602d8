-- Lemmas on specs/OneProgram.antt: the tokens of a text are one list, their tree is one, and what a checked program
-- keeps
-- beside it is made of that.
use Rattle.std.proofs.Common.{◌≡◌, ◌+◌, ◌<◌, ◌≤◌, inl, inr, ◌⊎◌, ℕ, zero, suc, Bool, true, false, List, [], ◌∷◌, ◌++◌}
use Rattle.std.proofs.Common.{length, Option, Some, None}
use Rattle.std.proofs.Common.{map, get_or, refl, sym, ap, subst, ◌∙◌, arith}
use Rattle.std.specs.Prelude.{◌&&◌, ◌||◌, not, if◌then◌else◌, nat_lt, nat_le, slice_get}
use Rattle.std.specs.Option.{option_or}
use Rattle.std.proofs.lemmas.Bool.{cases_lt, false≢true}
use Rattle.std.proofs.lemmas.Bool.Decides.{nat_tests}
use Rattle.id_value.specs.declared.Constant.{Constant}
use Rattle.id_value.specs.declared.Kind.{Kind}
use Rattle.id_text.specs.declared.token.Token.{Token}
use Rattle.id_tree.specs.Accepted.{Accepts}
use Rattle.id_grammar.specs.Tree.{Tree}
use Rattle.id_table.specs.declared.row.Row.{Row}
use Rattle.id_table.specs.declared.row.Node.{Node}
use Rattle.id_table.specs.declared.row.Node.TheVariants.{Block, Body, Span, Def, Param, Program}
use Rattle.id_table.specs.Names.{first_names}
use Rattle.id_table.specs.Rows.{add, at, in_top, parts_of, rows_of}
use Rattle.id_table.specs.Tables.{IsFormed, around, is_def}
use Rattle.id_table.specs.Turns.{IsTable, params_at}
use Rattle.id_table.proofs.BlocksLemmas.{not_last}
use Rattle.id_check.specs.Causes.{IsMain, causes_below, defines_main, duplicates, repeated, second, seconds}
use Rattle.id_check.specs.Chains.{goes_to}
use Rattle.id_check.specs.Kinds.{AreKinds, EndsIn, in_kind, in_nothing, further, within, link_at, link_of}
use Rattle.id_check.specs.Scopes.{AreBinders, HasDepths, binder_in, binds, bound_name, closes, first_of, held, is_name}
use Rattle.id_check.specs.Scopes.{takes, user_of}
use Rattle.id_check.proofs.LinksLemmas.{link_below, user_below}
use Rattle.id_check.specs.declared.checked.Checked.{Checked}
use Rattle.id_check.specs.Programs.{binder, kind, rows, tree}
use Rattle.id_check.proofs.ProgramsLemmas.{binder_below, both_nil, kind_once, table_of}
use Rattle.id_source.specs.declared.inputs.Wanted.{Wanted}
use Rattle.id_source.specs.Inputs.{AreInputsOf, first_cause, value_for, wanted, wanted_of}
use Rattle.id_source.specs.Sources.{head_of, main_params, source}
use Rattle.id_compile.specs.Programs.{IsProgramOf}
use Rattle.id_promises.specs.OneProgram.{AreAlike, MeanTheSame, OneProgram}
use Rattle.id_text.proofs.OneReadingLemmas.{one_reading}
use Rattle.id_tree.proofs.CompleteLemmas.{one_tree}
use Rattle.id_promises.proofs.SameFactsLemmas.{AreAlike-sym, MeanTheSame-alike}
use Rattle.id_promises.proofs.OwnGraphLemmas.{one_graph, own_number_same}
use Rattle.id_promises.proofs.SameGraphsLemmas.{Schemas-alike}

-- ---- the last row

last_length : (xs : List Row) (r : Row) → length (xs ++ r ∷ []) ≡ suc (length xs)
last_length [] r = refl
last_length (x ∷ xs) r = ap suc (last_length xs r)

last_at : (xs : List Row) (r : Row) → at (xs ++ r ∷ []) (length xs) ≡ r
last_at [] r = refl
last_at (x ∷ xs) r = last_at xs r

-- the row of this number is the last, `Program`, in which all others stand
record IsLast (R : List Row) (l : ℕ) : Type 0 where
  pub size : length R ≡ suc l
  pub node : (at R l).node ≡ Program
  pub first : (at R l).first ≡ 0

IsLast-rows_of : (t : Tree) → (l : ℕ) × IsLast (rows_of t) l
IsLast-rows_of t =
    let T = add (in_top 0) (record { rows = []; names = first_names }) t in
    let r : Row = record {
      place = 0;
      first = 0;
      block = (in_top 0).block;
      region = (in_top 0).region;
      value = length T.rows;
      node = Program;
    } in
    let is : at (T.rows ++ r ∷ []) (length T.rows) ≡ r = last_at T.rows r in (
      length T.rows,
      record {
        size = last_length T.rows r;
        node = ap (λ (x : Row). x.node) is;
        first = ap (λ (x : Row). x.first) is;
      },
    )

-- ---- one `main`

-- where one of the first n has an answer, there is a first one
some_first : (f : ℕ → Option ℕ) (n m a : ℕ) → m < n → f m ≡ Some a → (b : ℕ) × (first_of f n ≡ Some b)
some_first f zero m a l e = absurd (omega arith)
some_first f (suc n) m a l e = by (first_of f n) refl (cases_lt m n) (λ less. some_first f n m a less e)
  where
    no_some : (b : ℕ) → None ≡ Some b → ⊥
    no_some b h = cc

    by : (o : Option ℕ) → first_of f n ≡ o → (m < n) ⊎ (n ≤ m) → (m < n → (b : ℕ) × (first_of f n ≡ Some b))
        → (b : ℕ) × (option_or (first_of f n) (f n) ≡ Some b)
    by (Some b) q c r = (b, ap (λ o. option_or o (f n)) q)
    by None q (inl less) r = let w = r less in absurd (no_some w.0 (sym q ∙ w.1))
    by None q (inr more) r = let same : n ≡ m = omega arith in (a, ap (λ o. option_or o (f n)) q ∙ (ap f same ∙ e))

-- no other part closes the scope of a definition
closes_def : (y z : Node) → is_def z ≡ true → (y ≡ Program → ⊥) → closes y z ≡ false
closes_def y (Def x h k b) e other = by y other
  where
    by : (y : Node) → (y ≡ Program → ⊥) → closes y (Def x h k b) ≡ false
    by Program other = absurd (other refl)
    by (Block c) other = refl
    by Body other = refl
    by Span other = refl
    by (Def u v w d) other = refl
    by _ other = refl
closes_def y _ e other = absurd (false≢true e)

-- where none of the first n rows is `Program`, none of them holds the definition
held_none : (R : List Row) (b n : ℕ) → is_def (at R b).node ≡ true → ((s : ℕ) → s < n → (at R s).node ≡ Program → ⊥)
    → held R b n ≡ false
held_none R b zero e other = refl
held_none R b (suc n) e other =
    let before : held R b n ≡ false = held_none R b n e (λ s l. other s (omega arith)) in
    let none : closes (at R n).node (at R b).node ≡ false =
    closes_def (at R n).node (at R b).node e (other n (omega arith)) in
    both (held R b n) (closes (at R n).node (at R b).node) (around R n b) before none
  where
    both : (h c a : Bool) → h ≡ false → c ≡ false → (h || (c && a)) ≡ false
    both false false a e f = refl
    both true c a e f = absurd (false≢true (sym e))
    both false true a e f = absurd (false≢true (sym f))

main_name : (z : Node) → defines_main z ≡ true → (bound_name z ≡ Some 0) × (is_def z ≡ true)
main_name (Def x h k b) e = let zero_is : x ≡ 0 = grind (arith, nat_tests) in (ap (λ y. Some y) zero_is, refl)
main_name _ e = absurd (false≢true e)

takes_def : (z : Node) → is_def z ≡ true → takes Program z ≡ true
takes_def z e = e

-- `main` is bound in the whole of the program
binds_main : (R : List Row) (l n : ℕ) → IsLast R l
    → ((s : ℕ) → s < length R → (at R s).node ≡ Program → s + 1 ≡ length R) → n < l
    → defines_main (at R n).node ≡ true → binds R l 0 n ≡ true
binds_main R l n last once less e =
    let named = main_name (at R n).node e in
    let taken : takes (at R l).node (at R n).node ≡ true =
    subst (λ y. takes y (at R n).node ≡ true) (sym last.node) (takes_def (at R n).node named.1) in
    let low : (at R l).first ≤ n = omega (arith, last.first) in
    let free : held R n l ≡ false =
    held_none R n l named.1 (λ s k q. let end = once s (omega (arith, last.size)) q in omega (arith, last.size)) in
    all (takes (at R l).node (at R n).node) (held R n l) (bound_name (at R n).node) (at R l).first taken low free
    named.0
  where
    all : (t h : Bool) (o : Option ℕ) (f : ℕ) → t ≡ true → f ≤ n → h ≡ false → o ≡ Some 0
        → (((t && (nat_le f n && nat_lt n l)) && not h) && is_name 0 o) ≡ true
    all t h o f a b c d =
        let name : is_name 0 o ≡ true = ap (is_name 0) d in
        grind (arith, nat_tests)

dup_nil : (R : List Row) (n s : ℕ) → duplicates R n ≡ [] → s < n → seconds R s s ≡ []
dup_nil R zero s e l = absurd (omega arith)
dup_nil R (suc n) s e l =
    let w = both_nil (duplicates R n) (seconds R n n) e in
    one w.1 (cases_lt s n) (dup_nil R n s w.0)
  where
    one : seconds R n n ≡ [] → (s < n) ⊎ (n ≤ s) → (s < n → seconds R s s ≡ []) → seconds R s s ≡ []
    one f (inl c) r = r c
    one f (inr c) r = let same : s ≡ n = omega arith in subst (λ k. seconds R k k ≡ []) (sym same) f

seconds_nil : (R : List Row) (s n i : ℕ) → seconds R s n ≡ [] → i < n → second R s i (bound_name (at R i).node) ≡ []
seconds_nil R s zero i e l = absurd (omega arith)
seconds_nil R s (suc n) i e l =
    let w = both_nil (seconds R s n) (second R s n (bound_name (at R n).node)) e in
    one w.1 (cases_lt i n) (seconds_nil R s n i w.0)
  where
    one : second R s n (bound_name (at R n).node) ≡ [] → (i < n) ⊎ (n ≤ i)
        → (i < n → second R s i (bound_name (at R i).node) ≡ [])
        → second R s i (bound_name (at R i).node) ≡ []
    one f (inl c) r = r c
    one f (inr c) r =
        let same : i ≡ n = omega arith in subst (λ k. second R s k (bound_name (at R k).node) ≡ []) (sym same) f

-- what repeats an earlier one is told
not_told : (R : List Row) (s b a : ℕ) (o : Option ℕ) → o ≡ Some 0 → binds R s 0 b ≡ true → binder_in R s 0 b ≡ Some a
    → second R s b o ≡ [] → ⊥
not_told R s b a o name it first none =
    told (binder_in R s 0 b) first (sym (ap (λ t. if t then repeated R b (binder_in R s 0 b) else []) it)
    ∙ (ap (second R s b) (sym name) ∙ none))
  where
    by : (o : Option ℕ) → o ≡ Some a → repeated R b o ≡ [] → ⊥
    by None e h = cc
    by (Some c) e h = cc

    told : (o : Option ℕ) → o ≡ Some a → repeated R b o ≡ [] → ⊥
    told o e h = by o e h

-- of two definitions of `main` the second would be told
not_later : (P : Checked) (m n : ℕ) → IsMain (rows P) m → IsMain (rows P) n → m < n → ⊥
not_later P m n h k less =
    let R = rows P in
    let t : IsTable R = table_of P in
    let w : (l : ℕ) × IsLast R l =
    subst (λ (X : List Row). (l : ℕ) × IsLast X l) (sym P.tabled) (IsLast-rows_of (tree P)) in
    let l = w.0 in
    let size = w.1.size in
    let high : n + 1 < length R = not_last R t is_def refl n k.within (main_name (at R n).node k.node).1 in
    let below : n < l = omega arith in
    let one : binds R l 0 m ≡ true = binds_main R l m w.1 t.ends_once (omega arith) h.node in
    let two : binds R l 0 n ≡ true = binds_main R l n w.1 t.ends_once below k.node in
    let first =
    some_first (λ b. if binds R l 0 b then Some b
    else None) n m m less (ap (λ (q : Bool). if q then Some m else None) one) in
    let none : duplicates R (length R) ≡ [] =
    (both_nil (duplicates R (length R)) (causes_below R (binder P) (kind P) (length R)) P.accepted).0 in
    not_told R l n first.0 (bound_name (at R n).node) (main_name (at R n).node k.node).0 two first.1
    (seconds_nil R l l n (dup_nil R (length R) l none (omega arith)) below)

one_main : (P : Checked) (n : ℕ) → IsMain (rows P) n → P.main ≡ n
one_main P n h = by (cases_lt P.main n) (cases_lt n P.main)
  where
    by : (P.main < n) ⊎ (n ≤ P.main) → (n < P.main) ⊎ (P.main ≤ n) → P.main ≡ n
    by (inl less) c = absurd (not_later P P.main n P.is_main h less)
    by (inr more) (inl less) = absurd (not_later P n P.main h P.is_main less)
    by (inr more) (inr most) = omega arith

-- ---- one kind

module _ (R : List Row) (formed : IsFormed R) (β γ : ℕ → Option ℕ) (same : (i : ℕ) → i < length R → β i ≡ γ i)
    (low : (i b : ℕ) → i < length R → β i ≡ Some b → b < length R) where
  one_link : (i : ℕ) → i < length R → link_at R β i ≡ link_at R γ i
  one_link i less = ap (λ o. link_of o (at R i).node) (same (user_of i (at R i).node) (user_below R i formed less))

  -- a chain by the one is one by the other
  ends_to : {i : ℕ} {o : Option Kind} → i < length R → EndsIn (link_at R β) i o → EndsIn (link_at R γ) i o
  ends_to {i} less (in_kind k e) = in_kind k (sym (one_link i less) ∙ e)
  ends_to {i} less (in_nothing e) = in_nothing (sym (one_link i less) ∙ e)
  ends_to {i} less (further j e h) =
      further j (sym (one_link i less) ∙ e) (ends_to (link_below R β formed low i j less (ap goes_to e)) h)
  ends_to {i} less (within j e h) =
      within j (sym (one_link i less) ∙ e) (ends_to (link_below R β formed low i j less (ap goes_to e)) h)

module _ (R : List Row) (formed : IsFormed R) (β γ : ℕ → Option ℕ) (same : (i : ℕ) → i < length R → β i ≡ γ i)
    (low : (i b : ℕ) → i < length R → β i ≡ Some b → b < length R) where
  -- so kinds by the one are kinds by the other
  kinds_to : (κ : ℕ → Option Kind) → AreKinds R γ κ → AreKinds R β κ
  kinds_to κ h = record {
    ends = λ i o less e. h.ends i o less (ends_to R formed β γ same low less e);
    endless = λ i less none. h.endless i less (λ o e. none o
        (ends_to R formed γ β (λ j l. sym (same j l)) (λ j b l q. low j b l (same j l ∙ q)) less e));
  }

-- ---- programs alike

-- two programs of one tree
module _ (P Q : Checked) (t : tree P ≡ tree Q) where
  rows_same : rows P ≡ rows Q
  rows_same = P.tabled ∙ (ap rows_of t ∙ sym Q.tabled)

  within_both : (i : ℕ) → i < length (rows P) → i < length (rows Q)
  within_both i l = subst (λ (R : List Row). i < length R) rows_same l

  binders_there : AreBinders (rows P) (binder Q)
  binders_there = subst (λ (R : List Row). AreBinders R (binder Q)) (sym rows_same) Q.bound

  binders_same : (i : ℕ) → i < length (rows P) → binder P i ≡ binder Q i
  binders_same i l = P.bound.each i l ∙ sym (binders_there.each i l)

  kinds_there : AreKinds (rows P) (binder Q) (kind Q)
  kinds_there = subst (λ (R : List Row). AreKinds R (binder Q) (kind Q)) (sym rows_same) Q.kinded

  kinds_same : (i : ℕ) → i < length (rows P) → kind P i ≡ kind Q i
  kinds_same i l = kind_once (rows P) (binder P) (kind P) (kind Q) P.kinded
      (kinds_to (rows P) P.table.formed (binder P) (binder Q) binders_same (binder_below P) (kind Q) kinds_there) i l

  depths_there : HasDepths (rows P) Q.depths.items
  depths_there = subst (λ (R : List Row). HasDepths R Q.depths.items) (sym rows_same) Q.deep

  AreAlike-tree : AreAlike P Q
  AreAlike-tree = record {
    tree = t;
    rows = rows_same;
    names = P.named ∙ (ap (λ x. (parts_of x).names) t ∙ sym Q.named);
    main = one_main P Q.main (subst (λ (R : List Row). IsMain R Q.main) (sym rows_same) Q.is_main);
    binders = binders_same;
    kinds = kinds_same;
    depths = λ i l. P.deep i l ∙ sym (depths_there i l);
  }

-- two programs of one text
trees_same : (text : List ℕ) (P Q : Checked) → IsProgramOf text P → IsProgramOf text Q → tree P ≡ tree Q
trees_same text P Q h k =
    let tokens : h.tokens ≡ k.tokens = (one_reading h.lexes k.lexes).0 in
    one_tree k.tokens (tree P) (tree Q) (subst (λ (ts : List Token). Accepts ts (tree P)) tokens h.accepts) k.accepts

pub AreAlike-text : (text : List ℕ) (P Q : Checked) → IsProgramOf text P → IsProgramOf text Q → AreAlike P Q
AreAlike-text text P Q h k = AreAlike-tree P Q (trees_same text P Q h k)

-- ---- their inputs

same_params : (P Q : Checked) → AreAlike P Q → main_params P ≡ main_params Q
same_params P Q a = λ i. params_at (a.rows i) (head_of (at (a.rows i) (a.main i)).node)

same_wanted : (P Q : Checked) → AreAlike P Q → wanted P ≡ wanted Q
same_wanted P Q a =
    map_same (main_params P) ∙ ap (λ ps. map (λ b. wanted_of Q (at (rows Q) b).node) ps) (same_params P Q a)
  where
    one : (z : Node) → wanted_of P z ≡ wanted_of Q z
    one (Param x k) = λ i. record { name = get_or (a.names i) x []; kind = k }
    one _ = refl

    map_same : (ps : List ℕ)
        → map (λ b. wanted_of P (at (rows P) b).node) ps ≡ map (λ b. wanted_of Q (at (rows Q) b).node) ps
    map_same [] = refl
    map_same (b ∷ ps) =
        let here : wanted_of P (at (rows P) b).node ≡ wanted_of Q (at (rows Q) b).node =
        one (at (rows P) b).node ∙ ap (λ (R : List Row). wanted_of Q (at R b).node) a.rows in
        let rest = map_same ps in
        λ i. here i ∷ rest i

pub inputs_to : (P Q : Checked) → AreAlike P Q → (words : List (List ℕ)) (vs : List Constant) → AreInputsOf P words vs
    → AreInputsOf Q words vs
inputs_to P Q a words vs h = let same : wanted P ≡ wanted Q = same_wanted P Q a in record {
  all_taken = subst (λ (ps : List Wanted). first_cause ps [] 0 words ≡ None) same h.all_taken;
  enough = subst (λ (ps : List Wanted). length vs ≡ length ps) same h.enough;
  values = λ n l. subst (λ (ps : List Wanted). slice_get vs n ≡ value_for ps words n) same (h.values n l);
}

-- lists as long as each other with the same members are one
pub same_list : (vs us : List Constant) → length vs ≡ length us
    → ((n : ℕ) → n < length vs → slice_get vs n ≡ slice_get us n) → vs ≡ us
same_list [] [] e h = refl
same_list [] (u ∷ us) e h = absurd (omega (arith, e))
same_list (v ∷ vs) [] e h = absurd (omega (arith, e))
same_list (v ∷ vs) (u ∷ us) e h =
    let first : v ≡ u = same_some v u (h 0 (omega arith)) in
    let rest : vs ≡ us = same_list vs us (omega (arith, e)) (λ n l. h (suc n) (omega arith)) in
    λ i. first i ∷ rest i
  where
    same_some : (v u : Constant) → Some v ≡ Some u → v ≡ u
    same_some v u q = cc

pub inputs_same : (P : Checked) (words : List (List ℕ)) (vs us : List Constant) → AreInputsOf P words vs
    → AreInputsOf P words us → vs ≡ us
inputs_same P words vs us h k =
    let long : length vs ≡ length us = h.enough ∙ sym k.enough in
    same_list vs us long (λ n l. h.values n l ∙ sym (k.values n (subst (λ m. n < m) long l)))

-- with inputs that the same words give them they mean the same
pub MeanTheSame-text : (text : List ℕ) (words : List (List ℕ)) (P Q : Checked) (vs us : List Constant)
    → IsProgramOf text P → IsProgramOf text Q → AreInputsOf P words vs → AreInputsOf Q words us
    → MeanTheSame (source P vs) (source Q us)
MeanTheSame-text text words P Q vs us h k given there =
    let alike : AreAlike P Q = AreAlike-text text P Q h k in
    let same : vs ≡ us = inputs_same Q words vs us (inputs_to P Q alike words vs given) there in
    subst (λ ws. MeanTheSame (source P vs) (source Q ws)) same (MeanTheSame-alike P Q vs alike)

pub OneProgram-text : OneProgram
OneProgram-text = record {
  alike = AreAlike-text;
  given = λ text words P Q vs h k i. inputs_to P Q (AreAlike-text text P Q h k) words vs i;
  inputs = λ text words P Q vs us h k i j. inputs_same Q words vs us
      (inputs_to P Q (AreAlike-text text P Q h k) words vs i) j;
  graphs = λ text P Q g h k.
      let a : AreAlike P Q = AreAlike-text text P Q h k in
      let b : AreAlike Q P = AreAlike-sym P Q a in
      (Schemas-alike P Q a b g, Schemas-alike Q P b a g);
  own = λ text P Q g h i j own other. one_graph P Q (AreAlike-text text P Q i j) g h own other;
  numbers = λ text P Q n k i j. own_number_same P Q (AreAlike-text text P Q i j) n k;
  same = λ text P Q vs h k. MeanTheSame-alike P Q vs (AreAlike-text text P Q h k);
}
