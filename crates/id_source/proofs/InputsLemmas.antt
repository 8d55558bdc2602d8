-- Words that are read from left to right give the parameters their values.
use Rattle.std.proofs.Common.{◌≡◌, inl, inr, ℕ, zero, suc, ◌+◌, ◌<◌, ◌≤◌, ◌==◌, eqb, Bool, true, false, not, cond, ◌&&◌}
use Rattle.std.proofs.Common.{◌||◌, if◌then◌else◌, ℤ, List, [], ◌∷◌}
use Rattle.std.proofs.Common.{map, take, drop, set, length, get_or, Bor, Option, None, Some, IsSome, IfSome, refl, ap}
use Rattle.std.proofs.Common.{sym, ◌∙◌, subst, one-add, add-one}
use Rattle.std.proofs.Common.{◌++◌, length-set, drop_of_length-le, arith}
use Rattle.std.specs.Prelude.{slice_get, option_map, option_and_then}
use Rattle.std.specs.Option.{option_or, is_some}
use Rattle.std.specs.List.{AllPass, position_or_len, before_first, after_first}
use Rattle.std.specs.Char.{is_ascii_digit}
use Rattle.std.proofs.Math.Seq.{drop-cons}
use Rattle.std.proofs.lemmas.Bool.{eqb-true, eq-eqb, ne_eqb, false≢true}
use Rattle.std.proofs.lemmas.List.{get_or-map, get_or-set_same, get_or-set_other}
use Rattle.std.proofs.lemmas.Option.{slice_get_within}
use Rattle.std.proofs.lemmas.Str.Pattern.{IsSplitOnceResult, split_once_first}
use Rattle.id_value.specs.declared.Kind.{Kind}
use Rattle.id_value.specs.declared.Kind.TheVariants as kind
use Rattle.id_value.specs.Results.{is_whole}
use Rattle.id_value.specs.List.{Among}
use Rattle.id_table.specs.declared.row.Node.{Node}
use Rattle.id_table.specs.declared.row.Node.TheVariants.{Param}
use Rattle.id_table.specs.Rows.{at}
use Rattle.id_table.specs.Tables.{is_param}
use Rattle.id_check.specs.declared.checked.Checked.{Checked}
use Rattle.id_check.specs.Programs.{rows}
use Rattle.id_source.specs.declared.inputs.Wanted.{Wanted}
use Rattle.id_value.specs.declared.Constant.{Constant}
use Rattle.id_value.specs.declared.Constant.TheVariants as value
use Rattle.id_source.specs.declared.inputs.InputError.{InputError}
use Rattle.id_source.specs.declared.inputs.InputError.TheVariants.{MissingInput, UnknownInput, RepeatedInput, BadInput}
use Rattle.id_source.specs.declared.inputs.InputError.TheVariants.{Memory}
use Rattle.id_source.specs.Sources.{AreFor, AreInputs, IsWhole, SuitsParam, constant_kind, head_of, main_params}
use Rattle.id_source.proofs.ParamsLemmas.{params-among}
use Rattle.id_source.specs.Inputs.{AreInputsOf, Cut, begun, cut, wanted, wanted_of, number_of, are_digits}
use Rattle.id_source.specs.Inputs.{number_spelled, whole_value, value_spelled, Said}
use Rattle.id_source.specs.Inputs.{Nothing, Says, said_of, said_by, said, named_by, has, option_bad, word_cause}
use Rattle.id_source.specs.Inputs.{first_cause, value_in, value_for, IsCauseOf}
use Rattle.id_source.specs.Reading.{AreGiven, AreSaid, IsFirstLack, cut_so, said_so, cause_so, values_so}

-- ---- words that are cut

-- the byte is `=`
abbrev is_equal : ℕ → Bool
is_equal b = eqb b 61

uncut_step : (v : Bool) (b k : ℕ) (bs : List ℕ) → cond (not v) (1 + k) 0 ≡ suc (length bs)
    → (k ≡ length bs → cut bs ≡ None)
    → (if v then Some (record { name = []; value = bs }) else option_map (begun b) (cut bs)) ≡ None
uncut_step true b k bs e rest = absurd (omega arith)
uncut_step false b k bs e rest = rw (rest (omega arith)) refl

uncut : (bs : List ℕ) → position_or_len is_equal bs ≡ length bs → cut bs ≡ None
uncut [] e = refl
uncut (b ∷ bs) e = uncut_step (is_equal b) b (position_or_len is_equal bs) bs e (uncut bs)

cut_step : (v : Bool) (b k : ℕ) (bs : List ℕ) → cond (not v) (1 + k) 0 < suc (length bs)
    → (k < length bs → cut bs ≡ Some (record { name = take k bs; value = drop (k + 1) bs }))
    → (if v then Some (record { name = []; value = bs }) else option_map (begun b) (cut bs)) ≡ Some
    (record { name = take (cond (not v) (1 + k) 0) (b ∷ bs); value = drop (cond (not v) (1 + k) 0 + 1) (b ∷ bs) })
cut_step true b k bs l rest = refl
cut_step false b k bs l rest =
    let one : 1 + k ≡ suc k = one-add k in
    let two : 1 + k + 1 ≡ suc (k + 1) = omega arith in
    rw (rest (omega arith)) (λ i. Some (record { name = take (sym one i) (b ∷ bs); value = drop (sym two i) (b ∷ bs) }))

cut_first : (bs : List ℕ) → position_or_len is_equal bs < length bs
    → cut bs ≡ Some (record { name = before_first is_equal bs; value = after_first is_equal bs })
cut_first [] l = absurd (omega arith)
cut_first (b ∷ bs) l = cut_step (is_equal b) b (position_or_len is_equal bs) bs l (cut_first bs)

-- what `split_once` gives at `=` is the cut
pub cut_split : (bs : List ℕ) (r : Option (Bor (List ℕ) × Bor (List ℕ))) → IsSplitOnceResult 61 bs r → cut_so r ≡ cut bs
cut_split bs None split = sym (uncut bs (split_once_first 61 bs None split (omega arith)))
cut_split bs (Some x) split =
    let (inside, front, back) = split_once_first 61 bs (Some x) split (omega arith) in
    sym (cut_first bs inside ∙ (λ i. Some (record { name = sym front i; value = sym back i })))

-- ---- digits

both : (a b : Bool) → (a && b) ≡ true → (a ≡ true) × (b ≡ true)
both true b e = (refl, e)
both false b e = absurd (false≢true e)

are_digits-all : (bs : List ℕ) → 0 < length bs → AllPass is_ascii_digit bs → are_digits bs ≡ true
are_digits-all [] l h = absurd (omega arith)
are_digits-all (c ∷ []) l h = h 0 0 (omega arith)
are_digits-all (c ∷ d ∷ ds) l h =
    rw (h 0 0 (omega arith)) (are_digits-all (d ∷ ds) (omega arith) (λ k e m. h (suc k) e (omega arith)))

pub are_digits-each : (bs : List ℕ) → are_digits bs ≡ true → AllPass is_ascii_digit bs
are_digits-each [] h k e l = absurd (omega arith)
are_digits-each (c ∷ []) h zero e l = h
are_digits-each (c ∷ []) h (suc k) e l = absurd (omega arith)
are_digits-each (c ∷ d ∷ ds) h zero e l = (both (is_ascii_digit c) (are_digits (d ∷ ds)) h).0
are_digits-each (c ∷ d ∷ ds) h (suc k) e l =
    are_digits-each (d ∷ ds) (both (is_ascii_digit c) (are_digits (d ∷ ds)) h).1 k e (omega arith)

refuted : (v : Bool) → (v ≡ true → ⊥) → v ≡ false
refuted true h = absurd (h refl)
refuted false h = refl

pub are_digits-not : (bs : List ℕ) (k d : ℕ) → k < length bs → is_ascii_digit (get_or bs k d) ≡ false
    → are_digits bs ≡ false
are_digits-not bs k d l h = refuted (are_digits bs) (λ e. false≢true (sym h ∙ are_digits-each bs e k d l))

pub are_digits-end : (bs : List ℕ) → AllPass is_ascii_digit bs → not (length bs == 0) ≡ are_digits bs
are_digits-end [] h = refl
are_digits-end (c ∷ cs) h =
    ap not (ne_eqb (length (c ∷ cs)) 0 (λ e. omega arith)) ∙ sym (are_digits-all (c ∷ cs) (omega arith) h)

-- ---- the values so far

-- after j words these are the values: the words that are left decide the cause, and give what lacks
pub record Progress (ps : List Wanted) (ws : List (List ℕ)) (j : ℕ) (vs : List (Option Constant)) : Type 0 where
  pub seen : List ℕ
  pub cause : first_cause ps [] 0 ws ≡ first_cause ps seen j (drop j ws)
  pub size : length vs ≡ length ps
  pub known : (n : ℕ) → n < length vs → has n seen ≡ is_some (get_or vs n None)
  pub given : (n : ℕ) → n < length vs → value_for ps ws n ≡ option_or (get_or vs n None) (value_for ps (drop j ws) n)

-- what the causes from word j on are, where it says s
abbrev cause_from : List Wanted → List ℕ → ℕ → Said → List (List ℕ) → Option InputError
cause_from ps seen j s rest = option_or (word_cause seen j s) (first_cause ps (named_by s ++ seen) (suc j) rest)

has_more : (v : Bool) (n m : ℕ) (seen : List ℕ) (vs : List (Option Constant)) (o : Constant) → eqb n m ≡ v
    → n < length vs → has m seen ≡ is_some (get_or vs m None)
    → (v || has m seen) ≡ is_some (get_or (set vs n (Some o)) m None)
has_more true n m seen vs o e l h =
    ap is_some
    (sym (subst (λ k. get_or (set vs n (Some o)) k None ≡ Some o) (eqb-true n m e)
    (get_or-set_same vs n (Some o) None l)))
has_more false n m seen vs o e l h =
    h ∙ ap is_some (sym (get_or-set_other vs n m (Some o) None (λ same. false≢true (sym e ∙ eq-eqb n m (sym same)))))

given_more : (v : Bool) (n m : ℕ) (vs : List (Option Constant)) (o : Constant) (all left : Option Constant)
    → eqb n m ≡ v → n < length vs → get_or vs n None ≡ None
    → all ≡ option_or (get_or vs m None) (option_or (if v then Some o else None) left)
    → all ≡ option_or (get_or (set vs n (Some o)) m None) left
given_more true n m vs o all left e l none h =
    h ∙ ap (λ g. option_or g (Some o)) (subst (λ k. get_or vs k None ≡ None) (eqb-true n m e) none)
    ∙ ap (λ g. option_or g left)
    (sym (subst (λ k. get_or (set vs n (Some o)) k None ≡ Some o) (eqb-true n m e)
    (get_or-set_same vs n (Some o) None l)))
given_more false n m vs o all left e l none h =
    h ∙ ap (λ g. option_or g left)
    (sym (get_or-set_other vs n m (Some o) None (λ same. false≢true (sym e ∙ eq-eqb n m (sym same)))))

-- the cause of a word that names a parameter
refused : (ps : List Wanted) (ws : List (List ℕ)) (j : ℕ) (rest : Option InputError) (known : Bool)
    (v : Option Constant) (e : InputError)
    → first_cause ps [] 0 ws ≡ option_or (if known then Some (RepeatedInput j) else option_bad j v) rest →
    (if known then Some (RepeatedInput j) else option_bad j v) ≡ Some e → IsCauseOf ps ws e
refused ps ws j rest true v e first cause = subst (IsCauseOf ps ws) (let same : RepeatedInput j ≡ e = cc in same) first
refused ps ws j rest false None e first cause = subst (IsCauseOf ps ws) (let same : BadInput j ≡ e = cc in same) first
refused ps ws j rest false (Some v) e first cause = cc

-- a word that is taken has a value, for a parameter that has none
free : (j : ℕ) (o v : Option Constant) → (if is_some o then Some (RepeatedInput j) else option_bad j v) ≡ None
    → (o ≡ None) × IsSome v
free j None None e = cc
free j None (Some w) e = (refl, refl)
free j (Some q) v e = cc

module _ (ps : List Wanted) (ws : List (List ℕ)) (j : ℕ) (vs : List (Option Constant)) (P : Progress ps ws j vs)
    (inside : j < length ws) where
  next : drop j ws ≡ get_or ws j [] ∷ drop (suc j) ws
  next = drop-cons ws j [] inside

  -- the cause, where word j says s
  cause_at : (s : Said) → said ps (get_or ws j []) ≡ s
      → first_cause ps [] 0 ws ≡ cause_from ps P.seen j s (drop (suc j) ws)
  cause_at s e = P.cause ∙ ap (first_cause ps P.seen j) next ∙ ap (λ t. cause_from ps P.seen j t (drop (suc j) ws)) e

  progress-unknown : said ps (get_or ws j []) ≡ Nothing → first_cause ps [] 0 ws ≡ Some (UnknownInput j)
  progress-unknown e = cause_at Nothing e

  refused_at : (n : ℕ) (v : Option Constant) (known : Bool) (e : InputError) → said ps (get_or ws j []) ≡ Says n v
      → n < length vs → is_some (get_or vs n None) ≡ known
      → (if known then Some (RepeatedInput j) else option_bad j v) ≡ Some e → IsCauseOf ps ws e
  refused_at n v known e says l is cause =
      let rest = first_cause ps (n ∷ P.seen) (suc j) (drop (suc j) ws) in
      refused ps ws j rest known v e
      (cause_at (Says n v) says
      ∙ ap (λ b. option_or (if b then Some (RepeatedInput j) else option_bad j v) rest) (P.known n l ∙ is)) cause

  -- a parameter without a value was not seen
  unseen : (n : ℕ) (s : Option InputError) → n < length vs → get_or vs n None ≡ None
      → (if has n P.seen then Some (RepeatedInput j) else s) ≡ s
  unseen n s l none = ap (λ b. if b then Some (RepeatedInput j) else s) (P.known n l ∙ ap is_some none)

  next_at : (n : ℕ) (v : Constant) → said ps (get_or ws j []) ≡ Says n (Some v) → n < length vs
      → get_or vs n None ≡ None → Progress ps ws (j + 1) (set vs n (Some v))
  next_at n v e l none = record {
    seen = n ∷ P.seen;
    cause =
        cause_at (Says n (Some v)) e
        ∙ ap (λ s. option_or s (first_cause ps (n ∷ P.seen) (suc j) (drop (suc j) ws))) (unseen n None l none)
        ∙ ap (λ i. first_cause ps (n ∷ P.seen) i (drop i ws)) (sym (add-one j));
    size = length-set vs n (Some v) ∙ P.size;
    known = λ m k. has_more (eqb n m) n m P.seen vs v refl l (P.known m (rw (length-set vs n (Some v)) at k));
    given = λ m k.
        given_more (eqb n m) n m vs v (value_for ps ws m) (value_for ps (drop (j + 1) ws) m) refl l none
        (P.given m (rw (length-set vs n (Some v)) at k)
        ∙ ap (λ rest. option_or (get_or vs m None) (value_for ps rest m)) next
        ∙ ap (λ s. option_or (get_or vs m None) (option_or (value_in m s) (value_for ps (drop (suc j) ws) m))) e
        ∙ ap (λ i. option_or (get_or vs m None)
        (option_or (if eqb n m then Some v else None) (value_for ps (drop i ws) m))) (sym (add-one j)));
  }

  pub progress-refused : (r : Option (ℕ × Option Constant)) (e : InputError) → said_so r ≡ said ps (get_or ws j [])
      → IfSome r (λ x. x.0 < length vs) → cause_so vs j r ≡ Some e → IsCauseOf ps ws e
  progress-refused None e says within cause =
      subst (IsCauseOf ps ws) (let same : UnknownInput j ≡ e = cc in same) (progress-unknown (sym says))
  progress-refused (Some x) e says within cause =
      refused_at x.0 x.1 (is_some (get_or vs x.0 None)) e (sym says) within refl cause

  pub progress-next : (r : Option (ℕ × Option Constant)) → said_so r ≡ said ps (get_or ws j [])
      → IfSome r (λ x. x.0 < length vs) → cause_so vs j r ≡ None
      → Progress ps ws (j + 1) (values_so vs r)
  progress-next None says within cause = cc
  progress-next (Some (n, None)) says within cause = absurd (false≢true (free j (get_or vs n None) None cause).1)
  progress-next (Some (n, Some v)) says within cause =
      next_at n v (sym says) within (free j (get_or vs n None) (Some v) cause).0

-- after the last word none is refused, and these are the values
pub said-all : (ps : List Wanted) (ws : List (List ℕ)) (j : ℕ) (vs : List (Option Constant)) → Progress ps ws j vs
    → length ws ≤ j → AreSaid ps ws vs
said-all ps ws j vs p end =
    let none : drop j ws ≡ [] = drop_of_length-le ws end in
    record {
      taken = p.cause ∙ ap (first_cause ps p.seen j) none;
      enough = p.size;
      values = λ n l. sym (p.given n l ∙ ap (λ rest. option_or (get_or vs n None) (value_for ps rest n)) none
          ∙ or-none (get_or vs n None));
    }
  where
    or-none : (o : Option Constant) → option_or o None ≡ o
    or-none None = refl
    or-none (Some v) = refl

-- ---- where none lacks

wide-map : {A B : Type 0} (f : A → B) (xs : List A) → length (map f xs) ≡ length xs
wide-map f [] = refl
wide-map f (x ∷ xs) = ap (λ n. suc n) (wide-map f xs)

said-at : (vs : List (Option Constant)) (n : ℕ) (o : Option Constant) → slice_get vs n ≡ Some o
    → (n < length vs) × (get_or vs n None ≡ o)
said-at [] n o e = cc
said-at (v ∷ vs) zero o e = (omega arith, let same : v ≡ o = cc in same)
said-at (v ∷ vs) (suc n) o e = let h = said-at vs n o e in (let l = h.0 in omega arith, h.1)

given-at : (ks : List Constant) (n : ℕ) → get_or (map Some ks) n None ≡ slice_get ks n
given-at [] n = refl
given-at (k ∷ ks) zero = refl
given-at (k ∷ ks) (suc n) = given-at ks n

-- the first that lacks is the cause
pub lack-cause : (ps : List Wanted) (ws : List (List ℕ)) (vs : List (Option Constant)) → AreSaid ps ws vs
    → (e : InputError) → IsFirstLack vs e → IsCauseOf ps ws e
lack-cause ps ws vs s (MissingInput n) h =
    let k = said-at vs n None h.0 in
    let inside = k.0 in
    let size = s.enough in (
      s.taken,
      record {
        param = omega arith;
        missing = sym (s.values n inside) ∙ k.1;
        before = λ m l. (let F : Option Constant → Type 0 = λ o. IsSome o in
            subst F (s.values m (omega arith)) (h.1 m l));
      },
    )
lack-cause ps ws vs s (UnknownInput j) h = absurd h
lack-cause ps ws vs s (RepeatedInput j) h = absurd h
lack-cause ps ws vs s (BadInput j) h = absurd h
lack-cause ps ws vs s Memory h = tt

-- and where none does, these are the values that are given
pub said-given : (ps : List Wanted) (ws : List (List ℕ)) (vs us : List (Option Constant)) (ks : List Constant)
    → AreSaid ps ws vs → us ≡ vs → map Some ks ≡ us → AreGiven ps ws ks
said-given ps ws vs us ks s e h =
    let same : vs ≡ map Some ks = sym (h ∙ e) in
    let size : length vs ≡ length ks = ap length same ∙ wide-map Some ks in
    record {
      taken = s.taken;
      enough = sym size ∙ s.enough;
      values = λ n l. sym (given-at ks n) ∙ ap (λ xs. get_or xs n None) (sym same) ∙ s.values n (omega arith);
    }

-- the word of a number, as its text
pub word_at : (ps : List Wanted) (ws : List (Bor (List ℕ))) (j : ℕ) (d : Bor (List ℕ)) → j < length ws
    → said ps (get_or (map (λ w. w.now) ws) j []) ≡ said ps (get_or ws j d).now
word_at ps ws j d inside = ap (said ps) (get_or-map (λ (w : Bor (List ℕ)). w.now) ws j d [] inside)

-- ---- kinds

-- a value of the language, of this kind
abbrev IsOf : Constant → Kind → Type 0
IsOf o k = (constant_kind o ≡ k) × IsWhole o

whole-kind : (v : Bool) (n : ℤ) (o : Constant) → is_whole n ≡ v → (if v then Some (value.Int n) else None) ≡ Some o
    → IsOf o kind.Int
whole-kind true n o w e = let same : value.Int n ≡ o = cc in subst (λ z. IsOf z kind.Int) same (refl, w)
whole-kind false n o w e = cc

number-kind : (r : Option ℤ) (o : Constant) → option_and_then whole_value r ≡ Some o → IsOf o kind.Int
number-kind None o e = cc
number-kind (Some n) o e = whole-kind _ n o refl e

truth-kind : (v w : Bool) (o : Constant)
    → (if v then Some (value.Bool true) else (if w then Some (value.Bool false) else None)) ≡ Some o
    → IsOf o kind.Bool
truth-kind true w o e = let same : value.Bool true ≡ o = cc in subst (λ z. IsOf z kind.Bool) same (refl, tt)
truth-kind false true o e = let same : value.Bool false ≡ o = cc in subst (λ z. IsOf z kind.Bool) same (refl, tt)
truth-kind false false o e = cc

spelled-kind : (k : Kind) (cs : List ℕ) (o : Constant) → value_spelled k cs ≡ Some o → IsOf o k
spelled-kind kind.Int cs o e = number-kind (number_spelled cs) o e
spelled-kind kind.Bool cs o e = truth-kind _ _ o e
spelled-kind kind.Array cs o e = cc
spelled-kind kind.Nested cs o e = cc

param-kind : (q : Option Wanted) (p : Wanted) (cs : List ℕ) (o : Constant) → q ≡ Some p
    → option_and_then (λ r. value_spelled r.kind cs) q ≡ Some o
    → IsOf o p.kind
param-kind q p cs o is e = spelled-kind p.kind cs o (rw is at e)

-- what a word says of a parameter has its kind
in-kind : (v : Bool) (ps : List Wanted) (cs : List ℕ) (n m : ℕ) (p : Wanted) (o : Constant) → eqb m n ≡ v
    → slice_get ps n ≡ Some p
    → (if v then option_and_then (λ r. value_spelled r.kind cs) (slice_get ps m) else None) ≡ Some o → IsOf o p.kind
in-kind true ps cs n m p o e is h = param-kind (slice_get ps m) p cs o (ap (slice_get ps) (eqb-true m n e) ∙ is) h
in-kind false ps cs n m p o e is h = cc

said-kind : (ps : List Wanted) (cs : List ℕ) (a : Option ℕ) (n : ℕ) (p : Wanted) (o : Constant)
    → slice_get ps n ≡ Some p → value_in n (said_of ps cs a) ≡ Some o → IsOf o p.kind
said-kind ps cs None n p o is e = cc
said-kind ps cs (Some m) n p o is e = in-kind (eqb m n) ps cs n m p o refl is e

word-kind : (ps : List Wanted) (w : Option Cut) (n : ℕ) (p : Wanted) (o : Constant) → slice_get ps n ≡ Some p
    → value_in n (said_by ps w) ≡ Some o → IsOf o p.kind
word-kind ps None n p o is e = cc
word-kind ps (Some w) n p o is e = said-kind ps w.value (number_of ps w.name) n p o is e

or-kind : (a b : Option Constant) (k : Kind) (o : Constant) → option_or a b ≡ Some o → (a ≡ Some o → IsOf o k)
    → (b ≡ Some o → IsOf o k) → IsOf o k
or-kind None b k o e first second = second e
or-kind (Some v) b k o e first second = first e

for-kind : (ps : List Wanted) (ws : List (List ℕ)) (n : ℕ) (p : Wanted) (o : Constant) → slice_get ps n ≡ Some p
    → value_for ps ws n ≡ Some o → IsOf o p.kind
for-kind ps [] n p o is e = cc
for-kind ps (w ∷ ws) n p o is e =
    or-kind (value_in n (said ps w)) (value_for ps ws n) p.kind o e (word-kind ps (cut w) n p o is)
    (for-kind ps ws n p o is)

-- the parameter at a row of this node has the kind that is wanted
suits : (P : Checked) (z : Node) (v : Constant) → is_param z ≡ true → IsOf v (wanted_of P z).kind → SuitsParam z v
suits P (Param x k) v h e = e
suits P _ v h e = absurd (false≢true h)

-- one value for each parameter, of its kind
are-for : (P : Checked) (bs : List ℕ) (vs : List Constant)
    → ((b : ℕ) → Among b bs → is_param (at (rows P) b).node ≡ true) → length vs ≡ length bs
    → ((n : ℕ) (p : Wanted) (v : Constant) → slice_get (map (λ b. wanted_of P (at (rows P) b).node) bs) n ≡ Some p
    → slice_get vs n ≡ Some v →
    IsOf v p.kind) → AreFor P bs vs
are-for P [] [] are e h = tt
are-for P [] (v ∷ vs) are e h = absurd (omega arith)
are-for P (b ∷ bs) [] are e h = absurd (omega arith)
are-for P (b ∷ bs) (v ∷ vs) are e h = (
  suits P (at (rows P) b).node v (are b (inl refl)) (h 0 _ v refl refl),
  are-for P bs vs (λ c i. are c (inr i)) (omega arith) (λ n. h (suc n)),
)

-- one for each parameter of `main`, of its kind
module _ (P : Checked) (ps : List Wanted) (ws : List (List ℕ)) (vs : List Constant) (same : ps ≡ wanted P)
    (given : AreGiven ps ws vs) where
  pub are-inputs-of : AreInputsOf P ws vs
  are-inputs-of = record {
    all_taken = subst (λ qs. first_cause qs [] 0 ws ≡ None) same given.taken;
    enough = given.enough ∙ ap length same;
    values = λ n l. given.values n l ∙ ap (λ qs. value_for qs ws n) same;
  }

  pub are-inputs : AreInputs P vs
  are-inputs =
      let R = rows P in
      let wide : length (wanted P) ≡ length (main_params P) =
      wide-map (λ b. wanted_of P (at R b).node) (main_params P) in
      let kinds : (n : ℕ) (p : Wanted) (v : Constant) → slice_get ps n ≡ Some p → slice_get vs n ≡ Some v
      → IsOf v p.kind =
      λ n p v is at. for-kind ps ws n p v is (sym (given.values n (slice_get_within vs n v at)) ∙ at) in
      are-for P (main_params P) vs (λ b i. (params-among R (head_of (at R P.main).node) (length R) b i).1) (given.enough
      ∙ ap length same ∙ wide)
      (subst (λ (qs : List Wanted). (n : ℕ) (p : Wanted) (v : Constant) → slice_get qs n ≡ Some p
      → slice_get vs n ≡ Some v → IsOf v p.kind) same
      kinds)
