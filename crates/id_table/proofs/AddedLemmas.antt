-- What is true of the rows that are added for a tree.
use Rattle.std.proofs.Common.{◌≡◌, inl, inr, ◌+◌, ◌-◌, ◌<◌, ◌≤◌, ℕ, suc, true, false, List}
use Rattle.std.proofs.Common.{[], ◌∷◌, ◌++◌, length, refl, sym, ap, subst, arith}
use Rattle.std.proofs.lemmas.Bool.{cases_lt}
use Rattle.id_grammar.specs.Tree.{Tree, binding, next, store, param, define}
use Rattle.id_table.specs.declared.row.Row.{Row}
use Rattle.id_table.specs.declared.row.Stand.{Stand}
use Rattle.id_table.specs.declared.row.Node.TheVariants.{Head, Literal, Name, Split, Arg, Start, LoopHead, Switches}
use Rattle.id_table.specs.declared.row.Node.TheVariants.{Turn, Body, Reset, Loop, Carried, Within, Count, Index, Span}
use Rattle.id_value.specs.declared.Kind.TheVariants as kind
use Rattle.id_table.specs.Names.{number_of}
use Rattle.id_table.specs.Rows.{Parts, add, add_arguments, add_entries, add_nexts, add_variables, arm, begin_for}
use Rattle.id_table.specs.Rows.{begin_loop, count_of, at, end_loop, enter_loop, in_top, last, size, top, with_row}
use Rattle.id_table.specs.Trees.{IsTree, Sort, Expression, Arguments, Statements, Params, Defs, by_literal, by_unary}
use Rattle.id_table.specs.Trees.{by_binary, by_name, by_conditional, by_call, by_loop, by_for, by_array, by_fetch}
use Rattle.id_table.specs.Trees.{next_statement, store_statement, no_arguments, more_arguments, by_block, no_statements}
use Rattle.id_table.specs.Trees.{more_statements, no_params, more_params, no_defs, more_defs}
use Rattle.id_table.proofs.HasLemmas.{Has, Has-add, Has-arguments, Has-itself, Has-push, addressed, argued, at-push}
use Rattle.id_table.proofs.HasLemmas.{entered, push-size, push-within, row_for, row_in, Has-end, Has-enter, Has-entries}
use Rattle.id_table.proofs.HasLemmas.{Has-nexts, all_entries, bounded, carrying, closed, for_closed, for_left_by}
use Rattle.id_table.proofs.HasLemmas.{for_side, for_stated, indexed, left_by, nexted, opened, reset, spanned, stated}
use Rattle.id_table.proofs.HasLemmas.{switched, tested, used, within_for}
use Rattle.id_table.proofs.RowLemmas.{RowsAre-none}
use Rattle.id_table.proofs.ExpressionLemmas.{AreExpression, AreStatement, AreStatements, AreParams, are-array}
use Rattle.id_table.proofs.ExpressionLemmas.{are-binary, are-binding, are-block, are-fetch, are-leaf, are-param}
use Rattle.id_table.proofs.ExpressionLemmas.{are-unary, statement-before}
use Rattle.id_table.proofs.CallLemmas.{Called, are-call, called-argument, called-enter}
use Rattle.id_table.proofs.ConditionalLemmas.{are-conditional}
use Rattle.id_table.proofs.LoopRowsLemmas.{LoopRows, while-own}
use Rattle.id_table.proofs.LoopLemmas.{are-loop}
use Rattle.id_table.proofs.IndexLemmas.{for-own}
use Rattle.id_table.proofs.NextLemmas.{AreNexts, IsRound, Variables, nexts-both, nexts-none, nexts_in, one-next}
use Rattle.id_table.proofs.NextLemmas.{one-statement, size-variables, variables-added, variables-each}
use Rattle.id_table.proofs.StoreLemmas.{are-store}
use Rattle.id_table.proofs.ParamsLemmas.{NoParams-expression}
use Rattle.id_table.proofs.ProcedureLemmas.{StandsIn, are-define}

module _ (F : List Row) where
  -- the rows from lo up to hi stand in procedures
  abbrev pub AreDefs : ℕ → ℕ → Type 0
  AreDefs lo hi = (i : ℕ) → lo ≤ i → i < hi → StandsIn F i (at F i)

  -- the rows from lo up to hi are those of a tree of this sort
  abbrev pub Are : Sort → Stand → ℕ → ℕ → Type 0
  Are Expression s lo hi = AreExpression F s lo hi
  Are Arguments s lo hi = Unit {0}
  Are Statements s lo hi = AreStatements F s lo hi
  Are Params s lo hi = s.region ≡ top s.block → AreParams F s lo hi
  Are Defs s lo hi = AreDefs lo hi

  last_of : (s : Stand) (lo hi : ℕ) → AreExpression F s lo hi → suc (hi - 1) ≡ hi
  last_of s lo hi e = omega (arith, e.ends)

  -- those up to a row that is added
  grown : (s : Stand) (lo : ℕ) (R : List Row) (r : Row) → AreExpression F s lo (suc (length R)) → AreExpression F s lo (length (R ++ r ∷ []))
  grown s lo R r e = subst (AreExpression F s lo) (sym (push-size R r)) e

  arguments-within : (t : Tree) (s : Stand) (p e i : ℕ) (T : Parts) → size T ≤ size (add_arguments s p e i T t)
  arguments-within t s p e i T = (Has-arguments (add_arguments s p e i T t).rows t s p e i T (Has-itself (add_arguments s p e i T t).rows)).within

  nexts-within : (t : Tree) (s : Stand) (i : ℕ) (T : Parts) → size T ≤ size (add_nexts s i T t)
  nexts-within t s i T = (Has-nexts (add_nexts s i T t).rows t s i T (Has-itself (add_nexts s i T t).rows)).within

  -- the rows of a store, behind those of its parts
  stored : (s : Stand) (T : Parts) (t i e : Tree) (p : ℕ) → Has F (add s T (store t i e p)).rows → AreExpression F s (size T) (size (add s T t))
      → AreExpression F s (size (add s T t)) (size (add s (add s T t) i))
      → AreExpression F s (size (addressed s T t i p)) (size (add s (addressed s T t i p) e))
      → AreStatement F s (size T) (size (add s (addressed s T t i p) e))
  stored s T t i e p h target index value =
      let U = add s T t in
      let V = add s U i in
      let A = addressed s T t i p in
      let W = add s A e in
      let f = Has-add F e s A (Has-push F W.rows _ h) in
      let one : suc (last U) ≡ size U = last_of s (size T) (size U) target in
      let next : size A ≡ suc (size V) = push-size V.rows _ in
      are-store F s p (size T) (last U) (last V) (size V) (last W) (size W) (record {
        within = push-within F W.rows _ h;
        target = subst (AreExpression F s (size T)) (sym one) target;
        index = subst (λ k. AreExpression F s k (size V)) (sym one) index;
        index_ends = last_of s (size U) (size V) index;
        address = at-push F V.rows _ f;
        value = subst (λ k. AreExpression F s k (size W)) next value;
        value_ends = last_of s (size A) (size W) value;
        row = at-push F W.rows _ h;
      })

  moved : (q : Stand) (p f f' i i' j j' : ℕ) → at F i ≡ row_in q p f i (Switches j) → f ≡ f' → i ≡ i' → j ≡ j'
      → at F i' ≡ row_in q p f' i' (Switches j')
  moved q p f f' i i' j j' h a b c =
      subst (λ k. at F i' ≡ row_in q p f' i' (Switches k)) c
      (subst (λ k. at F i' ≡ row_in q p k i' (Switches j)) a (subst (λ k. at F k ≡ row_in q p f k (Switches j)) b h))

  -- the rows of a loop, of which those before its variables, its switches at the row w, and the first of its body, up to
  -- the row m, are known: T are the parts before its `Start`, K those before its variables, and I those before its statements
  looped : (s : Stand) (from : ℕ) (T K I : Parts) (c t w u m r : ℕ) (ss l : Tree) (p : ℕ) →
      let lo = size T in
      let h = suc lo in
      let V = add_variables (in_top h) K ss in
      let y = arm (in_top h) w true in
      let o = arm (in_top h) w false in
      let N = add_nexts y c I ss in
      let C = with_row N y p r Body in
      let L = add o C l in
      let n = size (spanned s o L p (size C) lo) in
      Has F (end_loop s o p from lo (size C) (last L) L).rows → Has F (enter_loop s T p).rows → size K ≡ h + 1 + c
      → Has F (add_entries (in_top h) K ss p).rows → suc t ≡ w → size V < t → at F w ≡ row_in (in_top h) p (suc (size V)) w (Switches t) → w < u → u < m
      → size I ≡ m → r ≡ suc u
      → (IsRound F lo h w (last L) n → Variables F h c ss → size N ≤ n → AreNexts F y c (c + nexts_in ss) (size I) (size N))
      → AreExpression F o (size C) (size L)
      → LoopRows F s p from lo c (size V) t w u m (size N) (last L) n
  looped s from T K I c t w u m r ss l p has started many entered test_ends test_low switches turn_low begins to_body to_turn statements last_rows =
      let lo = size T in
      let h = suc lo in
      let S = with_row T s p lo Start in
      let V = add_variables (in_top h) K ss in
      let y = arm (in_top h) w true in
      let o = arm (in_top h) w false in
      let N = add_nexts y c I ss in
      let C = with_row N y p r Body in
      let L = add o C l in
      let R = reset o L p (size C) in
      let Z = spanned s o L p (size C) lo in
      let n = size Z in
      let has_span = Has-push F Z.rows _ has in
      let has_reset = Has-push F R.rows _ has_span in
      let has_last = Has-push F L.rows _ has_reset in
      let has_body = Has-add F l o C has_last in
      let has_variables = Has-push F V.rows _ entered in
      let to_head : size S ≡ h = push-size T.rows _ in
      let to_last : size C ≡ suc (size N) = push-size N.rows _ in
      let to_span : size R ≡ suc (size L) = push-size L.rows _ in
      let to_loop : n ≡ suc (size R) = push-size R.rows _ in
      let variables = variables-added F h c ss K many has_variables in
      let last_last : suc (last L) ≡ size L = last_of o (size C) (size L) last_rows in
      let spanning : size R ≡ suc (suc (last L)) = omega arith in
      let head_row = subst (λ k. at F k ≡ row_in (in_top h) p h k (LoopHead lo)) to_head (at-push F S.rows _ started) in
      let loop_row : at F n ≡ row_in s p from n (Loop h w (last L)) = at-push F Z.rows _ has in
      let long = size-variables (in_top h) ss K in
      let round : IsRound F lo h w (last L) n = record {
        within = push-within F Z.rows _ has;
        low = omega (arith, long);
        head = ap (λ (r : Row). r.node) head_row;
        node = ap (λ (r : Row). r.node) loop_row;
      } in
      let body = statements round variables (omega (arith, last_rows.low, last_rows.ends)) in
      record {
        within = push-within F Z.rows _ has;
        ends = omega arith;
        start = at-push F T.rows _ (Has-push F S.rows _ started);
        head = head_row;
        count = nexts_in ss;
        many = omega (arith, long);
        variable = λ k f g. variables-each F h c ss variables k f g;
        entries = at-push F V.rows _ entered;
        test_ends = test_ends;
        test_low = test_low;
        switches = switches;
        turn_low = turn_low;
        begins = begins;
        body = subst (λ k. AreNexts F y c (c + nexts_in ss) k (size N)) to_body body;
        body_end = subst (λ k. at F (size N) ≡ row_in y p k (size N) Body) to_turn (at-push F N.rows _ has_body);
        last = subst (λ k. AreExpression F o k (suc (last L))) to_last (subst (AreExpression F o (size C)) (sym last_last) last_rows);
        reset = subst (λ k. at F k ≡ row_in o p (suc (size N)) k (Reset (last L))) (sym last_last)
            (subst (λ k. at F (size L) ≡ row_in o p k (size L) (Reset (last L))) to_last (at-push F L.rows _ has_reset));
        span = subst (λ k. at F k ≡ row_in s p lo k Span) spanning (at-push F R.rows _ has_span);
        row = loop_row;
      }

  mutual
    pub Are-add : {k : Sort} {t : Tree} (s : Stand) (T : Parts) → IsTree k t → Has F (add s T t).rows → Are k s (size T) (size (add s T t))
    Are-add s T (by_literal {v} {p}) h = grown s (size T) T.rows _ (are-leaf F s p (size T) (Literal v) (at-push F T.rows _ h) refl refl (λ a q. q))
    Are-add s T (by_name {x} {p}) h =
        grown s (size T) T.rows _ (are-leaf F s p (size T) (Name (number_of T.names x)) (at-push F T.rows _ h) refl refl (λ a q. q))
    Are-add s T (by_unary {o} {a} {p} t) h =
        let U = add s T a in
        let e = Are-add s T t (Has-push F U.rows _ h) in
        grown s (size T) U.rows _
        (are-unary F s p (size T) (last U) (size U) o (at-push F U.rows _ h) (push-within F U.rows _ h) (last_of s (size T) (size U) e) e)
    Are-add s T (by_binary {o} {a} {b} {p} t u) h =
        let U = add s T a in
        let V = add s U b in
        let after = Has-push F V.rows _ h in
        let e = Are-add s T t (Has-add F b s U after) in
        let f = Are-add s U u after in
        grown s (size T) V.rows _
        (are-binary F s p (size T) (size U) (last U) (last V) (size V) o (at-push F V.rows _ h) (push-within F V.rows _ h) (last_of s (size T) (size U) e)
        (last_of s (size U) (size V) f) e f)
    Are-add s T (by_array {nested} {a} {b} {p} t u) h =
        let U = add s T a in
        let V = add s U b in
        let after = Has-push F V.rows _ h in
        let e = Are-add s T t (Has-add F b s U after) in
        let f = Are-add s U u after in
        grown s (size T) V.rows _
        (are-array F s nested p (size T) (size U) (last U) (last V) (size V) (at-push F V.rows _ h) (push-within F V.rows _ h) (last_of s (size T) (size U) e)
        (last_of s (size U) (size V) f) e f)
    Are-add s T (by_fetch {t = a} {i = b} {p} t u) h =
        let U = add s T a in
        let V = add s U b in
        let after = Has-push F V.rows _ h in
        let e = Are-add s T t (Has-add F b s U after) in
        let f = Are-add s U u after in
        grown s (size T) V.rows _
        (are-fetch F s p (size T) (size U) (last U) (last V) (size V) (at-push F V.rows _ h) (push-within F V.rows _ h) (last_of s (size T) (size U) e)
        (last_of s (size U) (size V) f) e f)
    Are-add s T (by_conditional {t} {x} {y} {p} d e f) h =
        let U = add s T t in
        let n = size U in
        let S = with_row U s p (size T) (Split (last U)) in
        let X = add (arm s n true) S x in
        let Y = add (arm s n false) X y in
        let has = Has-push F Y.rows _ h in
        let has_then = Has-add F y (arm s n false) X has in
        let has_split = Has-add F x (arm s n true) S has_then in
        let test = Are-add s T d (Has-push F U.rows _ has_split) in
        let then = Are-add (arm s n true) S e has_then in
        let otherwise = Are-add (arm s n false) X f has in
        let then_last : suc (last X) ≡ size X = last_of (arm s n true) (size S) (size X) then in
        let start : size S ≡ suc n = push-size U.rows _ in
        grown s (size T) Y.rows _ (are-conditional F s p (size T) (last U) n (last X) (last Y) (size Y) (record {
          within = push-within F Y.rows _ h;
          test = test;
          test_ends = last_of s (size T) n test;
          split = at-push F U.rows _ has_split;
          then = subst (λ m. AreExpression F (arm s n true) m (suc (last X))) start (subst (AreExpression F (arm s n true) (size S)) (sym then_last) then);
          otherwise = subst (λ m. AreExpression F (arm s n false) m (size Y)) (sym then_last) otherwise;
          otherwise_ends = last_of (arm s n false) (size X) (size Y) otherwise;
          row = at-push F Y.rows _ h;
        }))
    Are-add s T (by_call {x} {a} {p} d) h =
        let e = size T in
        let E = entered s T x p in
        let U = add_arguments s p e 0 E a in
        let has = Has-push F U.rows _ h in
        let own = Has-arguments F a s p e 0 E has in
        let start = called-enter F s p e (size U) (count_of a) (number_of T.names x) (at-push F T.rows _ own) (at-push F U.rows _ h)
        (push-within F U.rows _ h) in
        let all = Are-arguments s p e (size U) (count_of a) 0 E d has (omega arith) (omega arith)
        (subst (Called F s p e (size U) (count_of a) 0) (sym (push-size T.rows _)) start) in
        grown s e U.rows _ (are-call F s p e (size U) (count_of a) all)
    Are-add s T no_arguments h = tt
    Are-add s T (more_arguments d f) h = tt
    Are-add s T (by_block {ss} {b} {p} t u) h =
        let U = add s T ss in
        let V = add s U b in
        let after = Has-push F V.rows _ h in
        let f = Are-add s U u after in
        let ends = last_of s (size U) (size V) f in
        grown s (size T) V.rows _
        (are-block F s p (size T) (size U) (last V) (size V) (at V.rows (last V)).value (at-push F V.rows _ h) (push-within F V.rows _ h) ends
        (ap (λ (r : Row). r.value) (sym (after.same (last V) (omega arith)))) (Are-add s T t (Has-add F b s U after)) f)
    Are-add s T no_statements h = record {
      low = omega arith;
      rows = RowsAre-none F s (size T);
      turned = λ i b c e. absurd (omega arith);
      held = λ i b c e. absurd (omega arith);
    }
    Are-add s T (more_statements {x} {a} {ss} {p} t u) h =
        let U = add s T a in
        let V = add s T (binding x a p) in
        let after = Has-add F ss s V h in
        let e = Are-add s T t (Has-push F U.rows _ after) in
        statement-before F s (size T) (size U) (size (add s V ss))
        (are-binding F s p (size T) (number_of U.names x) (last U) (size U) (at-push F U.rows _ after) (last_of s (size T) (size U) e) e)
        (subst (λ n. AreStatements F s n (size (add s V ss))) (push-size U.rows _) (Are-add s V u h))
    Are-add s T (next_statement {x} {a} {ss} {p} t u) h =
        let U = add s T a in
        let V = add s T (next x a p) in
        let after = Has-add F ss s V h in
        let e = Are-add s T t (Has-push F U.rows _ after) in
        statement-before F s (size T) (size U) (size (add s V ss))
        (are-binding F s p (size T) (number_of U.names x) (last U) (size U) (at-push F U.rows _ after) (last_of s (size T) (size U) e) e)
        (subst (λ n. AreStatements F s n (size (add s V ss))) (push-size U.rows _) (Are-add s V u h))
    Are-add s T (store_statement {t} {i} {e} {ss} {p} d f g u) h =
        let U = add s T t in
        let V = add s U i in
        let A = addressed s T t i p in
        let W = add s A e in
        let X = add s T (store t i e p) in
        let after = Has-add F ss s X h in
        let has = Has-push F W.rows _ after in
        let has_index = Has-push F V.rows _ (Has-add F e s A has) in
        let own = stored s T t i e p after (Are-add s T d (Has-add F i s U has_index)) (Are-add s U f has_index) (Are-add s A g has) in
        statement-before F s (size T) (size W) (size (add s X ss)) own
        (subst (λ n. AreStatements F s n (size (add s X ss))) (push-size W.rows _) (Are-add s X u h))
    Are-add s T (by_loop {t} {ss} {l} {p} d e f) h =
        let lo = size T in
        let head = suc lo in
        let H = enter_loop s T p in
        let V = add_variables (in_top head) H ss in
        let E = begin_loop s T ss p in
        let U = tested s T t ss p in
        let W = switched s T t ss p in
        let B = opened s T t ss p in
        let N = stated s T t ss p in
        let C = closed s T t ss p in
        let L = left_by s T t ss l p in
        let w = size U in
        let body = arm (in_top head) w true in
        let behind = arm (in_top head) w false in
        let Z = spanned s behind L p (size C) lo in
        let n = size Z in
        let has_last = Has-end F s behind L p lo lo (size C) h in
        let has_body = Has-add F l behind C has_last in
        let has_statements = Has-push F N.rows _ has_body in
        let has_turn = Has-nexts F ss body 0 B has_statements in
        let has_switches = Has-push F W.rows _ has_turn in
        let has_test = Has-push F U.rows _ has_switches in
        let has_entries = Has-add F t (in_top head) E has_test in
        let has_head = Has-entries F (in_top head) H ss p has_entries in
        let to_head : size (with_row T s p lo Start) ≡ head = push-size T.rows _ in
        let to_variables : size H ≡ suc (size (with_row T s p lo Start)) = push-size (with_row T s p lo Start).rows _ in
        let to_test : size E ≡ suc (size V) = push-size V.rows _ in
        let to_turn : size W ≡ suc w = push-size U.rows _ in
        let to_body : size B ≡ suc (size W) = push-size W.rows _ in
        let test = Are-add (in_top head) E d has_test in
        let test_last : suc (last U) ≡ w = last_of (in_top head) (size E) w test in
        let switches = moved (in_top head) p (size E) (suc (size V)) w w (last U) (last U) (at-push F U.rows _ has_switches) to_test refl refl in
        let turn = subst (λ k. at F k ≡ row_in body p k k Turn) to_turn (at-push F W.rows _ has_turn) in
        let rows = looped s lo T H B 0 (last U) w (suc w) (suc (suc w)) (size B) ss l p h has_head (omega arith) has_entries test_last
        (omega (arith, test.low, test.ends)) switches (omega arith) (omega arith) (omega arith) (omega arith)
        (λ round variables within. Are-nexts lo head w (last L) n 0 B e round has_statements variables (omega arith) within) (Are-add behind C f has_last) in
        let test_rows = subst (λ k. AreExpression F (in_top head) k w) to_test test in
        grown s lo Z.rows _ (are-loop F s p lo lo 0 (size V) (last U) w (suc w) (suc (suc w)) (size N) (last L) n rows
        (while-own F s p lo (size V) (last U) w (size N) (last L) n rows test_rows turn))
    Are-add s T (by_for {x} {a} {b} {ss} {l} {q} {p} d e f g) h =
        let from = size T in
        let U = add s T a in
        let Y = add s U b in
        let A = bounded s T a b p in
        let lo = size A in
        let head = suc lo in
        let S = with_row A s p lo Start in
        let H = enter_loop s A p in
        let one = with_row H (in_top head) q (size H) (Carried kind.Int) in
        let two = with_row one (in_top head) p (size one) (Carried kind.Int) in
        let K = carrying s A q p in
        let V = add_variables (in_top head) K ss in
        let E = all_entries s A ss q p in
        let D = within_for s A ss q p in
        let W = begin_for s A ss q p in
        let w = last W in
        let body = for_side s A ss q p true in
        let behind = for_side s A ss q p false in
        let O = with_row W body p (size W) Count in
        let B = with_row O body p (size O) Turn in
        let I = indexed s A x q ss p in
        let N = for_stated s A x q ss p in
        let C = for_closed s A x q ss p in
        let L = for_left_by s A x q ss l p in
        let Z = spanned s behind L p (size C) lo in
        let n = size Z in
        let has_last = Has-end F s behind L p from lo (size C) h in
        let has_body = Has-add F l behind C has_last in
        let has_statements = Has-push F N.rows _ has_body in
        let has_index = Has-nexts F ss body 3 I has_statements in
        let has_turn = Has-push F B.rows _ has_index in
        let has_count = Has-push F O.rows _ has_turn in
        let has_switches = Has-push F W.rows _ has_count in
        let has_within = Has-push F D.rows _ has_switches in
        let has_entries = Has-push F E.rows _ has_within in
        let has_carried = Has-entries F (in_top head) K ss p has_entries in
        let has_bound = Has-push F two.rows _ has_carried in
        let has_entry = Has-push F one.rows _ has_bound in
        let has_head = Has-push F H.rows _ has_entry in
        let has_bounds = Has-enter F s A p has_head in
        let has_high = Has-push F Y.rows _ has_bounds in
        let has_low = Has-add F b s U has_high in
        let low = Are-add s T d has_low in
        let high = Are-add s U e has_high in
        let to_start : lo ≡ suc (size Y) = push-size Y.rows _ in
        let to_head : size S ≡ head = push-size A.rows _ in
        let to_entry : size H ≡ suc (size S) = push-size S.rows _ in
        let to_bound : size one ≡ suc (size H) = push-size H.rows _ in
        let to_flag : size two ≡ suc (size one) = push-size one.rows _ in
        let to_variables : size K ≡ suc (size two) = push-size two.rows _ in
        let to_within : size E ≡ suc (size V) = push-size V.rows _ in
        let to_switches : size D ≡ suc (size E) = push-size E.rows _ in
        let to_count : size W ≡ suc (size D) = push-size D.rows _ in
        let to_turn : size O ≡ suc (size W) = push-size W.rows _ in
        let to_index : size B ≡ suc (size O) = push-size O.rows _ in
        let to_body : size I ≡ suc (size B) = push-size B.rows _ in
        let entry : size H ≡ suc (suc lo) = omega arith in
        let bound : size one ≡ suc (suc (suc lo)) = omega arith in
        let flag_at : size two ≡ suc (suc (suc (suc lo))) = omega arith in
        let test_at : last D ≡ suc (size V) = omega arith in
        let switches_at : size D ≡ w = omega arith in
        let count_at : size W ≡ suc w = omega arith in
        let turn_at : size O ≡ suc (suc w) = omega arith in
        let index_at : size B ≡ suc (suc (suc w)) = omega arith in
        let switches = moved (in_top head) p (size E) (suc (size V)) (size D) w (last D) (suc (size V)) (at-push F D.rows _ has_switches) to_within switches_at
        test_at in
        let rows = looped s from A K I 3 (suc (size V)) w (suc (suc w)) (suc (suc (suc (suc w)))) (last I) ss l p h has_head (omega arith) has_entries
        (omega arith) (omega arith) switches (omega arith) (omega arith) (omega arith) (omega arith)
        (λ round variables within. Are-nexts lo head w (last L) n 3 I f round has_statements variables (omega arith) within) (Are-add behind C g has_last) in
        grown s from Z.rows _ (are-loop F s p from lo 3 (size V) (suc (size V)) w (suc (suc w)) (suc (suc (suc (suc w)))) (size N) (last L) n rows
        (for-own F s p q (number_of B.names x) from (size U) (size Y) lo (last U) (last Y) (size V) w (size N) (last L) n (record {
          low = low;
          low_ends = last_of s from (size U) low;
          high = high;
          high_ends = last_of s (size U) (size Y) high;
          bounds = at-push F Y.rows _ has_bounds;
          behind = sym to_start;
          entry = subst (λ k. at F k ≡ row_in (in_top head) q k k (Carried kind.Int)) entry (at-push F H.rows _ has_entry);
          bound = subst (λ k. at F k ≡ row_in (in_top head) p k k (Carried kind.Int)) bound (at-push F one.rows _ has_bound);
          flag_row = subst (λ k. at F k ≡ row_in (in_top head) p k k (Carried kind.Bool)) flag_at (at-push F two.rows _ has_carried);
          within = subst (λ k. at F k ≡ row_in (in_top head) p k (head + 3) (Within (head + 3))) to_within (at-push F E.rows _ has_within);
          before_body = omega arith;
          count = subst (λ k. at F k ≡ row_in body p k k Count) count_at (at-push F W.rows _ has_count);
          turn = subst (λ k. at F k ≡ row_in body p k k Turn) turn_at (at-push F O.rows _ has_turn);
          index = subst (λ k. at F k ≡ row_in body q k k (Index (number_of B.names x))) index_at (at-push F B.rows _ has_index);
        }) rows))
    Are-add s T no_params h = λ high. record {
      low = omega arith;
      rows = RowsAre-none F s (size T);
      param = λ i b c. absurd (omega arith);
      block = λ i b c. absurd (omega arith);
    }
    Are-add s T (more_params {x} {k} {ps} {p} t) h =
        let U = add s T (param x k p) in
        λ high. are-param F s p (size (add s U ps)) (number_of T.names x) (size T) k high (at-push F T.rows _ (Has-add F ps s U h))
        (subst (λ n. AreParams F s n (size (add s U ps))) (push-size T.rows _) (Are-add s U t h high))
    Are-add s T no_defs h = λ i b c. absurd (omega arith)
    Are-add s T (more_defs {x} {k} {ps} {b} {ds} {p} t u v) h =
        let D = add s T (define x ps k b p) in
        let n = size T in
        let w = in_top n in
        let H = with_row T w p n Head in
        let U = add w H ps in
        let V = add w U b in
        let has = Has-add F ds s D h in
        let after = Has-push F V.rows _ has in
        let own = are-define F T.rows V.rows p (size U) (number_of V.names x) (last V) k (Has-add F ps w H (Has-add F b w U after)) has
        (Are-add w H t (Has-add F b w U after) refl) (Are-add w U u after) (NoParams-expression F w U u after) refl in
        let rest = Are-add s D v h in
        λ i c d. elim (cases_lt i (size D)) [ inl f ↦ own i c f | inr f ↦ rest i f d ]

    -- the rows of arguments come behind those of the arguments before them
    Are-arguments : {t : Tree} (s : Stand) (p e n c i : ℕ) (T : Parts) → IsTree Arguments t → Has F (add_arguments s p e i T t).rows → i + count_of t ≡ c
        → size (add_arguments s p e i T t) ≤ n → Called F s p e n c i (size T) → Called F s p e n c c (size (add_arguments s p e i T t))
    Are-arguments s p e n c i T no_arguments h same within t = let z : i ≡ c = omega arith in subst (λ k. Called F s p e n c k (size T)) z t
    Are-arguments s p e n c i T (more_arguments {a} {b} d f) h same within t =
        let U = add s T a in
        let A = argued s p e i U in
        let has = Has-arguments F b s p e (suc i) A h in
        let value = Are-add s T d (Has-push F U.rows _ has) in
        let long = push-size U.rows (row_for U.rows s p e (Arg e i (last U))) in
        let longer : size A ≤ size (add_arguments s p e (suc i) A b) = arguments-within b s p e (suc i) A in
        let one = called-argument F s p e n c i (size T) (size U) (last U) t value (last_of s (size T) (size U) value) (at-push F U.rows _ has)
        (omega arith) (omega arith) in
        Are-arguments s p e n c (suc i) A f h (omega arith) within (subst (Called F s p e n c (suc i)) (sym long) one)

    -- the rows of the statements of a loop
    Are-nexts : {t : Tree} (u g w l n i : ℕ) (T : Parts) → IsTree Statements t → IsRound F u g w l n → Has F (add_nexts (arm (in_top g) w true) i T t).rows
        → Variables F g i t → w < size T → size (add_nexts (arm (in_top g) w true) i T t) ≤ n
        → AreNexts F (arm (in_top g) w true) i (i + nexts_in t) (size T) (size (add_nexts (arm (in_top g) w true) i T t))
    Are-nexts u g w l n i T no_statements r h v after within =
        let s = arm (in_top g) w true in
        let z : i ≡ i + 0 = omega arith in
        subst (λ c. AreNexts F s i c (size T) (size T)) z (nexts-none F s i (size T))
    Are-nexts u g w l n i T (more_statements {x} {a} {ss} {p} d e) r h v after within =
        let s = arm (in_top g) w true in
        let U = add s T a in
        let V = add s T (binding x a p) in
        let c = i + nexts_in ss in
        let has = Has-nexts F ss s i V h in
        let value = Are-add s T d (Has-push F U.rows _ has) in
        let long : size V ≡ suc (size U) = push-size U.rows _ in
        let one = one-statement F s (size T) i (size U) (omega (arith, r.low))
        (are-binding F s p (size T) (number_of U.names x) (last U) (size U) (at-push F U.rows _ has) (last_of s (size T) (size U) value) value) in
        let rest = Are-nexts u g w l n i V e r h v (omega (arith, value.low, value.ends)) within in
        nexts-both F s i i c (size T) (size V) (size (add_nexts s i V ss)) (subst (AreNexts F s i i (size T)) (sym long) one) rest
    Are-nexts u g w l n j T (store_statement {t} {i} {e} {ss} {p} d f k q) r h v after within =
        let s = arm (in_top g) w true in
        let U = add s T t in
        let V = add s U i in
        let A = addressed s T t i p in
        let W = add s A e in
        let X = add s T (store t i e p) in
        let c = j + nexts_in ss in
        let has = Has-nexts F ss s j X h in
        let has_value = Has-push F W.rows _ has in
        let has_index = Has-push F V.rows _ (Has-add F e s A has_value) in
        let own = stored s T t i e p has (Are-add s T d (Has-add F i s U has_index)) (Are-add s U f has_index) (Are-add s A k has_value) in
        let long : size X ≡ suc (size W) = push-size W.rows _ in
        let one = one-statement F s (size T) j (size W) (omega (arith, r.low)) own in
        let rest = Are-nexts u g w l n j X q r h v (omega (arith, own.low)) within in
        nexts-both F s j j c (size T) (size X) (size (add_nexts s j X ss)) (subst (AreNexts F s j j (size T)) (sym long) one) rest
    Are-nexts u g w l n i T (next_statement {x} {a} {ss} {p} d e) r h v after within =
        let s = arm (in_top g) w true in
        let N = used s T x p in
        let U = add s N a in
        let V = nexted s i T x a p in
        let name = number_of T.names x in
        let c = suc i + nexts_in ss in
        let has = Has-nexts F ss s (suc i) V h in
        let has_value = Has-push F U.rows _ has in
        let has_use = Has-add F a s N has_value in
        let value = Are-add s N d has_value in
        let short : size N ≡ suc (size T) = push-size T.rows _ in
        let long : size V ≡ suc (size U) = push-size U.rows _ in
        let longer : size V ≤ size (add_nexts s (suc i) V ss) = nexts-within ss s (suc i) V in
        let one = one-next F u g w l n r p (size T) name i (last U) (size U) (at-push F T.rows _ has_use)
        (subst (λ k. AreExpression F s k (size U)) short value) (last_of s (size N) (size U) value) (at-push F U.rows _ has) v.0 after (omega arith) in
        let rest = Are-nexts u g w l n (suc i) V e r h v.1 (omega (arith, value.low, value.ends)) within in
        let z : c ≡ i + suc (nexts_in ss) = omega arith in
        subst (λ k. AreNexts F s i k (size T) (size (add_nexts s (suc i) V ss))) z
        (nexts-both F s i (suc i) c (size T) (size V) (size (add_nexts s (suc i) V ss)) (subst (AreNexts F s i (suc i) (size T)) (sym long) one) rest)
