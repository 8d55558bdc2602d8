-- What the maker adds at a form is what the definition adds.
use Rattle.std.proofs.Common.{◌≡◌, ◌<◌, ℕ, suc, ◌+◌, get_or, drop, Bool, true, List, [], ◌∷◌, length, refl, sym, ap, ◌∙◌, arith, Box, Global, IfOk, OnOk, Result}
use Rattle.std.proofs.lemmas.List.{drop_more}
use Rattle.std.proofs.lemmas.Result.{IfOk-weaker, on_ok_weaker}
use mathlib.Core.Former.{Count}
use Rattle.id_value.specs.declared.Kind.{Kind}
use Rattle.id_value.specs.declared.BinaryOp.{BinaryOp}
use Rattle.id_value.specs.declared.UnaryOp.{UnaryOp}
use Rattle.id_grammar.specs.declared.tree.Expr.{Loop, Loop', For, For'}
use Rattle.id_grammar.specs.declared.tree.Expr.{Expr, Array, Binary, Fetch, If, Unary, Call, Call', Block, Block'}
use Rattle.id_grammar.specs.declared.tree.Pair.{Pair}
use Rattle.id_grammar.specs.declared.tree.Expr.{Row_of-Expr, end_of-Expr, more_of-Expr, items-the_row-Expr, items_hidden-the_row-Expr-0}
use Rattle.id_grammar.specs.declared.tree.Expr.{Row_of-Stmt, end_of-Stmt, more_of-Stmt, items-the_row-Stmt, items_hidden-the_row-Stmt-1}
use Rattle.id_grammar.specs.declared.tree.Triple.{Triple}
use Rattle.id_grammar.specs.declared.tree.Call.{Call as Passing}
use Rattle.id_grammar.specs.declared.tree.Block.{Block as Inner}
use Rattle.id_grammar.specs.declared.tree.Loop.{Loop as Round}
use Rattle.id_grammar.specs.declared.tree.For.{For as Counted}
use Rattle.id_grammar.specs.declared.tree.Def.{Def}
use Rattle.id_grammar.specs.declared.tree.Stmt.{Stmt}
use Rattle.id_grammar.specs.declared.tree.Stmt as stmt
use Rattle.id_grammar.specs.Tree.{Tree, array, binary, call, block, binding, conditional, fetch, store, define, loop, for_loop, more, unary}
use Rattle.id_grammar.specs.Tree.{tree_of, args_tree, stmt_tree, row_tree, def_tree, defs_tree}
use Rattle.id_table.specs.declared.node.Pairing.{Pairing}
use Rattle.id_table.specs.declared.node.Pairing.TheVariants as pair
use Rattle.id_table.specs.declared.row.Stand.{Stand}
use Rattle.id_table.specs.declared.row.Node.{Node}
use Rattle.id_table.specs.declared.row.Node.TheVariants as node
use Rattle.id_table.specs.Names.{number_of}
use Rattle.id_table.specs.Rows.{Parts, add, add_arguments, add_nexts, arm, begin_counting, begin_for, begin_loop, count_of, end_loop, in_top, last, naming}
use Rattle.id_table.specs.Rows.{size, with_row}
use Rattle.id_table.specs.Nodes.{other_side, pair_node}
use Rattle.id_table.specs.Making.{IsAdded, add_argument, add_body, add_counting, add_next, add_statements, exprs_tree, pair_tree, stmts_tree}

row_tree-items : (n : _) (r : Row_of-Stmt n) → row_tree r ≡ stmts_tree (items-the_row-Stmt n r)
row_tree-items _ end_of-Stmt = refl
row_tree-items _ (more_of-Stmt s rest) = ap (more (stmt_tree s)) (row_tree-items _ rest)

abbrev row_of : Expr → (n : Count) × Row_of-Stmt n
row_of (Block' place p _ r body) = (_, r)
row_of _ = (_, end_of-Stmt)

tree_of-block : (place : ℕ) (b : Box Inner Global) → tree_of (Block place b) ≡ block (stmts_tree b.value.statements.items) (tree_of b.value.body) place
tree_of-block place b =
    let row = row_of (Block place b) in
    ap (λ t. block t (tree_of b.value.body) place) (row_tree-items row.0 row.1 ∙ ap stmts_tree (items_hidden-the_row-Stmt-1 b.value.statements))

args_tree-items : (n : _) (r : Row_of-Expr n) → args_tree r ≡ exprs_tree (items-the_row-Expr n r)
args_tree-items _ end_of-Expr = refl
args_tree-items _ (more_of-Expr e rest) = ap (more (tree_of e)) (args_tree-items _ rest)

abbrev args_of : Expr → (n : Count) × Row_of-Expr n
args_of (Call' place p x _ r) = (_, r)
args_of _ = (_, end_of-Expr)

tree_of-call : (place : ℕ) (b : Box Passing Global) → tree_of (Call place b) ≡ call b.value.name (exprs_tree b.value.args.items) place
tree_of-call place b =
    let row = args_of (Call place b) in
    ap (λ t. call b.value.name t place) (args_tree-items row.0 row.1 ∙ ap exprs_tree (items_hidden-the_row-Expr-0 b.value.args))

count-exprs : (es : List Expr) → length es ≡ count_of (exprs_tree es)
count-exprs [] = refl
count-exprs (e ∷ es) = ap suc (count-exprs es)

abbrev define_ending : Stand → List ℕ → Tree → Kind → Tree → ℕ → Parts → Parts
define_ending s x ps k b p H =
    let Y = add s (add s H ps) b in
    with_row (naming Y x) s p s.block (node.Def (number_of Y.names x) s.block k (last Y))

-- the rows of a definition, whose parameters and body were added
pub define_row : (s : Stand) (T H U V : Parts) (x : List ℕ) (ps b : Tree) (k : Kind) (p i : ℕ)
    → s ≡ in_top (size T) → H ≡ with_row T (in_top (size T)) p (size T) node.Head → U ≡ add s H ps → IsAdded i V (add s U b)
    → with_row (naming V x) s p s.block (node.Def (number_of V.names x) s.block k i) ≡ add (in_top 0) T (define x ps k b p)
define_row s T H U V x ps b k p i h0 h1 h2 v =
    let h = s.block in
    ap (λ q. with_row (naming V x) s p h (node.Def (number_of V.names x) h k q)) v.number
    ∙ ap (λ Y. with_row (naming Y x) s p h (node.Def (number_of Y.names x) h k (last (add s U b)))) v.parts
    ∙ ap (λ Z. let Y = add s Z b in with_row (naming Y x) s p h (node.Def (number_of Y.names x) h k (last Y))) h2
    ∙ ap (define_ending s x ps k b p) h1
    ∙ ap (λ q. define_ending q x ps k b p (with_row T (in_top (size T)) p (size T) node.Head)) h0

-- one definition more was added
pub def_step : (i : ℕ) (T U V : Parts) (xs : List Def) (d : Def) → i < length xs → U ≡ add (in_top 0) T (def_tree (get_or xs i d))
    → add (in_top 0) T (defs_tree (drop i xs)) ≡ V → add (in_top 0) U (defs_tree (drop (i + 1) xs)) ≡ V
def_step i T U V xs d l u w =
    ap (λ X. add (in_top 0) X (defs_tree (drop (i + 1) xs))) u ∙ sym (ap (λ ds. add (in_top 0) T (defs_tree ds)) (drop_more xs i d l)) ∙ w

abbrev loop_row_of : Expr → (n : Count) × Row_of-Stmt n
loop_row_of (Loop' place p test _ r last) = (_, r)
loop_row_of _ = (_, end_of-Stmt)

tree_of-loop : (place : ℕ) (b : Box Round Global)
    → tree_of (Loop place b) ≡ loop (tree_of b.value.test) (stmts_tree b.value.statements.items) (tree_of b.value.last) place
tree_of-loop place b =
    let row = loop_row_of (Loop place b) in
    ap (λ t. loop (tree_of b.value.test) t (tree_of b.value.last) place)
    (row_tree-items row.0 row.1 ∙ ap stmts_tree (items_hidden-the_row-Stmt-1 b.value.statements))

abbrev for_row_of : Expr → (n : Count) × Row_of-Stmt n
for_row_of (For' place p x q low high _ r last) = (_, r)
for_row_of _ = (_, end_of-Stmt)

tree_of-for : (place : ℕ) (b : Box Counted Global)
    → tree_of (For place b)
    ≡ for_loop b.value.name b.value.index (tree_of b.value.low) (tree_of b.value.high) (stmts_tree b.value.statements.items) (tree_of b.value.last) place
tree_of-for place b =
    let row = for_row_of (For place b) in
    ap (λ t. for_loop b.value.name b.value.index (tree_of b.value.low) (tree_of b.value.high) t (tree_of b.value.last) place)
    (row_tree-items row.0 row.1 ∙ ap stmts_tree (items_hidden-the_row-Stmt-1 b.value.statements))

pub next_step : (s : Stand) (k i : ℕ) (T U V : Parts) (xs : List Stmt) (x : List ℕ) (e : Expr) (p : ℕ) (d : Stmt) → i < length xs
    → get_or xs i d ≡ stmt.Next p x e → U ≡ add_next s k T x (tree_of e) p → add_nexts s k T (stmts_tree (drop i xs)) ≡ V
    → add_nexts s (k + 1) U (stmts_tree (drop (i + 1) xs)) ≡ V
next_step s k i T U V xs x e p d l is u w =
    let one : k + 1 ≡ suc k = omega arith in
    ap (λ n. add_nexts s n U (stmts_tree (drop (i + 1) xs))) one ∙ ap (λ X. add_nexts s (suc k) X (stmts_tree (drop (i + 1) xs))) u
    ∙ sym (ap (λ ss. add_nexts s k T (stmts_tree ss)) (drop_more xs i d l ∙ ap (λ y. y ∷ drop (i + 1) xs) is)) ∙ w

-- a number and the parts that it was added to, by other words for these
pub added_as : {E : Type 0} (r : Result ℕ E) (U V W : Parts) → V ≡ W → IfOk r (λ i. IsAdded i U V) → IfOk r (λ i. IsAdded i U W)
added_as r U V W h = IfOk-weaker r (λ i. IsAdded i U V) (λ i. IsAdded i U W) (λ i a. record { parts = a.parts ∙ h; number = a.number ∙ ap last h })

pub done_as : {E : Type 0} (r : Result (Unit {0}) E) (U V W : Parts) → V ≡ W → OnOk r (U ≡ V) → OnOk r (U ≡ W)
done_as r U V W h = on_ok_weaker r (λ w. w ∙ h)

-- the last row of each form, behind its parts
pub unary_row : (s : Stand) (T U : Parts) (o : UnaryOp) (a : Tree) (p f i : ℕ) → f ≡ size T → IsAdded i U (add s T a)
    → with_row U s p f (node.Unary o i) ≡ add s T (unary o a p)
unary_row s T U o a p f i h w =
    ap (λ q. with_row U s p q (node.Unary o i)) h ∙ ap (λ q. with_row U s p (size T) (node.Unary o q)) w.number
    ∙ ap (λ X. with_row X s p (size T) (node.Unary o (last (add s T a)))) w.parts

abbrev pair_ending : Stand → Pairing → Tree → Tree → ℕ → Parts → Parts
pair_ending s m a b p T =
    let U = add s T a in
    let V = add s U b in
    with_row V s p (size T) (pair_node m (last U) (last V))

pair_ends : (s : Stand) (m : Pairing) (a b : Tree) (p : ℕ) (T : Parts) → pair_ending s m a b p T ≡ add s T (pair_tree m a b p)
pair_ends s (pair.Binary o) a b p T = refl
pair_ends s (pair.Array nested) a b p T = refl
pair_ends s pair.Fetch a b p T = refl

pub pair_row : (s : Stand) (T U V : Parts) (m : Pairing) (a b : Tree) (n : Node) (p f i j : ℕ) → n ≡ pair_node m i j → f ≡ size T
    → IsAdded i U (add s T a) → IsAdded j V (add s U b) → with_row V s p f n ≡ add s T (pair_tree m a b p)
pair_row s T U V m a b n p f i j e h u v =
    let A = add s T a in
    ap (λ q. with_row V s p f q) e ∙ ap (λ q. with_row V s p q (pair_node m i j)) h
    ∙ ap (λ q. with_row V s p (size T) (pair_node m q j)) u.number ∙ ap (λ q. with_row V s p (size T) (pair_node m (last A) q)) v.number
    ∙ ap (λ X. with_row X s p (size T) (pair_node m (last A) (last (add s U b)))) v.parts
    ∙ ap (λ X. with_row (add s X b) s p (size T) (pair_node m (last A) (last (add s X b)))) u.parts ∙ pair_ends s m a b p T

abbrev conditional_tail : Stand → Tree → Tree → ℕ → ℕ → Stand → Parts → Parts
conditional_tail s x y p f b Y =
    let X = add b Y x in
    let Z = add (other_side b) X y in
    with_row Z s p f (node.If b.region.head (last X) (last Z))

pub conditional_row : (s b o : Stand) (T U W X Y : Parts) (t x y : Tree) (p f m k j : ℕ)
    → f ≡ size T → IsAdded m U (add s T t) → W ≡ with_row U s p f (node.Split m) → b ≡ arm s (size U) true → IsAdded k X (add b W x)
    → o ≡ other_side b → IsAdded j Y (add o X y) → with_row Y s p f (node.If b.region.head k j) ≡ add s T (conditional t x y p)
conditional_row s b o T U W X Y t x y p f m k j h0 u h1 h2 v h3 w =
    let A = add s T t in
    let B = add b W x in
    let n = b.region.head in
    ap (λ q. with_row Y s p f (node.If n k q)) w.number ∙ ap (λ q. with_row Y s p f (node.If n q (last (add o X y)))) v.number
    ∙ ap (λ Z. with_row Z s p f (node.If n (last B) (last (add o X y)))) w.parts
    ∙ ap (λ q. with_row (add q X y) s p f (node.If n (last B) (last (add q X y)))) h3
    ∙ ap (λ Z. with_row (add (other_side b) Z y) s p f (node.If n (last B) (last (add (other_side b) Z y)))) v.parts
    ∙ ap (λ q. conditional_tail s x y p f q W) h2
    ∙ ap (conditional_tail s x y p f (arm s (size U) true)) (h1 ∙ ap (λ q. with_row U s p f (node.Split q)) u.number)
    ∙ ap (λ Z. conditional_tail s x y p f (arm s (size Z) true) (with_row Z s p f (node.Split (last A)))) u.parts
    ∙ ap (λ q. conditional_tail s x y p q (arm s (size A) true) (with_row A s p q (node.Split (last A)))) h0

abbrev call_tail : Stand → Tree → ℕ → ℕ → Parts → Parts
call_tail s a p e E = with_row (add_arguments s p e 0 E a) s p e (node.Call e (count_of a))

pub call_row : (s : Stand) (T E U : Parts) (x : List ℕ) (es : List Expr) (p e c : ℕ)
    → e ≡ size T → E ≡ with_row (naming T x) s p (size T) (node.Enter (number_of T.names x)) → U ≡ add_arguments s p e 0 E (exprs_tree es)
    → c ≡ length es → with_row U s p e (node.Call e c) ≡ add s T (call x (exprs_tree es) p)
call_row s T E U x es p e c h0 h1 h2 h3 =
    ap (λ k. with_row U s p e (node.Call e k)) (h3 ∙ count-exprs es) ∙ ap (λ X. with_row X s p e (node.Call e (count_of (exprs_tree es)))) h2
    ∙ ap (call_tail s (exprs_tree es) p e) h1
    ∙ ap (λ k. call_tail s (exprs_tree es) p k (with_row (naming T x) s p (size T) (node.Enter (number_of T.names x)))) h0

pub argument_row : (s : Stand) (T U : Parts) (a : Tree) (p e i v : ℕ) → IsAdded v U (add s T a)
    → with_row U s p e (node.Arg e i v) ≡ add_argument s p e i T a
argument_row s T U a p e i v w =
    ap (λ q. with_row U s p e (node.Arg e i q)) w.number ∙ ap (λ X. with_row X s p e (node.Arg e i (last (add s T a)))) w.parts

pub block_row : (s : Stand) (T U V : Parts) (ss b : Tree) (p f i : ℕ) → f ≡ size T → U ≡ add s T ss → IsAdded i V (add s U b)
    → with_row V s p f (node.Block i) ≡ add s T (block ss b p)
block_row s T U V ss b p f i h u v =
    ap (λ q. with_row V s p q (node.Block i)) h ∙ ap (λ q. with_row V s p (size T) (node.Block q)) v.number
    ∙ ap (λ X. with_row X s p (size T) (node.Block (last (add s U b)))) v.parts
    ∙ ap (λ X. with_row (add s X b) s p (size T) (node.Block (last (add s X b)))) u

pub binding_row : (s : Stand) (T U : Parts) (x : List ℕ) (a : Tree) (p f i : ℕ) → f ≡ size T → IsAdded i U (add s T a)
    → with_row (naming U x) s p f (node.Binding (number_of U.names x) i) ≡ add s T (binding x a p)
binding_row s T U x a p f i h w =
    ap (λ q. with_row (naming U x) s p q (node.Binding (number_of U.names x) i)) h
    ∙ ap (λ q. with_row (naming U x) s p (size T) (node.Binding (number_of U.names x) q)) w.number
    ∙ ap (λ X. with_row (naming X x) s p (size T) (node.Binding (number_of X.names x) (last (add s T a)))) w.parts

abbrev store_tail : Stand → Tree → ℕ → ℕ → Parts → ℕ → Parts
store_tail s e p f Y k = let X = add s Y e in with_row X s p f (node.Store k (last X))

abbrev store_ending : Stand → Tree → Tree → ℕ → ℕ → ℕ → Parts → Parts
store_ending s x e p f i Y = let V = add s Y x in store_tail s e p f (with_row V s p f (node.Address i (last V))) (size V)

pub store_row : (s : Stand) (T U V W X : Parts) (t x e : Tree) (p f i j k v : ℕ)
    → f ≡ size T → IsAdded i U (add s T t) → IsAdded j V (add s U x) → W ≡ with_row V s p f (node.Address i j) → k ≡ size V
    → IsAdded v X (add s W e) → with_row X s p f (node.Store k v) ≡ add s T (store t x e p)
store_row s T U V W X t x e p f i j k v h0 u y h1 h2 z =
    ap (λ q. with_row X s p f (node.Store k q)) z.number ∙ ap (λ Y. with_row Y s p f (node.Store k (last (add s W e)))) z.parts
    ∙ ap (λ Y. store_tail s e p f Y k) h1 ∙ ap (store_tail s e p f (with_row V s p f (node.Address i j))) h2
    ∙ ap (λ q. store_tail s e p f (with_row V s p f (node.Address i q)) (size V)) y.number
    ∙ ap (λ Y. store_tail s e p f (with_row Y s p f (node.Address i (last (add s U x)))) (size Y)) y.parts
    ∙ ap (λ q. store_ending s x e p f q U) u.number ∙ ap (store_ending s x e p f (last (add s T t))) u.parts
    ∙ ap (λ q. store_ending s x e p q (last (add s T t)) (add s T t)) h0

abbrev next_ending : Stand → ℕ → Tree → ℕ → ℕ → ℕ → Parts → Parts
next_ending s i a p g m Y = let X = add s Y a in with_row X s p g (node.Next m i g (last X))

pub next_row : (s : Stand) (T E U : Parts) (x : List ℕ) (a : Tree) (p f n i k : ℕ)
    → f ≡ size T → E ≡ with_row (naming T x) s p (size T) (node.NextUse (number_of T.names x)) → n ≡ number_of T.names x
    → IsAdded k U (add s E a) → with_row U s p f (node.Next n i f k) ≡ add_next s i T x a p
next_row s T E U x a p f n i k h0 h1 h2 w =
    ap (λ q. with_row U s p f (node.Next n i f q)) w.number ∙ ap (λ X. with_row X s p f (node.Next n i f (last (add s E a)))) w.parts
    ∙ ap (next_ending s i a p f n) h1 ∙ ap (λ q. next_ending s i a p q n (with_row (naming T x) s p (size T) (node.NextUse (number_of T.names x)))) h0
    ∙ ap (λ q. next_ending s i a p (size T) q (with_row (naming T x) s p (size T) (node.NextUse (number_of T.names x)))) h2

-- the rows of the body of a loop, whose statements were added
pub body_row : (s : Stand) (W B N : Parts) (ss : Tree) (p r : ℕ) → B ≡ with_row W s p (size W) node.Turn → r ≡ size B
    → N ≡ add_statements s 0 r B ss p → N ≡ add_body s W ss p
body_row s W B N ss p r h0 h1 h2 =
    h2 ∙ ap (λ m. add_statements s 0 m B ss p) h1 ∙ ap (λ Y. add_statements s 0 (size Y) Y ss p) h0

-- those of the body of a `for`
pub counting_row : (s : Stand) (W I N : Parts) (x : List ℕ) (q : ℕ) (ss : Tree) (p r : ℕ) → IsAdded r I (begin_counting s W x q p)
    → N ≡ add_statements s 3 r I ss p → N ≡ add_counting s W x q ss p
counting_row s W I N x q ss p r u h =
    h ∙ ap (λ m. add_statements s 3 m I ss p) u.number ∙ ap (λ Y. add_statements s 3 (last (begin_counting s W x q p)) Y ss p) u.parts

-- those of a loop from the end of its body on
abbrev loop_tail : Stand → Tree → ℕ → ℕ → ℕ → Stand → Parts → Parts
loop_tail s l p f g o Y = let V = add o Y l in end_loop s o p f g (size Y) (last V) V

-- from its switches on
abbrev loop_ending : Stand → Tree → Tree → ℕ → ℕ → Stand → Parts → Parts
loop_ending s ss l p f b Y = loop_tail s l p f f (other_side b) (add_body b Y ss p)

-- from its predicate on
abbrev loop_rest : Stand → Tree → Tree → Tree → ℕ → ℕ → Stand → Parts → Parts
loop_rest s t ss l p f i Y =
    let V = add i Y t in
    loop_ending s ss l p f (arm i (size V) true) (with_row V i p (size Y) (node.Switches (last V)))

-- the rows of a loop, whose parts were added
pub loop_row : (s i b o : Stand) (T E U W D L : Parts) (t ss l : Tree) (p f g m r k : ℕ)
    → f ≡ size T → E ≡ begin_loop s T ss p → i ≡ in_top (size T + 1) → g ≡ size E → IsAdded m U (add i E t)
    → W ≡ with_row U i p g (node.Switches m) → b ≡ arm i (size U) true → D ≡ add_body b W ss p → o ≡ other_side b → r ≡ size D
    → IsAdded k L (add o D l) → end_loop s o p f f r k L ≡ add s T (loop t ss l p)
loop_row s i b o T E U W D L t ss l p f g m r k h0 h1 h2 h3 u h4 h5 h6 h7 h8 v =
    let high : size T + 1 ≡ suc (size T) = omega arith in
    ap (λ q. end_loop s o p f f r q L) v.number ∙ ap (λ Y. end_loop s o p f f r (last (add o D l)) Y) v.parts
    ∙ ap (λ q. end_loop s o p f f q (last (add o D l)) (add o D l)) h8
    ∙ ap (λ q. loop_tail s l p f f q D) h7 ∙ ap (loop_tail s l p f f (other_side b)) h6
    ∙ ap (λ q. loop_ending s ss l p f q W) h5
    ∙ ap (loop_ending s ss l p f (arm i (size U) true)) (h4 ∙ ap (λ q. with_row U i p q (node.Switches m)) h3
    ∙ ap (λ q. with_row U i p (size E) (node.Switches q)) u.number)
    ∙ ap (λ Y. loop_ending s ss l p f (arm i (size Y) true) (with_row Y i p (size E) (node.Switches (last (add i E t))))) u.parts
    ∙ ap (λ q. loop_rest s t ss l p f q E) (h2 ∙ ap in_top high) ∙ ap (loop_rest s t ss l p f (in_top (suc (size T)))) h1
    ∙ ap (λ q. loop_rest s t ss l p q (in_top (suc (size T))) (begin_loop s T ss p)) h0

-- those of a `for` from its switches on
abbrev for_ending : Stand → List ℕ → ℕ → Tree → Tree → ℕ → ℕ → ℕ → Stand → Parts → Parts
for_ending s x q ss l p f g b Y = loop_tail s l p f g (other_side b) (add_counting b Y x q ss p)

-- behind its bounds
abbrev for_rest : Stand → List ℕ → ℕ → Tree → Tree → ℕ → ℕ → Parts → Parts
for_rest s x q ss l p f Y =
    let W = begin_for s Y ss q p in
    for_ending s x q ss l p f (size Y) (arm (in_top (suc (size Y))) (last W) true) W

-- the rows of a `for`, whose parts were added
pub for_row : (s b o : Stand) (T U V A W D L : Parts) (x : List ℕ) (q : ℕ) (a c ss l : Tree) (p f g i j r k : ℕ)
    → f ≡ size T → IsAdded i U (add s T a) → IsAdded j V (add s U c) → A ≡ with_row V s p f (node.Bounds i j) → g ≡ size A
    → W ≡ begin_for s A ss q p → b ≡ arm (in_top (size A + 1)) (last W) true → D ≡ add_counting b W x q ss p → o ≡ other_side b → r ≡ size D
    → IsAdded k L (add o D l) → end_loop s o p f g r k L ≡ add s T (for_loop x q a c ss l p)
for_row s b o T U V A W D L x q a c ss l p f g i j r k h0 u v h1 h2 h3 h4 h5 h6 h7 w =
    let high : size A + 1 ≡ suc (size A) = omega arith in
    let C = add s U c in
    let Z = add s T a in
    let E = begin_for s A ss q p in
    ap (λ n. end_loop s o p f g r n L) w.number ∙ ap (λ Y. end_loop s o p f g r (last (add o D l)) Y) w.parts
    ∙ ap (λ n. end_loop s o p f g n (last (add o D l)) (add o D l)) h7
    ∙ ap (λ y. loop_tail s l p f g y D) h6 ∙ ap (loop_tail s l p f g (other_side b)) h5
    ∙ ap (λ y. for_ending s x q ss l p f g y W) (h4 ∙ ap (λ n. arm (in_top n) (last W) true) high)
    ∙ ap (λ Y. for_ending s x q ss l p f g (arm (in_top (suc (size A))) (last Y) true) Y) h3
    ∙ ap (λ n. for_ending s x q ss l p f n (arm (in_top (suc (size A))) (last E) true) E) h2
    ∙ ap (for_rest s x q ss l p f) h1
    ∙ ap (λ n. for_rest s x q ss l p f (with_row V s p f (node.Bounds i n))) v.number
    ∙ ap (λ Y. for_rest s x q ss l p f (with_row Y s p f (node.Bounds i (last C)))) v.parts
    ∙ ap (λ n. for_rest s x q ss l p f (with_row C s p f (node.Bounds n (last C)))) u.number
    ∙ ap (λ Y. for_rest s x q ss l p f (with_row (add s Y c) s p f (node.Bounds (last Z) (last (add s Y c))))) u.parts
    ∙ ap (λ n. for_rest s x q ss l p n (with_row (add s Z c) s p n (node.Bounds (last Z) (last (add s Z c))))) h0

-- one statement of a block more was added
pub statement_step : (s : Stand) (i : ℕ) (T U V : Parts) (xs : List Stmt) (d : Stmt) → i < length xs
    → U ≡ add s T (stmt_tree (get_or xs i d)) → add s T (stmts_tree (drop i xs)) ≡ V → add s U (stmts_tree (drop (i + 1) xs)) ≡ V
statement_step s i T U V xs d l u w =
    ap (λ X. add s X (stmts_tree (drop (i + 1) xs))) u ∙ sym (ap (λ ss. add s T (stmts_tree ss)) (drop_more xs i d l)) ∙ w

-- a statement of a loop that is no `next` is added as in a block
nexts_other : (s : Stand) (k : ℕ) (T : Parts) (r : Tree) (d : Stmt) → ((p : ℕ) (x : List ℕ) (e : Expr) → d ≡ stmt.Next p x e → ⊥)
    → add_nexts s k (add s T (stmt_tree d)) r ≡ add_nexts s k T (more (stmt_tree d) r)
nexts_other s k T r (stmt.Binding p x e) h = refl
nexts_other s k T r (stmt.Next p x e) h = absurd (h p x e refl)
nexts_other s k T r (stmt.Store' p q a b c) h = refl

pub other_step : (s : Stand) (k i : ℕ) (T U V : Parts) (xs : List Stmt) (d : Stmt) → i < length xs → d ≡ get_or xs i d
    → ((p : ℕ) (x : List ℕ) (e : Expr) → d ≡ stmt.Next p x e → ⊥) → U ≡ add s T (stmt_tree d)
    → add_nexts s k T (stmts_tree (drop i xs)) ≡ V → add_nexts s k U (stmts_tree (drop (i + 1) xs)) ≡ V
other_step s k i T U V xs d l is h u w =
    ap (λ X. add_nexts s k X (stmts_tree (drop (i + 1) xs))) u ∙ nexts_other s k T (stmts_tree (drop (i + 1) xs)) d h
    ∙ sym (ap (λ ss. add_nexts s k T (stmts_tree ss)) (drop_more xs i d l ∙ ap (λ y. y ∷ drop (i + 1) xs) (sym is))) ∙ w

-- the trees of what an expression holds, in its tree
pub call_tree : (e : Expr) (place : ℕ) (b : Box Passing Global) (v : Passing) → v ≡ b.value → e ≡ Call place b
    → call v.name (exprs_tree v.args.items) place ≡ tree_of e
call_tree e place b v h0 h1 =
    ap (λ x. call x.name (exprs_tree x.args.items) place) h0 ∙ sym (tree_of-call place b) ∙ ap tree_of (sym h1)

pub block_tree : (e : Expr) (place : ℕ) (b : Box Inner Global) (v : Inner) → v ≡ b.value → e ≡ Block place b
    → block (stmts_tree v.statements.items) (tree_of v.body) place ≡ tree_of e
block_tree e place b v h0 h1 =
    ap (λ x. block (stmts_tree x.statements.items) (tree_of x.body) place) h0 ∙ sym (tree_of-block place b) ∙ ap tree_of (sym h1)

pub loop_tree : (e : Expr) (place : ℕ) (b : Box Round Global) (v : Round) → v ≡ b.value → e ≡ Loop place b
    → loop (tree_of v.test) (stmts_tree v.statements.items) (tree_of v.last) place ≡ tree_of e
loop_tree e place b v h0 h1 =
    ap (λ x. loop (tree_of x.test) (stmts_tree x.statements.items) (tree_of x.last) place) h0 ∙ sym (tree_of-loop place b) ∙ ap tree_of (sym h1)

pub counted_tree : (e : Expr) (place : ℕ) (b : Box Counted Global) (v : Counted) → v ≡ b.value → e ≡ For place b
    → for_loop v.name v.index (tree_of v.low) (tree_of v.high) (stmts_tree v.statements.items) (tree_of v.last) place ≡ tree_of e
counted_tree e place b v h0 h1 =
    ap (λ x. for_loop x.name x.index (tree_of x.low) (tree_of x.high) (stmts_tree x.statements.items) (tree_of x.last) place) h0
    ∙ sym (tree_of-for place b) ∙ ap tree_of (sym h1)

pub unary_tree : (e : Expr) (o : UnaryOp) (place : ℕ) (b : Box Expr Global) (v : Expr) → v ≡ b.value → e ≡ Unary o place b
    → unary o (tree_of v) place ≡ tree_of e
unary_tree e o place b v h0 h1 = ap (λ x. unary o (tree_of x) place) h0 ∙ ap tree_of (sym h1)

pub binary_tree : (e : Expr) (o : BinaryOp) (place : ℕ) (b : Box Pair Global) (v : Pair) → v ≡ b.value → e ≡ Binary o place b
    → binary o (tree_of v.first) (tree_of v.second) place ≡ tree_of e
binary_tree e o place b v h0 h1 = ap (λ x. binary o (tree_of x.first) (tree_of x.second) place) h0 ∙ ap tree_of (sym h1)

pub array_tree : (nested : Bool) (e : Expr) (place : ℕ) (b : Box Pair Global) (v : Pair) → v ≡ b.value → e ≡ Array place nested b
    → array nested (tree_of v.first) (tree_of v.second) place ≡ tree_of e
array_tree nested e place b v h0 h1 = ap (λ x. array nested (tree_of x.first) (tree_of x.second) place) h0 ∙ ap tree_of (sym h1)

pub fetch_tree : (e : Expr) (place : ℕ) (b : Box Pair Global) (v : Pair) → v ≡ b.value → e ≡ Fetch place b
    → fetch (tree_of v.first) (tree_of v.second) place ≡ tree_of e
fetch_tree e place b v h0 h1 = ap (λ x. fetch (tree_of x.first) (tree_of x.second) place) h0 ∙ ap tree_of (sym h1)

pub conditional_tree : (e : Expr) (place : ℕ) (b : Box Triple Global) (v : Triple) → v ≡ b.value → e ≡ If place b
    → conditional (tree_of v.first) (tree_of v.second) (tree_of v.third) place ≡ tree_of e
conditional_tree e place b v h0 h1 =
    ap (λ x. conditional (tree_of x.first) (tree_of x.second) (tree_of x.third) place) h0 ∙ ap tree_of (sym h1)

pub store_tree : (s : Stmt) (place : ℕ) (b : Box Triple Global) (v : Triple) → v ≡ b.value → s ≡ stmt.Store place b
    → store (tree_of v.first) (tree_of v.second) (tree_of v.third) place ≡ stmt_tree s
store_tree s place b v h0 h1 =
    ap (λ x. store (tree_of x.first) (tree_of x.second) (tree_of x.third) place) h0 ∙ ap stmt_tree (sym h1)
