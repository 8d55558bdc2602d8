-- Which trees are those of programs (docs/LANGUAGE.md, "Grammar").
use Rattle.std.specs.Prelude.{ℕ, Bool, List}
use Rattle.id_value.specs.declared.Kind.{Kind}
use Rattle.id_value.specs.declared.Constant.{Constant}
use Rattle.id_value.specs.declared.UnaryOp.{UnaryOp}
use Rattle.id_value.specs.declared.BinaryOp.{BinaryOp}
use Rattle.id_grammar.specs.Tree.{Tree, literal, unary, binary, name, conditional, call, block, binding, param, define}
use Rattle.id_grammar.specs.Tree.{none, more, loop, next, array, fetch, store, for_loop}

-- what a tree can be the tree of
pub data Sort : Type 0 where
  Expression : Sort
  Arguments : Sort
  Statements : Sort
  Params : Sort
  Defs : Sort

-- the tree is one of this sort
pub data IsTree : Sort → Tree → Type 0 where
  by_literal : {v : Constant} {p : ℕ} → IsTree Expression (literal v p)
  by_unary : {o : UnaryOp} {a : Tree} {p : ℕ} → IsTree Expression a → IsTree Expression (unary o a p)
  by_binary : {o : BinaryOp} {a b : Tree} {p : ℕ} → IsTree Expression a → IsTree Expression b
      → IsTree Expression (binary o a b p)
  by_name : {x : List ℕ} {p : ℕ} → IsTree Expression (name x p)
  by_conditional : {t x y : Tree} {p : ℕ} → IsTree Expression t → IsTree Expression x → IsTree Expression y
      → IsTree Expression (conditional t x y p)
  by_call : {x : List ℕ} {a : Tree} {p : ℕ} → IsTree Arguments a → IsTree Expression (call x a p)
  by_loop : {t ss l : Tree} {p : ℕ} → IsTree Expression t → IsTree Statements ss → IsTree Expression l
      → IsTree Expression (loop t ss l p)
  by_for : {x : List ℕ} {a b ss l : Tree} {q p : ℕ} → IsTree Expression a → IsTree Expression b
      → IsTree Statements ss → IsTree Expression l
      → IsTree Expression (for_loop x q a b ss l p)
  by_array : {nested : Bool} {a b : Tree} {p : ℕ} → IsTree Expression a → IsTree Expression b
      → IsTree Expression (array nested a b p)
  by_fetch : {t i : Tree} {p : ℕ} → IsTree Expression t → IsTree Expression i → IsTree Expression (fetch t i p)
  by_block : {ss b : Tree} {p : ℕ} → IsTree Statements ss → IsTree Expression b
      → IsTree Expression (block ss b p)
  no_arguments : IsTree Arguments none
  more_arguments : {a b : Tree} → IsTree Expression a → IsTree Arguments b → IsTree Arguments (more a b)
  no_statements : IsTree Statements none
  more_statements : {x : List ℕ} {a ss : Tree} {p : ℕ} → IsTree Expression a → IsTree Statements ss
      → IsTree Statements (more (binding x a p) ss)
  next_statement : {x : List ℕ} {a ss : Tree} {p : ℕ} → IsTree Expression a → IsTree Statements ss
      → IsTree Statements (more (next x a p) ss)
  store_statement : {t i e ss : Tree} {p : ℕ} → IsTree Expression t → IsTree Expression i → IsTree Expression e
      → IsTree Statements ss
      → IsTree Statements (more (store t i e p) ss)
  no_params : IsTree Params none
  more_params : {x : List ℕ} {k : Kind} {ps : Tree} {p : ℕ} → IsTree Params ps
      → IsTree Params (more (param x k p) ps)
  no_defs : IsTree Defs none
  more_defs : {x : List ℕ} {k : Kind} {ps b ds : Tree} {p : ℕ} → IsTree Params ps → IsTree Expression b
      → IsTree Defs ds
      → IsTree Defs (more (define x ps k b p) ds)

-- the tree is one of a program
abbrev pub IsProgramTree : Tree → Type 0
IsProgramTree t = IsTree Defs t
