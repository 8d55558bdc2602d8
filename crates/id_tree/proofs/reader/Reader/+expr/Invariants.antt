-- Each call goes one expression deeper, or to a reader of a lower rank at the same depth.
use Rattle.std.proofs.Common.{◌+◌, ◌-◌, ◌*◌, length}
use Rattle.id_grammar.specs.Readers.{Gathers, IsGathered, Hands, Rises}
use Rattle.id_grammar.specs.Tree.{tree_of}
use Rattle.id_tree.specs.Reading.{text_of, HasRead}
use Rattle.id_tree.proofs.ArrayLemmas.{Pointed}
use Rattle.id_tree.proofs.reader.Reader.+expr.Given as goal

abbrev pub decreases-parse_parens : goal.decreases-parse_parens
decreases-parse_parens l = (200 - l.self.depth) * 32

abbrev pub decreases-parse_prefixed : goal.decreases-parse_prefixed
decreases-parse_prefixed l = (200 - l.self.depth) * 32

abbrev pub decreases-parse_right : goal.decreases-parse_right
decreases-parse_right l = (200 - l.self.depth) * 32

abbrev pub decreases-parse_block : goal.decreases-parse_block
decreases-parse_block l = (200 - l.self.depth) * 32

abbrev pub decreases-parse_loop : goal.decreases-parse_loop
decreases-parse_loop l = (200 - l.self.depth) * 32

abbrev pub decreases-parse_for : goal.decreases-parse_for
decreases-parse_for l = (200 - l.self.depth) * 32

abbrev pub decreases-parse_index : goal.decreases-parse_index
decreases-parse_index l = (200 - l.self.depth) * 32 + 19

abbrev pub decreases-parse_braces : goal.decreases-parse_braces
decreases-parse_braces l = (200 - l.self.depth) * 32 + 1

abbrev pub decreases-parse_conditional : goal.decreases-parse_conditional
decreases-parse_conditional l = (200 - l.self.depth) * 32

abbrev pub decreases-parse_unary : goal.decreases-parse_unary
decreases-parse_unary l = (200 - l.self.depth) * 32 + 5

abbrev pub decreases-parse_signed : goal.decreases-parse_signed
decreases-parse_signed l = (200 - l.self.depth) * 32 + 4

abbrev pub decreases-parse_postfix : goal.decreases-parse_postfix
decreases-parse_postfix l = (200 - l.self.depth) * 32 + 3

abbrev pub decreases-parse_fetch : goal.decreases-parse_fetch
decreases-parse_fetch l = (200 - l.self.depth) * 32

abbrev pub decreases-parse_atom : goal.decreases-parse_atom
decreases-parse_atom l = (200 - l.self.depth) * 32 + 2

abbrev pub decreases-parse_array : goal.decreases-parse_array
decreases-parse_array l = (200 - l.self.depth) * 32

abbrev pub decreases-parse_operand : goal.decreases-parse_operand
decreases-parse_operand l = (200 - l.self.depth) * 32 + 9

abbrev pub decreases-parse_first : goal.decreases-parse_first
decreases-parse_first l = (200 - l.self.depth) * 32 + 6

abbrev pub decreases-parse_grouped : goal.decreases-parse_grouped
decreases-parse_grouped l = (200 - l.self.depth) * 32 + 7

abbrev pub decreases-parse_negation : goal.decreases-parse_negation
decreases-parse_negation l = (200 - l.self.depth) * 32 + 8

abbrev pub decreases-parse_expression : goal.decreases-parse_expression
decreases-parse_expression l = (200 - l.self.depth) * 32 + 17

abbrev pub decreases-parse_enclosed : goal.decreases-parse_enclosed
decreases-parse_enclosed l = (200 - l.self.depth) * 32 + 18

abbrev pub decreases-parse_next : goal.decreases-parse_next
decreases-parse_next l = (200 - l.self.depth) * 32 + 20

abbrev pub decreases-parse_stored : goal.decreases-parse_stored
decreases-parse_stored l = (200 - l.self.depth) * 32 + 20

abbrev pub decreases-parse_store : goal.decreases-parse_store
decreases-parse_store l = (200 - l.self.depth) * 32 + 21

abbrev pub decreases-parse_statement : goal.decreases-parse_statement
decreases-parse_statement l = (200 - l.self.depth) * 32 + 22

abbrev pub decreases-parse_statements : goal.decreases-parse_statements
decreases-parse_statements l = (200 - l.self.depth) * 32 + 23

abbrev pub decreases-parse_leaf : goal.decreases-parse_leaf
decreases-parse_leaf l = (200 - l.self.depth) * 32 + 1

abbrev pub decreases-parse_named : goal.decreases-parse_named
decreases-parse_named l = (200 - l.self.depth) * 32

abbrev pub decreases-parse_some_arguments : goal.decreases-parse_some_arguments
decreases-parse_some_arguments l = (200 - l.self.depth) * 32 + 19

abbrev pub decreases-parse_arguments : goal.decreases-parse_arguments
decreases-parse_arguments l = (199 - l.self.depth) * 32 + 20

-- arguments have come, and the call is open
abbrev pub invariant-parse_some_arguments-arguments : goal.invariant-parse_some_arguments-arguments
invariant-parse_some_arguments-arguments l = HasRead l.fn.self l.rest l.args.height × Hands (text_of l.fn.self) l.fn.self.depth l.rest.list.now l.args.list.items l.args.height

abbrev pub decreases-parse_some_arguments-arguments : goal.decreases-parse_some_arguments-arguments
decreases-parse_some_arguments-arguments l = length l.rest.list.now

-- what may be the target of a fetch has come
abbrev pub invariant-parse_postfix-fetches : goal.invariant-parse_postfix-fetches
invariant-parse_postfix-fetches l =
    HasRead l.fn.self l.tokens l.target.height × Pointed (text_of l.fn.self) l.fn.self.depth l.tokens.list.now (tree_of l.target.expr) l.target.height

abbrev pub decreases-parse_postfix-fetches : goal.decreases-parse_postfix-fetches
decreases-parse_postfix-fetches l = length l.tokens.list.now

-- an operand has come, and the levels round it are open
abbrev pub invariant-parse_grouped-operators : goal.invariant-parse_grouped-operators
invariant-parse_grouped-operators l =
    HasRead l.fn.self l.tokens l.left.height × Rises (text_of l.fn.self) l.level l.fn.self.depth l.inner l.tokens.list.now (tree_of l.left.expr) l.left.height

abbrev pub decreases-parse_grouped-operators : goal.decreases-parse_grouped-operators
decreases-parse_grouped-operators l = length l.tokens.list.now

-- statements have come, and the block or the loop is open
abbrev pub invariant-parse_statements-stmts : goal.invariant-parse_statements-stmts
invariant-parse_statements-stmts l = IsGathered (text_of l.fn.self) l.tokens.list.now l.fn.self.depth l.statements.height ×
    Gathers (text_of l.fn.self) l.scope l.fn.self.depth l.tokens.list.now l.statements.list.items l.statements.height

abbrev pub decreases-parse_statements-stmts : goal.decreases-parse_statements-stmts
decreases-parse_statements-stmts l = length l.tokens.list.now

abbrev pub decreases-parse_between : goal.decreases-parse_between
decreases-parse_between l = (200 - l.self.depth) * 32 + 19
