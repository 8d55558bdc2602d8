-- What a reader gives back: for the proof of `parse` alone.
use Rattle.std.specs.Prelude.{ℕ, List}
use Rattle.id_text.specs.declared.token.Token.{Token}
use Rattle.id_grammar.specs.declared.part.Part.{Part}
use Rattle.id_grammar.specs.declared.part.Statement.{Statement}
use Rattle.id_grammar.specs.declared.tokens.Tokens.{Tokens}
use Rattle.id_grammar.specs.declared.tree.TreeError.{TreeError}
use Rattle.id_grammar.specs.Tree.{Tree, tree_of, stmt_tree}
use Rattle.id_grammar.specs.Grammar.{Phrase}
use Rattle.id_grammar.specs.Readers.{IsRead, Leads, Fails}
use Rattle.id_tree.specs.declared.reader.Reader.{Reader}

-- the tokens that the reader is to read
abbrev pub text_of : Reader → List Token
text_of r = r.tokens.list.now

-- the reader has read a part of this height, and these tokens are left
abbrev pub HasRead : Reader → Tokens → ℕ → Type 0
HasRead r rest h = IsRead (text_of r) rest.list.now r.depth h

-- the reader has read a part, and of the tokens that are left, its tree and its height this is so
abbrev pub Finds : Reader → (List Token → Tree → ℕ → Type 0) → Part × Tokens → Type 0
Finds r P x = HasRead r x.1 x.0.height × P x.1.list.now (tree_of x.0.expr) x.0.height

-- the same of a statement
abbrev pub FindsStatement : Reader → (List Token → Tree → ℕ → Type 0) → Statement × Tokens → Type 0
FindsStatement r P x = HasRead r x.1 x.0.height × P x.1.list.now (stmt_tree x.0.stmt) x.0.height

-- the reader has read the phrase
abbrev pub Reads : Reader → Phrase → Part × Tokens → Type 0
Reads r s x = Finds r (Leads (text_of r) s r.depth) x

-- the reader refuses its tokens, since no such phrase comes
abbrev pub Refuses : Reader → Phrase → TreeError → Type 0
Refuses r s e = Fails (text_of r) s r.depth e
