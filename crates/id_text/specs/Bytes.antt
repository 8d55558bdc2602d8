-- Kinds of bytes, and the bytes of words and signs (docs/LANGUAGE.md, "Tokens").
use Rattle.std.specs.Prelude.{ℕ, ◌+◌, ◌-◌, ◌*◌, Bool, true, false, ◌||◌, ◌==◌, not, List, fold}
use Rattle.std.specs.Prelude.{codes}
use Rattle.std.specs.Char.{is_ascii_alphabetic, is_ascii_digit}
use Rattle.id_text.specs.declared.token.Keyword.{Keyword}
use Rattle.id_text.specs.declared.token.Keyword.TheVariants.{Def, If, Then, Else, While, Do, Next, Finally, In, True}
use Rattle.id_text.specs.declared.token.Keyword.TheVariants.{False, Int, Bool as BoolWord, Array, Div, Rem, And, Or}
use Rattle.id_text.specs.declared.token.Keyword.TheVariants.{Not, For, To}
use Rattle.id_text.specs.declared.token.Symbol.{Symbol}
use Rattle.id_text.specs.declared.token.Symbol.TheVariants.{LeftParen, RightParen, LeftBrace, RightBrace, LeftBracket}
use Rattle.id_text.specs.declared.token.Symbol.TheVariants.{RightBracket, Comma, Semicolon, Colon, Becomes, Equal}
use Rattle.id_text.specs.declared.token.Symbol.TheVariants.{NotEqual, Less, LessEqual, Greater, GreaterEqual, Arrow}
use Rattle.id_text.specs.declared.token.Symbol.TheVariants.{Plus, Minus, Star}

-- the byte is a space, a tab, CR or LF
abbrev pub is_blank : ℕ → Bool
is_blank b = ((b == 32) || (b == 9)) || ((b == 13) || (b == 10))

-- the byte is `%`, which begins a comment
abbrev pub is_percent : ℕ → Bool
is_percent b = b == 37

-- the byte goes on a comment: it is not LF
abbrev pub is_comment_byte : ℕ → Bool
is_comment_byte b = not (b == 10)

-- the byte is a letter or `_`
abbrev pub is_letter : ℕ → Bool
is_letter b = is_ascii_alphabetic b || (b == 95)

-- the byte goes on a name: it is a letter, `_` or a digit
abbrev pub is_name_byte : ℕ → Bool
is_name_byte b = is_letter b || is_ascii_digit b

-- the byte is no blank, no `%`, no letter, no `_` and no digit
abbrev pub is_other : ℕ → Bool
is_other b = not ((is_blank b || is_percent b) || is_name_byte b)

-- the number that the digits spell, in base ten
abbrev pub number_of : List ℕ → ℕ
number_of digits = fold (λ n digit. 10 * n + (digit - 48)) 0 digits

-- how a reserved word is spelled
abbrev pub word_of : Keyword → List ℕ
word_of Def = codes "def"
word_of If = codes "if"
word_of Then = codes "then"
word_of Else = codes "else"
word_of While = codes "while"
word_of Do = codes "do"
word_of Next = codes "next"
word_of Finally = codes "finally"
word_of In = codes "in"
word_of True = codes "true"
word_of False = codes "false"
word_of Int = codes "int"
word_of BoolWord = codes "bool"
word_of Array = codes "array"
word_of Div = codes "div"
word_of Rem = codes "rem"
word_of And = codes "and"
word_of Or = codes "or"
word_of Not = codes "not"
word_of For = codes "for"
word_of To = codes "to"

-- how a sign is spelled
abbrev pub sign_of : Symbol → List ℕ
sign_of LeftParen = codes "("
sign_of RightParen = codes ")"
sign_of LeftBrace = codes "{"
sign_of RightBrace = codes "}"
sign_of LeftBracket = codes "["
sign_of RightBracket = codes "]"
sign_of Comma = codes ","
sign_of Semicolon = codes ";"
sign_of Colon = codes ":"
sign_of Becomes = codes "="
sign_of Equal = codes "=="
sign_of NotEqual = codes "<>"
sign_of Less = codes "<"
sign_of LessEqual = codes "<="
sign_of Greater = codes ">"
sign_of GreaterEqual = codes ">="
sign_of Arrow = codes "<-"
sign_of Plus = codes "+"
sign_of Minus = codes "-"
sign_of Star = codes "*"
