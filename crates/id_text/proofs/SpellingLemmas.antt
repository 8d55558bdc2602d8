-- No two reserved words are spelled alike, and no two signs.
use Rattle.std.proofs.Common.{◌≡◌, ℕ, List, [], ◌∷◌, ◌++◌, Option, Some, None, cond, refl, sym, ap, ◌∙◌}
use Rattle.std.specs.Str.{bytes_eq}
use Rattle.id_text.specs.Bytes.{is_other, word_of, sign_of}
use Rattle.id_text.specs.Lexes.{Opens}
use Rattle.id_text.specs.declared.token.Keyword.{Keyword}
use Rattle.id_text.specs.declared.token.Keyword.TheVariants.{Def, If, Then, Else, While, Do, Next, Finally, In, True}
use Rattle.id_text.specs.declared.token.Keyword.TheVariants.{False, Int, Bool as BoolWord, Array, Div, Rem, And, Or}
use Rattle.id_text.specs.declared.token.Keyword.TheVariants.{Not, For, To}
use Rattle.id_text.specs.declared.token.Symbol.{Symbol}
use Rattle.id_text.specs.declared.token.Symbol.TheVariants.{LeftParen, RightParen, LeftBrace, RightBrace, LeftBracket}
use Rattle.id_text.specs.declared.token.Symbol.TheVariants.{RightBracket, Comma, Semicolon, Colon, Becomes, Equal}
use Rattle.id_text.specs.declared.token.Symbol.TheVariants.{NotEqual, Less, LessEqual, Greater, GreaterEqual, Arrow}
use Rattle.id_text.specs.declared.token.Symbol.TheVariants.{Plus, Minus, Star}

-- the first of the things that is spelled so
abbrev first_spelled : {K : Type 0} → (K → List ℕ) → List ℕ → List K → Option K
first_spelled spelling w [] = None
first_spelled spelling w (k ∷ ks) = cond (bytes_eq (spelling k) w) (Some k) (first_spelled spelling w ks)

abbrev all_words : List Keyword
all_words = Def ∷ If ∷ Then ∷ Else ∷ While ∷ Do ∷ Next ∷ Finally ∷ In ∷ True ∷ False ∷ Int ∷ BoolWord ∷ Array ∷ Div ∷ Rem ∷ And ∷ Or ∷ Not ∷ For ∷ To ∷ []

abbrev all_signs : List Symbol
all_signs = LeftParen ∷ RightParen ∷ LeftBrace ∷ RightBrace ∷ LeftBracket ∷ RightBracket ∷ Comma ∷ Semicolon ∷ Colon ∷ Becomes ∷ Equal ∷ NotEqual ∷ Less ∷
    LessEqual ∷ Greater ∷ GreaterEqual ∷ Arrow ∷ Plus ∷ Minus ∷ Star ∷ []

word_found : (k : Keyword) → first_spelled word_of (word_of k) all_words ≡ Some k
word_found Def = refl
word_found If = refl
word_found Then = refl
word_found Else = refl
word_found While = refl
word_found Do = refl
word_found Next = refl
word_found Finally = refl
word_found In = refl
word_found True = refl
word_found False = refl
word_found Int = refl
word_found BoolWord = refl
word_found Array = refl
word_found Div = refl
word_found Rem = refl
word_found And = refl
word_found Or = refl
word_found Not = refl
word_found For = refl
word_found To = refl

sign_found : (s : Symbol) → first_spelled sign_of (sign_of s) all_signs ≡ Some s
sign_found LeftParen = refl
sign_found RightParen = refl
sign_found LeftBrace = refl
sign_found RightBrace = refl
sign_found LeftBracket = refl
sign_found RightBracket = refl
sign_found Comma = refl
sign_found Semicolon = refl
sign_found Colon = refl
sign_found Becomes = refl
sign_found Equal = refl
sign_found NotEqual = refl
sign_found Less = refl
sign_found LessEqual = refl
sign_found Greater = refl
sign_found GreaterEqual = refl
sign_found Arrow = refl
sign_found Plus = refl
sign_found Minus = refl
sign_found Star = refl

pub same_some : {K : Type 0} (k l : K) → Some k ≡ Some l → k ≡ l
same_some k l e = cc

pub word_of_same : (k l : Keyword) → word_of k ≡ word_of l → k ≡ l
word_of_same k l same = same_some k l (sym (word_found k) ∙ ap (λ w. first_spelled word_of w all_words) same ∙ word_found l)

pub sign_of_same : (s t : Symbol) → sign_of s ≡ sign_of t → s ≡ t
sign_of_same s t same = same_some s t (sym (sign_found s) ∙ ap (λ w. first_spelled sign_of w all_signs) same ∙ sign_found t)

-- the first byte of a sign begins nothing else
pub is_other_sign : (s : Symbol) (rest : List ℕ) → Opens is_other (sign_of s ++ rest)
is_other_sign LeftParen rest = refl
is_other_sign RightParen rest = refl
is_other_sign LeftBrace rest = refl
is_other_sign RightBrace rest = refl
is_other_sign LeftBracket rest = refl
is_other_sign RightBracket rest = refl
is_other_sign Comma rest = refl
is_other_sign Semicolon rest = refl
is_other_sign Colon rest = refl
is_other_sign Becomes rest = refl
is_other_sign Equal rest = refl
is_other_sign NotEqual rest = refl
is_other_sign Less rest = refl
is_other_sign LessEqual rest = refl
is_other_sign Greater rest = refl
is_other_sign GreaterEqual rest = refl
is_other_sign Arrow rest = refl
is_other_sign Plus rest = refl
is_other_sign Minus rest = refl
is_other_sign Star rest = refl
