use Rattle.std.proofs.Common.{◌+◌, ◌<◌, ◌≤◌, [], ◌∷◌, ◌++◌, length, Some, refl, sym, ap, ◌∙◌, append-nil, arith}
use Rattle.id_text.specs.Lexes.{token_of}
use Rattle.id_text.proofs.LexesLemmas.{piece_fits}
use Rattle.id_text.proofs.lexer.read_on.Goals as goal
use Rattle.id_text.proofs.lexer.read_on.Goals.{In_ok-piece}

-- the piece ends within the text
fits : (c : In_ok-piece) → (0 < c.in_ok-piece.piece.len) × (c.args.at + c.in_ok-piece.piece.len ≤ length c.args.text.now)
fits c = piece_fits c.args.text.now c.args.at _ _ (omega (arith, c.requires.before_end)) c.in_ok-piece.ensures

pub overflow_add-stop : goal.overflow_add-stop
overflow_add-stop c = omega (arith, fits (goal.at.overflow_add-stop c).In_ok-piece)

pub overflow_cast-stop : goal.overflow_cast-stop
overflow_cast-stop c = omega (arith, fits (goal.at.overflow_cast-stop c).In_ok-piece, c.requires.fits)

pub returns-in_ok-push : goal.returns-in_ok-push
returns-in_ok-push c = (
  Some c.in-Some.kind,
  c.in_ok-piece.piece.len,
  rw c.in-Some.is at c.in_ok-piece.ensures,
  refl,
  c.in_ok-push.ensures.items
      ∙ ap (λ k. c.args.tokens.now.items ++ token_of k c.args.at (c.args.at + c.in_ok-piece.piece.len) ∷ []) c.in-Some.kind-is,
)

pub returns-in_default : goal.returns-in_default
returns-in_default c =
    (_, c.in_ok-piece.piece.len, c.in_ok-piece.ensures, refl, rw c.in_default.is (sym (append-nil c.args.tokens.now.items)))
