use Rattle.id_text.specs.Bytes.{is_letter}
use Rattle.id_text.proofs.PieceLemmas.{opens_at, begins_word, begins_name}
use Rattle.id_text.proofs.lexer.read_word.Goals as goal
use Rattle.id_text.proofs.lexer.read_word.Goals.{in-Some, in-None+in_ok-new-in-None}

pub returns : goal.returns
returns c =
    let opens = opens_at is_letter c.args.text.now c.args.at c.requires.before_end c.requires.letter in
    let run = c.word_at-word.ensures in
    elim c.match-keyword_of.branch [
      | in-Some w ↦ rw w.kind-is (begins_word _ _ w.in-Some.keyword opens run w.in-Some.ensures)
      | in-None+in_ok-new-in-None w ↦ rw (w.kind-is, w.in_ok-new-in-None.ensures) (begins_name _ _ opens run w.in-None.ensures)
    ]
