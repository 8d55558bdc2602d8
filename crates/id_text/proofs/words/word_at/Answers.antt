use Rattle.std.proofs.Common.{◌∙◌, ap, ◌≡◌, drop, arith}
use Rattle.std.specs.List.{prefix_len}
use Rattle.id_text.specs.Bytes.{is_name_byte}
use Rattle.id_text.proofs.WordsLemmas.{word_fits, word_boundary}
use Rattle.id_text.proofs.words.word_at.Goals as goal
use Rattle.id_text.proofs.words.word_at.Goals.{After-name_len-len}
use Rattle.std.proofs.lemmas.List.{take_rest}

-- `name_len` counts the bytes of the word
len_is : (c : After-name_len-len) → c.name_len-len.result ≡ prefix_len is_name_byte (drop c.args.at c.args.text.now)
len_is c = rw (← c.as_bytes.ensures.value) (c.name_len-len.ensures ∙ ap (prefix_len is_name_byte) (take_rest c.as_bytes.result.now c.args.at))

pub overflow_add-at : goal.overflow_add-at
overflow_add-at c = omega (arith, len_is c, word_fits c.args.text.now c.args.at c.requires.before_end)

pub range-requires-clause-end_boundary : goal.range-requires-clause-end_boundary
range-requires-clause-end_boundary c =
    rw (len_is c) (word_boundary c.args.text.now c.args.at c.utf8.text c.requires.before_end c.requires.letter)
