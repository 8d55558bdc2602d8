use Rattle.std.proofs.Common.{ℕ, IsUtf8, subst, sym, take}
use Rattle.id_graph.proofs.LooksLemmas.{word_utf8}
use Rattle.id_graph.proofs.looks.word.Goals as goal

pub from_utf8_unchecked-requires : goal.from_utf8_unchecked-requires
from_utf8_unchecked-requires c =
    let bytes = c.args.bytes.now in
    subst (λ (n : ℕ). IsUtf8 (take n bytes)) (sym c.name_len.ensures) (word_utf8 bytes)
