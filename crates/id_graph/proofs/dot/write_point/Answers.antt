use Rattle.std.proofs.Common.{◌≡◌, ℕ, List, ◌++◌, OnOk, codes, string_bytes, subst}
use Rattle.std.specs.Fmt.{decimal}
use Rattle.id_graph.proofs.DotLemmas.{five_joined}
use Rattle.id_graph.proofs.dot.write_point.Goals as goal

pub returns : goal.returns
returns c =
    subst (λ (b : List ℕ). OnOk c.write.result (string_bytes c.write.new.self ≡ string_bytes c.args.out.now ++ b))
    (five_joined (codes "<0>\", xlabel=\"") (decimal c.args.number) (codes " ") c.args.name.now
    (codes "\", shape=Mrecord, style=filled, color=black, fixedsize=true, width=0.1, height=0.1")) c.write.ensures.bytes
