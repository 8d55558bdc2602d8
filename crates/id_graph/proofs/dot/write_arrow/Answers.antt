use Rattle.std.proofs.Common.{◌≡◌, ℕ, List, ◌++◌, OnOk, codes, string_bytes, subst}
use Rattle.std.specs.Fmt.{decimal}
use Rattle.id_graph.specs.Listing.{port_number}
use Rattle.id_graph.proofs.DotLemmas.{ten_joined}
use Rattle.id_graph.proofs.dot.write_arrow.Goals as goal

pub returns : goal.returns
returns c =
    let a = c.args in
    let wrote = rw c.port_number.ensures at c.writeln.ensures.bytes in
    subst (λ (b : List ℕ). OnOk c.writeln.result (string_bytes c.writeln.new.self ≡ string_bytes a.out.now ++ b))
    (ten_joined (decimal a.number) a.field.now (codes " -> ") (decimal a.dest.instr) (codes ":") (decimal (port_number a.dest.port)) (codes " [style=")
    a.style.now a.looks.now (codes "];\n")) wrote
