-- Lemmas on specs/Own.antt: a program has one graph of its own.
use Rattle.std.proofs.Common.{◌≡◌, ◌<◌, ℕ, List, length, sym, ap, ◌∙◌, arith}
use Rattle.std.proofs.lemmas.List.{ext_get_or}
use Rattle.std.proofs.lemmas.Option.{unwrap_or-slice_get}
use Rattle.id_check.specs.declared.checked.Checked.{Checked}
use Rattle.id_check.specs.Programs.{rows}
use Rattle.id_desugar.specs.Regions.{order_of}
use Rattle.id_instr.specs.Graph.{Parts}
use Rattle.id_build.specs.Made.{AreFirsts, graph_by, number_by}
use Rattle.id_build.specs.Own.{IsOwn}

-- the numbers of first instructions are as the order says
pub one_firsts : (P : Checked) (order F E : List ℕ) → AreFirsts P order F → AreFirsts P order E → F ≡ E
one_firsts P order F E f e = ext_get_or 0 F E (f.many ∙ sym e.many) (λ n l.
    let within : n < length (rows P) = omega (arith, l, f.many) in
    let one : number_by F n 0 ≡ number_by E n 0 = f.at n within ∙ sym (e.at n within) in
    omega (arith, one, unwrap_or-slice_get F n 0, unwrap_or-slice_get E n 0))

pub one_own : (P : Checked) (G H : Parts) → IsOwn P G → IsOwn P H → G ≡ H
one_own P G H g h =
    g.is ∙ ap (graph_by P (order_of P)) (one_firsts P (order_of P) g.firsts h.firsts g.are_firsts h.are_firsts)
    ∙ sym h.is
