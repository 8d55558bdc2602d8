-- The code of what waits, by which models that hold a store tell stores apart.
use Rattle.std.specs.Prelude.{refl}
use Rattle.std.specs.Coded.{Coded, code_by, coded×}
use Rattle.std.specs.FinMap as map
use Rattle.id_instr.specs.declared.dests.Port.{Port}
use Rattle.id_tag.specs.declared.Value.{Value}
use Rattle.id_tag.specs.Tags.{tag_cmp}
use Rattle.id_tag.specs.Codes.{coded_tag, coded_port, coded_value}
use Rattle.id_match.specs.declared.meeting.Half.{Half}

-- what waits as the pair of its port and its value
abbrev pub coded_half : Coded Half
coded_half = code_by (Port × Value) (coded× coded_port coded_value) (λ h. (h.port, h.value))
    (λ p. record { port = p.0; value = p.1 }) (λ _. refl)

-- a store as its entries
abbrev pub coded_store : Coded (map.FinMap tag_cmp Half)
coded_store = map.code coded_tag coded_half
