use Rattle.std.proofs.Common.{◌∙◌, ap, sym}
use Rattle.id_instr.specs.Held.{address_kind, structure_kind}
use Rattle.id_tag.specs.Kinds.{kind_of}
use Rattle.id_tag.specs.Plains.{high_of, low_of, whole}
use Rattle.id_tag.proofs.plain.Plain.kind.Goals as goal

-- src/plain.rt:150:5
pub returns-in-Structure : goal.returns-in-Structure
returns-in-Structure c =
    let s = c.in-Structure in
    c.of_structure.ensures ∙ ap structure_kind (c.is_nested.ensures s.field-1 s.field-2)
    ∙ ap (λ v. kind_of (whole v)) (sym s.is)

-- src/plain.rt:150:5
pub returns-in-Address : goal.returns-in-Address
returns-in-Address c =
    let s = c.in-Address in
    c.of_address.ensures ∙ ap address_kind (c.is_nested-in-Address.ensures (low_of s.field-1) (high_of s.field-1))
    ∙ ap (λ v. kind_of (whole v)) (sym s.is)
