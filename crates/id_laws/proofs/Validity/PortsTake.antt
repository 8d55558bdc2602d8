-- Ports take values of the source: a port is one for values of a kind.
use Rattle.std.proofs.Common.{◌≡◌, Option, None, Some, unwrap_or, refl, ◌∙◌, ap}
use Rattle.id_value.specs.declared.Kind.{Kind}
use Rattle.id_value.specs.declared.Kind.TheVariants as kinds
use Rattle.id_value.specs.declared.Constant.{Constant}
use Rattle.id_value.specs.declared.Constant.TheVariants as constants
use Rattle.id_instr.specs.declared.instr.PortKind.{PortKind}
use Rattle.id_check.specs.declared.checked.Checked.{Checked}
use Rattle.id_source.specs.declared.SourceValue.{SourceValue}
use Rattle.id_source.specs.declared.SourceValue.TheVariants as source
use Rattle.id_source.specs.Sources.{IsOfKind, constant_kind, value_of}
use Rattle.id_build.specs.Rows.{port_of}

-- a port of this kind is one for values of the kind of this value
abbrev pub Takes : Checked → SourceValue → PortKind → Type 0
Takes P v k = (K : Kind) × IsOfKind P v (Some K) × (k ≡ port_of K)

pub same_kinds : {j k : Kind} → Some j ≡ Some k → j ≡ k
same_kinds e = cc

-- a constant is of its kind alone
pub constant_is_of : (P : Checked) (c : Constant) → IsOfKind P (value_of c) (Some (constant_kind c))
constant_is_of P (constants.Int n) = refl
constant_is_of P (constants.Bool b) = refl

pub constant_of_kind : (P : Checked) (c : Constant) (k : Kind) → IsOfKind P (value_of c) (Some k)
    → k ≡ constant_kind c
constant_of_kind P (constants.Int n) k h = same_kinds h
constant_of_kind P (constants.Bool b) k h = same_kinds h

-- what takes a constant is of its kind
pub takes_constant : (P : Checked) {k : PortKind} (c : Constant) → Takes P (value_of c) k
    → k ≡ port_of (constant_kind c)
takes_constant P c h = h.2 ∙ ap port_of (constant_of_kind P c h.0 h.1)

-- a value has one of the kinds
none_is : {A : Type 0} {k : Kind} → None ≡ Some k → A
none_is e = absurd (no e)
  where
    no : {k : Kind} → None ≡ Some k → ⊥
    no e = cc

no_kind : {A : Type 0} (P : Checked) (v : SourceValue) → IsOfKind P v None → A
no_kind P (source.Int n) h = none_is h
no_kind P (source.Bool b) h = none_is h
no_kind P (source.Name s) h = none_is h.kind

-- so what is for values of its kind takes it
pub takes_of_kind : (P : Checked) (v : SourceValue) (o : Option Kind) → IsOfKind P v o
    → Takes P v (port_of (unwrap_or o kinds.Int))
takes_of_kind P v None h = no_kind P v h
takes_of_kind P v (Some k) h = (k, h, refl)
