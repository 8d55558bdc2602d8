-- Values of the source that tokens stand for, and their kinds; rows that are their own labels.
use Rattle.std.proofs.Common.{◌≡◌, ℕ, Bool as Truth, true, false, cond, List, Option, Some, refl, sym, ◌∙◌, ap}
use Rattle.id_value.specs.declared.Kind.{Kind}
use Rattle.id_value.specs.Kinds.{array_kind}
use Rattle.id_value.specs.declared.Constant.{Constant}
use Rattle.id_value.specs.declared.Outcome.{Outcome}
use Rattle.id_value.specs.declared.Outcome.TheVariants.{Gives}
use Rattle.id_table.specs.declared.row.Node.{Node}
use Rattle.id_table.specs.declared.row.Node.TheVariants.{Array, Next, Index}
use Rattle.id_table.specs.Tables.{is_expression, is_index, is_next, is_thing}
use Rattle.id_check.specs.declared.checked.Checked.{Checked}
use Rattle.id_instr.specs.declared.instr.PortKind.{PortKind}
use Rattle.id_instr.specs.declared.instr.PortKind.TheVariants as kinds
use Rattle.id_instr.specs.Held.{structure_kind}
use Rattle.id_tag.specs.Kinds.{kind_of, same_kind}
use Rattle.id_tag.specs.declared.Structure.{Structure}
use Rattle.id_tag.specs.declared.Value.{Value}
use Rattle.id_tag.specs.declared.Value.TheVariants as value
use Rattle.id_tag.specs.declared.Tag.{Tag}
use Rattle.id_ops.specs.declared.Fired.TheVariants.{Out, Nothing, Sent}
use Rattle.id_ops.specs.Operators.{constant_value, fired_by}
use Rattle.id_value.specs.declared.Constant.TheVariants as constants
use Rattle.id_source.specs.declared.Site.{Site}
use Rattle.id_source.specs.declared.SourceValue.{SourceValue}
use Rattle.id_source.specs.declared.SourceValue.TheVariants as source
use Rattle.id_source.specs.Sources.{Source, IsOfKind, value_of}
use Rattle.id_build.specs.Rows.{block, home, home_by, label, label_by, node, port_of}
use Rattle.id_runs.specs.Events.{Event}
use Rattle.id_laws.specs.Topics.{Named, StandsFor, number_stands, truth_stands, name_stands}
use Rattle.id_laws.proofs.Rows.Assumed.{IsKnown}
use Rattle.id_laws.proofs.Validity.PortsTake.{Takes, same_kinds, takes_constant}

stands_is : {S : Source} {number : ℕ → ℕ → ℕ} {run : List Event} {w : Value} {v : SourceValue} (c : Constant)
    → StandsFor S number run w v → v ≡ value_of c → w ≡ constant_value c
stands_is (constants.Int m) (number_stands n) e = let same : n ≡ m = cc in ap (λ z. value.Int z) same
stands_is (constants.Int m) (truth_stands b) e = cc
stands_is (constants.Int m) (name_stands s x named) e = cc
stands_is (constants.Bool d) (number_stands n) e = cc
stands_is (constants.Bool d) (truth_stands b) e = let same : b ≡ d = cc in ap (λ z. value.Bool z) same
stands_is (constants.Bool d) (name_stands s x named) e = cc

-- what stands for a constant is its token's value
pub stands_constant : {S : Source} {number : ℕ → ℕ → ℕ} {run : List Event} {w : Value} (c : Constant)
    → StandsFor S number run w (value_of c) → w ≡ constant_value c
stands_constant c h = stands_is c h refl

-- the ports that take arrays of its kind take a structure
made_fits : (b : Truth) → same_kind (structure_kind b) (port_of (array_kind b)) ≡ true
made_fits false = refl
made_fits true = refl

nested_is : {b c : Truth} {i j k l : ℕ} → Array b i j ≡ Array c k l → b ≡ c
nested_is e = cc

-- a name is of the kind of its structure
pub named_kind : {S : Source} {number : ℕ → ℕ → ℕ} {run : List Event} {s : Structure} {x : Site} {o : Option Kind}
    → IsKnown S.checked → Named S number run s x → IsOfKind S.checked (source.Name x) o → o ≡ Some (array_kind s.nested)
named_kind {S} known h is =
    let row =
    (known.apart).apart is.row h.row (is.stands).within h.within (ap is_thing (is.stands).node) (ap is_thing h.node)
    (sym is.place ∙ h.place) in
    is.kind ∙ ap (λ b. Some (array_kind b)) (nested_is (sym (is.stands).node ∙ ap (node S.checked) row ∙ h.node))

-- a value is of the kind of the port that takes it
pub value_fits : {S : Source} {number : ℕ → ℕ → ℕ} {run : List Event} {w : Value} {v : SourceValue} → IsKnown S.checked
    → StandsFor S number run w v → (k : PortKind) → Takes S.checked v k → same_kind (kind_of w) k ≡ true
value_fits {S} known (number_stands n) k e = ap (same_kind kinds.Int) (takes_constant S.checked (constants.Int n) e)
value_fits {S} known (truth_stands b) k e = ap (same_kind kinds.Bool) (takes_constant S.checked (constants.Bool b) e)
value_fits known (name_stands s x named) k e =
    ap (same_kind (structure_kind s.nested)) (e.2 ∙ ap port_of (same_kinds (named_kind known named e.1)))
    ∙ made_fits s.nested

-- a value goes through a label for values of its kind
pub merged : {S : Source} {number : ℕ → ℕ → ℕ} {run : List Event} {w : Value} {v : SourceValue} → IsKnown S.checked
    → StandsFor S number run w v → (k : PortKind) → Takes S.checked v k
    → cond (same_kind (kind_of w) k) (Out w) Nothing ≡ Out w
merged {w = w} known h k e = ap (λ z. cond z (Out w) Nothing) (value_fits known h k e)

no_truth : true ≡ false → ⊥
no_truth h = cc

-- a row that is no `next` and no index is its own label's
pub label_plain : (P : Checked) (n : ℕ) (m : Node) → node P n ≡ m → is_next m ≡ false → is_index m ≡ false
    → label P n ≡ n
label_plain P n (Next x k o v) is h i = absurd (no_truth h)
label_plain P n (Index x) is h i = absurd (no_truth i)
label_plain P n _ is h i = ap (label_by (block P n) n) is

-- and one that is no `next` is at home where it stands
pub home_plain : (P : Checked) (n : ℕ) (m : Node) → node P n ≡ m → is_next m ≡ false → home P n ≡ n
home_plain P n (Next x k o v) is h = absurd (no_truth h)
home_plain P n _ is h = ap (home_by (block P n) n) is

pub expression_plain : (m : Node) → is_expression m ≡ true → is_next m ≡ false
expression_plain (Next x k o v) h = absurd (no_truth (sym h))
expression_plain _ h = refl

-- an operator that gives a constant lets it out
pub gives_out : {o : Outcome} {c : Constant} → o ≡ Gives c → fired_by o ≡ Out (constant_value c)
gives_out e = ap fired_by e

-- a value of its kind goes into the context
pub sent_in : {S : Source} {number : ℕ → ℕ → ℕ} {run : List Event} {w : Value} {v : SourceValue} → IsKnown S.checked
    → StandsFor S number run w v → (k : PortKind) (u : Tag) → Takes S.checked v k
    → cond (same_kind (kind_of w) k) (Sent u w) Nothing ≡ Sent u w
sent_in {w = w} known h k u e = ap (λ z. cond z (Sent u w) Nothing) (value_fits known h k e)
