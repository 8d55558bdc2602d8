-- Lemmas on specs/Sourced.antt: events that went well show no fault.
use Rattle.std.proofs.Common.{◌≡◌, Option, None, List, [], ◌∷◌, refl, ap, ◌∙◌}
use Rattle.std.specs.Prelude.{slice_get}
use Rattle.std.specs.List.{AllByRecursion, filter_map, cons_option}
use Rattle.std.proofs.lemmas.List.Elements.{recursion_from_All}
use Rattle.id_instr.specs.Graph.{Parts}
use Rattle.id_tag.specs.declared.Structure.{Structure}
use Rattle.id_tag.specs.declared.Tag.{Tag}
use Rattle.id_source.specs.declared.Path.{Path}
use Rattle.id_source.specs.declared.Site.{Site}
use Rattle.id_record.specs.declared.step.Step.TheVariants.{Went}
use Rattle.id_record.specs.Events.{AllWent, EventView}
use Rattle.id_record.proofs.EachLemmas.{each-weaker}
use Rattle.id_observe.specs.Sourced.{fault_of, faults_of}

-- nothing stands first in the empty list alone
pub none_first : {A : Type 0} (xs : List A) → slice_get xs 0 ≡ None → xs ≡ []
none_first [] at = refl
none_first (x ∷ xs) at = cc

pub nothing_all : {X Y : Type 0} (h : X → Option Y) (xs : List X) → AllByRecursion (λ x. h x ≡ None) xs
    → filter_map h xs ≡ []
nothing_all h [] each = refl
nothing_all h (x ∷ xs) each = ap (λ o. cons_option o (filter_map h xs)) each.0 ∙ nothing_all h xs each.1

-- events that went well show no fault
pub went_none : (g : Parts) (path : Tag → Path) (name : Structure → Site) (vs : List EventView) → AllWent vs
    → faults_of g path name vs ≡ []
went_none g path name vs went =
    nothing_all (λ e. fault_of g path name e.step) vs
    (each-weaker (λ e. e.step ≡ Went) (λ e. fault_of g path name e.step ≡ None) (λ e is. ap (fault_of g path name) is)
    vs
    (recursion_from_All (λ e. e.step ≡ Went) vs went))
