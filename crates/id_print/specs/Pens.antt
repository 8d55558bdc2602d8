-- Facts by path and row, as they are printed.
use Rattle.std.specs.Prelude.{ℕ, List, refl}
use Rattle.std.specs.Coded.{Coded, code_by, coded×, coded_ℕ, coded_list}
use Rattle.id_check.specs.declared.checked.Checked.{Checked}
use Rattle.id_check.specs.contracts.checked.Checked as checked
use Rattle.id_facts.specs.declared.facts.RowFact.{RowFact}
use Rattle.id_facts.specs.contracts.facts.RowFact as row
use Rattle.id_facts.specs.declared.facts.RowValue.{RowValue}
use Rattle.id_facts.specs.declared.facts.Trail.{Trail}
use Rattle.id_check.specs.Programs.{place}
use Rattle.id_source.specs.declared.Fact.{Fact}
use Rattle.id_source.specs.declared.Path.{Path}
use Rattle.id_source.specs.declared.Site.{Site}
use Rattle.id_source.specs.declared.SourceValue.{SourceValue}
use Rattle.id_facts.specs.Listed.{fact_of, name_at, path_at, site_at, value_at}

-- a text, its program, and the facts of a round of it
pub record PenView : Type 0 where
  pub text : List ℕ
  pub checked : Checked
  pub facts : List RowFact

-- these as the tuple of them
abbrev pub coded_pen : Coded PenView
coded_pen =
    code_by (List ℕ × (Checked × List RowFact))
    (coded× (coded_list coded_ℕ) (coded× checked.the_row.coded (coded_list row.the_row.coded)))
    (λ v. (v.text, (v.checked, v.facts)))
    (λ p. record { text = p.0; checked = p.1.0; facts = p.1.1 })
    (λ _. refl)

-- the path of the source that a trail is
abbrev pub path_in : PenView → Trail → Path
path_in v q = path_at v.checked v.facts q

-- the place of a row
abbrev pub place_in : PenView → ℕ → ℕ
place_in v n = place v.checked n

-- the site of the source that a trail and a row are
abbrev pub site_in : PenView → Trail → ℕ → Site
site_in v q n = site_at v.checked v.facts q n

-- the name of the structure that the fact with this number made
abbrev pub name_in : PenView → ℕ → Site
name_in v i = name_at v.checked v.facts i

-- the value of the source that a value by rows is
abbrev pub value_in : PenView → RowValue → SourceValue
value_in v w = value_at v.checked v.facts w

-- the fact of the source that a fact by rows is
abbrev pub fact_in : PenView → RowFact → Fact
fact_in v f = fact_of v.checked v.facts f
