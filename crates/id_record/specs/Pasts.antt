-- What a history has.
use Rattle.std.specs.Prelude.{List, [], ◌∷◌, ◌++◌}
use Rattle.id_record.specs.declared.past.Past.{Past, Start, After'}

-- what came, in order
abbrev pub items_of : {E : Type 0} → Past E → List E
items_of Start = []
items_of (After' p before x) = items_of before ++ x.value ∷ []
