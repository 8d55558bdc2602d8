-- What arrays hold, by their kind (docs/LANGUAGE.md, "Kinds").
use Rattle.std.specs.Prelude.{Bool as Truth, true, false}
use Rattle.id_value.specs.declared.Kind.{Kind}
use Rattle.id_value.specs.declared.Kind.TheVariants.{Int, Bool, Array, Nested}

-- the kind of an array, by whether it is nested
abbrev pub array_kind : Truth → Kind
array_kind false = Array
array_kind true = Nested

-- whether a kind is one of arrays
abbrev pub is_array : Kind → Truth
is_array Int = false
is_array Bool = false
is_array Array = true
is_array Nested = true

-- whether a kind is that of arrays of arrays
abbrev pub is_nested : Kind → Truth
is_nested Int = false
is_nested Bool = false
is_nested Array = false
is_nested Nested = true

-- the kind of what an element holds: of a nested array it is an array, of any other a number
abbrev pub element_kind : Kind → Kind
element_kind Int = Int
element_kind Bool = Int
element_kind Array = Int
element_kind Nested = Array

-- whether two kinds are one
abbrev pub same_kind : Kind → Kind → Truth
same_kind Int Int = true
same_kind Bool Bool = true
same_kind Array Array = true
same_kind Nested Nested = true
same_kind _ _ = false
