-- The orders of tags and of cells (docs/MACHINE.md, "Messages").
use Rattle.std.specs.Prelude.{Bool, ◌==◌, ◌&&◌}
use Rattle.std.specs.Bool.{beq}
use Rattle.std.specs.Ordering.{nat_cmp, int_cmp, int_eq, bool_cmp, ordering_then}
use Rattle.std.specs.declared.cmp.Ordering.{Ordering}
use Rattle.id_tag.specs.declared.Context.{Context}
use Rattle.id_tag.specs.declared.Tag.{Tag}
use Rattle.id_tag.specs.declared.Structure.{Structure}
use Rattle.id_tag.specs.declared.Cell.{Cell}

-- by the element that made the context, and then by its number
abbrev pub context_cmp : Context → Context → Ordering
context_cmp a b = ordering_then (nat_cmp a.element b.element) (nat_cmp a.serial b.serial)

-- by context, then by iteration, then by instruction
abbrev pub tag_cmp : Tag → Tag → Ordering
tag_cmp t u =
    ordering_then (context_cmp t.context u.context)
    (ordering_then (nat_cmp t.iteration u.iteration) (nat_cmp t.instr u.instr))

-- whether two contexts are one
abbrev pub same_context : Context → Context → Bool
same_context a b = (a.element == b.element) && (a.serial == b.serial)

-- whether two tags are one
abbrev pub same_tag : Tag → Tag → Bool
same_tag t u = same_context t.context u.context && ((t.iteration == u.iteration) && (t.instr == u.instr))

-- by the element that made the structure, by its number, by its bounds, and then by whether it is nested
abbrev pub structure_cmp : Structure → Structure → Ordering
structure_cmp a b =
    ordering_then (nat_cmp a.element b.element)
    (ordering_then (nat_cmp a.serial b.serial)
    (ordering_then (int_cmp a.low b.low) (ordering_then (int_cmp a.high b.high) (bool_cmp a.nested b.nested))))

-- by structure, and then by index
abbrev pub cell_cmp : Cell → Cell → Ordering
cell_cmp c d = ordering_then (structure_cmp c.structure d.structure) (int_cmp c.index d.index)

-- whether two structures are one
abbrev pub same_structure : Structure → Structure → Bool
same_structure a b =
    (a.element == b.element)
    && ((a.serial == b.serial) && (int_eq a.low b.low && (int_eq a.high b.high && beq a.nested b.nested)))

-- whether two cells are one
abbrev pub same_cell : Cell → Cell → Bool
same_cell c d = same_structure c.structure d.structure && int_eq c.index d.index
