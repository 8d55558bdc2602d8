-- What an instruction is named and how it looks in a picture (docs/GRAPH.md, "Picture").
use Rattle.std.specs.Prelude.{ℕ, ◌==◌, ◌&&◌, Bool, true, false, if◌then◌else◌, List, [], length}
use Rattle.std.specs.Prelude.{drop, take_while, codes}
use Rattle.std.specs.List.{starts_with}
use Rattle.id_instr.specs.declared.instr.Instr.{Instr}
use Rattle.id_instr.specs.declared.instr.Op.{Op}
use Rattle.id_instr.specs.declared.instr.Op.TheVariants.{Const, Unary, Binary, Merge, Switch, Back, Enter, Send, Next}
use Rattle.id_instr.specs.declared.instr.Op.TheVariants.{Reset, Alloc, Address, Fetch, Store}
use Rattle.id_instr.specs.Held.{address_kind, structure_kind}
use Rattle.id_instr.specs.declared.instr.PortKind.{PortKind}
use Rattle.id_instr.specs.declared.instr.PortKind.TheVariants.{Signal, Int, Bool as BoolKind, Structure}
use Rattle.id_instr.specs.declared.instr.PortKind.TheVariants.{Structures, Address as AddressKind, Addresses}
use Rattle.id_instr.specs.declared.instr.PortKind.TheVariants.{Context, Continuation}
use Rattle.id_text.specs.Bytes.{is_name_byte}

-- what is left behind `next` and a space, where they stand at the front
abbrev pub behind_next : List ℕ → List ℕ
behind_next rest = if starts_with ◌==◌ rest (codes "next ") then drop 5 rest else rest

-- the word at the place, or behind `next` and a space there
abbrev pub name_at : List ℕ → ℕ → List ℕ
name_at text at = take_while is_name_byte (behind_next (drop at text))

-- whether the operator computes a value of its own; any other passes on what the text has a name or word for
abbrev pub computes : Op → Bool
computes (Const v) = true
computes (Unary f) = true
computes (Binary f) = true
computes (Merge k) = false
computes (Switch k) = false
computes (Back k) = false
computes (Enter b r) = false
computes (Send k t) = false
computes (Next k) = false
computes (Reset k) = false
computes (Alloc nested) = false
computes (Address nested) = false
computes (Fetch nested r) = false
computes (Store nested) = false

-- the name of an instruction, if it has one
abbrev pub name_text : List ℕ → Instr → List ℕ
name_text text i = if computes i.op then [] else name_at text i.place

-- signals are grey, structures and addresses bold
abbrev pub kind_look : PortKind → List ℕ
kind_look Signal = codes ", color=gray60, fontcolor=gray40"
kind_look Structure = codes ", penwidth=2"
kind_look Structures = codes ", penwidth=2"
kind_look AddressKind = codes ", penwidth=2"
kind_look Addresses = codes ", penwidth=2"
kind_look Int = []
kind_look BoolKind = []
kind_look Context = []
kind_look Continuation = []

-- how an instruction and what it sends are drawn: by the kind that passes through
abbrev pub look : Op → List ℕ
look (Merge k) = kind_look k
look (Switch k) = kind_look k
look (Back k) = kind_look k
look (Send k t) = kind_look k
look (Next k) = kind_look k
look (Reset k) = kind_look k
look (Alloc nested) = kind_look (structure_kind nested)
look (Address nested) = kind_look (address_kind nested)
look (Fetch nested r) = kind_look (address_kind nested)
look (Store nested) = kind_look (address_kind nested)
look (Const v) = []
look (Unary f) = []
look (Binary f) = []
look (Enter b r) = []

-- whether the operator is a merge
abbrev pub is_merge : Op → Bool
is_merge (Merge k) = true
is_merge (Const v) = false
is_merge (Unary f) = false
is_merge (Binary f) = false
is_merge (Switch k) = false
is_merge (Back k) = false
is_merge (Enter b r) = false
is_merge (Send k t) = false
is_merge (Next k) = false
is_merge (Reset k) = false
is_merge (Alloc nested) = false
is_merge (Address nested) = false
is_merge (Fetch nested r) = false
is_merge (Store nested) = false

-- a merge with one destination is a point
abbrev pub is_point : Instr → Bool
is_point i = is_merge i.op && (length i.dests == 1)
