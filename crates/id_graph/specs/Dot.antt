-- The picture of a graph: its text in the language of Graphviz (docs/GRAPH.md, "Picture").
use Rattle.std.specs.Prelude.{ℕ, ◌+◌, ◌==◌, Bool, true, false, if◌then◌else◌, List, [], ◌∷◌}
use Rattle.std.specs.Prelude.{◌++◌, length, codes}
use Rattle.std.specs.List.{flat_map, list_any}
use Rattle.std.specs.Fmt.{decimal}
use Rattle.id_instr.specs.declared.instr.Block.{Block}
use Rattle.id_instr.specs.declared.instr.Instr.{Instr}
use Rattle.id_instr.specs.declared.instr.Op.{Op}
use Rattle.id_instr.specs.declared.instr.Op.TheVariants.{Const, Unary, Binary, Merge, Switch, Back, Enter, Send, Next}
use Rattle.id_instr.specs.declared.instr.Op.TheVariants.{Reset, Alloc, Address, Fetch, Store}
use Rattle.id_instr.specs.declared.dests.Dest.{Dest}
use Rattle.id_instr.specs.declared.dests.Port.TheVariants.{Zero}
use Rattle.id_instr.specs.Graph.{Parts, arcs_on}
use Rattle.id_instr.specs.Ports.{two_ports, two_sides}
use Rattle.id_text.specs.Places.{line_of, column_of}
use Rattle.id_graph.specs.Looks.{is_point, look, name_at, name_text}
use Rattle.id_graph.specs.Listing.{head_text, in_order, op_text, place_text, port_number}

-- what goes before all: boxes with fields, small and close together
abbrev pub opening : List ℕ
opening =
    codes "digraph {\ngraph [nodesep=0.15, ranksep=0.25];\nedge [arrowsize=0.5];\n"
    ++ codes "node [shape=record, fontsize=10, height=0.2, margin=\"0.05,0.02\"];\n{\n"

-- the name of the block whose trigger has this place: a procedure's name; a loop has none, but a line and column
abbrev pub frame_text : List ℕ → ℕ → List ℕ
frame_text text at =
    if length (name_at text at) == 0 then
    codes "loop " ++ decimal (line_of text at) ++ codes ":" ++ decimal (column_of text at)
    else name_at text at

-- the end of a cluster, and the head of the next, of the block whose trigger has this number and place
abbrev pub cluster_text : List ℕ → ℕ → ℕ → List ℕ
cluster_text text n at =
    codes "}\nsubgraph cluster_" ++ decimal n ++ codes " {\nlabel=\"" ++ frame_text text at ++ codes "\";\n"

-- what goes before a box: nothing, unless a block begins there
abbrev pub start_text : List ℕ → Bool → ℕ → ℕ → List ℕ
start_text text begun n at = if begun then cluster_text text n at else []

-- the field for each port, from the left; the box itself is the only port of what has one
abbrev pub ports_text : Op → List ℕ
ports_text op = if two_ports op then codes "{<0>0|<1>1}|" else codes "<0>"

-- the field for each side of what has two, from the left
abbrev pub sides_text : Op → List ℕ
sides_text op = if two_sides op then codes "|{<T>T|<F>F}" else []

-- the box of an instruction: its ports, its number and operator, below them its name and place, its sides
abbrev pub box_text : List ℕ → ℕ → Instr → List ℕ
box_text text n i =
    codes "{" ++ ports_text i.op ++ decimal n ++ codes " " ++ op_text i.op ++ codes "\\n" ++ name_text text i
    ++ place_text text i.place ++ sides_text i.op ++ codes "}\""

-- a point, its only port, with a number and name beside it
abbrev pub point_text : ℕ → List ℕ → List ℕ
point_text n name =
    codes "<0>\", xlabel=\"" ++ decimal n ++ codes " " ++ name
    ++ codes "\", shape=Mrecord, style=filled, color=black, fixedsize=true, width=0.1, height=0.1"

-- a point or a box
abbrev pub shape_text : List ℕ → ℕ → Instr → List ℕ
shape_text text n i = if is_point i then point_text n (name_text text i) else box_text text n i

-- an instruction as it is drawn; what shows at the pointer is its line of the listing up to its place
abbrev pub node_text : List ℕ → ℕ → Instr → List ℕ
node_text text n i =
    decimal n ++ codes " [label=\"" ++ shape_text text n i ++ codes ", tooltip=\"" ++ head_text text n i ++ codes "\""
    ++ look i.op ++ codes "];\n"

-- whether a block begins at the number
abbrev pub is_begun : List Block → ℕ → Bool
is_begun bs n = list_any (λ b. b.first == n) bs

-- the instructions whose numbers begin at n, in the clusters of their blocks
abbrev pub nodes_text : List ℕ → List Block → ℕ → List Instr → List ℕ
nodes_text text bs n [] = []
nodes_text text bs n (i ∷ is) =
    start_text text (is_begun bs n) n i.place ++ node_text text n i ++ nodes_text text bs (n + 1) is

-- an arrow in this style and look from a field of a box to a port
abbrev pub arrow_text : ℕ → List ℕ → List ℕ → List ℕ → Dest → List ℕ
arrow_text n field style looks d =
    decimal n ++ field ++ codes " -> " ++ decimal d.instr ++ codes ":" ++ decimal (port_number d.port)
    ++ codes " [style=" ++ style ++ looks ++ codes "];\n"

-- an arrow for each destination, in order
abbrev pub arrows_text : ℕ → List ℕ → List ℕ → List ℕ → List Dest → List ℕ
arrows_text n field style looks ds = flat_map (arrow_text n field style looks) (in_order ds)

-- the arrows of an instruction: of a switch those of each side from the field of the side
abbrev pub sent_text : ℕ → Instr → List ℕ
sent_text n i =
    if two_sides i.op then
    arrows_text n (codes ":T") (codes "solid") (look i.op) (arcs_on true i)
    ++ arrows_text n (codes ":F") (codes "dashed") (look i.op) (arcs_on false i)
    else arrows_text n [] (codes "solid") (look i.op) (arcs_on true i)

-- a dotted arrow to the instruction of this number, which is above or below as it falls
abbrev pub named_text : ℕ → ℕ → List ℕ
named_text n m = arrow_text n [] (codes "dotted, constraint=false") [] (record { instr = m; port = Zero })

-- a dotted arrow down to the instruction that replies come to
abbrev pub reply_text : ℕ → ℕ → List ℕ
reply_text n m = arrow_text n [] (codes "dotted") [] (record { instr = m; port = Zero })

-- dotted arrows to the instructions that the operator names
abbrev pub names_text : ℕ → Op → List ℕ
names_text n (Enter b r) = named_text n b ++ reply_text n r
names_text n (Send k t) = named_text n t
names_text n (Fetch nested r) = reply_text n r
names_text n (Const v) = []
names_text n (Unary f) = []
names_text n (Binary f) = []
names_text n (Merge k) = []
names_text n (Switch k) = []
names_text n (Back k) = []
names_text n (Next k) = []
names_text n (Reset k) = []
names_text n (Alloc nested) = []
names_text n (Address nested) = []
names_text n (Store nested) = []

-- the arrows of instructions whose numbers begin at n
abbrev pub links_text : ℕ → List Instr → List ℕ
links_text n [] = []
links_text n (i ∷ is) = sent_text n i ++ names_text n i.op ++ links_text (n + 1) is

-- the picture of a graph of this text: its boxes and points, the end of the last cluster, its arrows
abbrev pub dot_text : List ℕ → Parts → List ℕ
dot_text text g =
    opening ++ nodes_text text g.blocks 0 g.instrs ++ codes "}\n" ++ links_text 0 g.instrs ++ codes "}\n"
