-- A structure has one name, and what answers a fetch was put into the cell that it asks for.
use Rattle.std.proofs.Common.{◌≡◌, ℕ, ◌<◌, Some, List, length, refl, sym, ◌∙◌, ap, subst}
use Rattle.std.specs.Prelude.{option_map}
use Rattle.id_value.specs.declared.Constant.{Constant}
use Rattle.id_value.specs.List.{Among}
use Rattle.id_value.proofs.AmongLemmas.{Among-map}
use Rattle.id_table.specs.declared.row.Node.TheVariants.{Array}
use Rattle.id_check.specs.declared.checked.Checked.{Checked}
use Rattle.id_check.specs.Programs.{place, rows}
use Rattle.id_instr.specs.declared.instr.Instr.{Instr}
use Rattle.id_instr.specs.declared.instr.Op.TheVariants as op
use Rattle.id_instr.specs.Graph.{Parts}
use Rattle.id_tag.specs.declared.Cell.{Cell}
use Rattle.id_tag.specs.declared.Structure.{Structure}
use Rattle.id_tag.specs.declared.Tag.{Tag}
use Rattle.id_tag.specs.declared.Value.{Value}
use Rattle.id_tag.specs.declared.Payload.TheVariants.{Read, Write}
use Rattle.id_ops.specs.declared.Fired.{Fired}
use Rattle.id_valid.specs.Roles.{op_at}
use Rattle.id_core.specs.Machines.{World}
use Rattle.id_source.specs.declared.Site.{Site}
use Rattle.id_source.specs.Sources.{Source}
use Rattle.id_build.specs.Rows.{node}
use Rattle.id_build.specs.Schemas.{Numbered}
use Rattle.id_runs.specs.Cells.{Replies, cell_at}
use Rattle.id_runs.specs.Events.{Event, FiresAs, fired_event, payload_of}
use Rattle.id_runs.specs.Runs.{Reach, handled}
use Rattle.id_runs.specs.Serials.{StructuresApart}
use Rattle.id_runs.proofs.Cells.{cells_exact}
use Rattle.id_runs.proofs.CellLaws.{reply_sound}
use Rattle.id_laws.specs.Topics.{Named}
use Rattle.id_laws.proofs.Rows.Arcs.{allocates, makes, part_of}
use Rattle.id_laws.proofs.Paths.Seats.{OneSeat, one_path}
use Rattle.id_laws.proofs.Rows.Tokens.{one_part, same_activation, same_number}

one_tag : {run : List Event} {t u : Tag} {f f' : Fired} (x : FiresAs run t f) (y : FiresAs run u f')
    → fired_event x ≡ fired_event y → t ≡ u
one_tag x y e = cc

-- the operator of an `array` makes structures
pub makes_structures : {P : Checked} {g : Parts} {number : ℕ → ℕ → ℕ} {nested : _} {n a b : ℕ} → Numbered P g number
    → n < length (rows P) → node P n ≡ Array nested a b → op_at g (number n 0) ≡ Some (op.Alloc nested)
makes_structures {n = n} numbered within is =
    let m = numbered.made n 0 _ _ (makes within (allocates is)) in
    ap (option_map (λ (i : Instr). i.op)) m.at ∙ ap (λ o. Some o) m.op

-- a structure has one name
pub one_name : (S : Source) (g : Parts) (number : ℕ → ℕ
    → ℕ) (numbered : Numbered S.checked g number) (run : List Event) (seats : OneSeat S number run)
    → StructuresApart g run → {s : Structure} {x y : Site} → Named S number run s x → Named S number run s y → x ≡ y
one_name S g number numbered run seats apart {s} {x} {y} h k =
    let same =
    apart (fired_event h.made) (fired_event k.made) (h.made).among (k.made).among s s
    (makes_structures numbered h.within h.node, refl)
    (makes_structures numbered k.within k.node, refl) refl refl in
    let tags = one_tag h.made k.made same in
    let row = (one_part numbered (part_of h.within (allocates h.node)) (part_of k.within (allocates k.node))
    (same_number h.activation k.activation _ _ tags)).0 in
    let acts = same_activation h.activation k.activation _ _ tags in
    let paths : x.path ≡ y.path =
    one_path seats (subst (λ a. Rattle.id_laws.specs.Activations.PathOf S number run a x.path) acts h.path_of)
    k.path_of in
    let places : x.place ≡ y.place = h.place ∙ ap (place S.checked) row ∙ sym k.place in
    (λ i. record { path = paths i; place = places i })

-- a fetch was answered by what a store had put into the cell that it asks for
pub record Replied (run : List Event) (u : Tag) (v : Value) : Type 0 where
  pub cell : Cell
  pub origin : Tag
  pub asked : Among (Read cell u) (handled run)
  pub put : Among (Write cell v origin) (handled run)

pub replied : (g : Parts) (vs : List Constant) (count : ℕ) (s : World) (run : List Event) → Reach g vs count s run
    → (u : Tag) (v : Value) (e : Event) → Replies run u v e
    → Replied run u v
replied g vs count s run r u v e x =
    let z = reply_sound run (cell_at count s) (cells_exact g vs count s run r) u v e x in
    let w = z.2 in
    record {
      cell = z.0;
      origin = w.0;
      asked = Among-map payload_of _ run (z.1.1).among;
      put = Among-map payload_of _ run (w.2).among;
    }
