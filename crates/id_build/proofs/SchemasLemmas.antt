-- The builder's graph is one that the schemas give the table.
use Rattle.std.proofs.Common.{◌≡◌, ◌<◌, inl, inr, cond, ℕ, zero, suc, ◌+◌, Bool, true, false, List, [], ◌∷◌, length}
use Rattle.std.proofs.Common.{get_or, refl, ap, sym, subst, ◌∙◌, arith, Some}
use Rattle.std.specs.Prelude.{All, IsSome, option_and_then, slice_get}
use Rattle.std.proofs.lemmas.Option.{slice_get-get_or, slice_get_within}
use Rattle.id_build.proofs.ArcsLemmas.{AllDiffer-arcs_in, AllDiffer-dests, arcs_in-among, arcs_in-from}
use Rattle.id_build.proofs.ArcsLemmas.{dests_from-among, dests_from-from, Tells}
use Rattle.id_build.proofs.NumberLemmas.{first_in-apart, pieces_in-at, pieces_in-from}
use Rattle.id_build.proofs.RowLemmas.{feeds_take, IsBuildable, IsOrigin, Takes}
use Rattle.id_build.proofs.FeedsLemmas.{feeds_come, feeds_differ}
use Rattle.id_check.specs.declared.checked.Checked.{Checked}
use Rattle.id_instr.specs.declared.instr.Op.{Op}
use Rattle.id_instr.specs.declared.instr.Instr.{Instr}
use Rattle.id_instr.specs.declared.dests.Dest.{Dest}
use Rattle.id_instr.specs.declared.dests.Port.{Port}
use Rattle.id_build.specs.declared.arc.Arc.{Arc}
use Rattle.id_build.specs.declared.arc.Feed.{Feed}
use Rattle.id_build.specs.declared.arc.Piece.{Piece}
use Rattle.id_build.specs.Made.{AreFirsts, arc_of, arcs_in, dest_of, dests_from, first_in, graph_by, instrs_from}
use Rattle.id_build.specs.Made.{IsFrom, joined, number_by, pieces_in}
use Rattle.id_build.specs.Rows.{answer_row, feed, feeds, made, node, op_by, piece}
use Rattle.id_instr.specs.Graph.{arcs, arcs_on, false_arcs}
use Rattle.id_instr.specs.Ports.{two_sides}
use Rattle.id_build.specs.Schemas.{HasSide, Numbered, Schemas}
use Rattle.id_value.proofs.AmongLemmas.{Among-either, Among-from_at}
use Rattle.id_value.specs.List.{AllDiffer, Among}
use Rattle.id_check.specs.Programs.{place, region, rows}
use Rattle.id_instr.specs.Graph.{IsPort, Parts, PortsExist, kind_at}
use Rattle.id_build.proofs.JoinedLemmas.{length-instrs_from}
use Rattle.id_instr.specs.Ports.{port_kind}
use Rattle.id_build.proofs.OrderLemmas.{IsOrder}

-- the instruction at a number of the graph
instrs_from-at : (F : List ℕ) (ps : List Piece) (m k : ℕ) (vs : List Arc) (p : Piece) → slice_get ps k ≡ Some p →
    slice_get (instrs_from F m ps vs) k ≡ Some (joined F (m + k) p vs)
instrs_from-at F [] m k vs p h = cc
instrs_from-at F (q ∷ ps) m zero vs p h =
    let e : m ≡ m + 0 = omega arith in let i : q ≡ p = cc in ap (λ x. Some (joined F x q vs)) e ∙
    ap (λ x. Some (joined F (m + 0) x vs)) i
instrs_from-at F (q ∷ ps) m (suc k) vs p h =
    let e : m + 1 + k ≡ m + suc k = omega arith in
    instrs_from-at F ps (m + 1) k vs p h ∙ ap (λ x. Some (joined F x p vs)) e

-- what stands at a number is such an instruction
record IsJoined (F : List ℕ) (ps : List Piece) (m k : ℕ) (vs : List Arc) (i : Instr) : Type 0 where
  piece : Piece
  at : slice_get ps k ≡ Some piece
  is : i ≡ joined F (m + k) piece vs

instrs_from-from : (F : List ℕ) (ps : List Piece) (m k : ℕ) (vs : List Arc) (i : Instr)
    → slice_get (instrs_from F m ps vs) k ≡ Some i → IsJoined F ps m k vs i
instrs_from-from F [] m k vs i h = cc
instrs_from-from F (q ∷ ps) m zero vs i h = let e : m ≡ m + 0 = omega arith in let j : joined F m q vs ≡ i = cc in
    record { piece = q; at = refl; is = sym j ∙ ap (λ x. joined F x q vs) e }
instrs_from-from F (q ∷ ps) m (suc k) vs i h =
    let rest = instrs_from-from F ps (m + 1) k vs i h in
    let e : m + 1 + k ≡ m + suc k = omega arith in
    record { piece = rest.piece; at = rest.at; is = rest.is ∙ ap (λ x. joined F x rest.piece vs) e }

-- its number, by the order
number_is : (P : Checked) (order F : List ℕ) (n k : ℕ) → AreFirsts P order F → n < length (rows P)
    → number_by F n k ≡ first_in P 0 order n + k
number_is P order F n k fs l = let at = fs.at n l in omega arith

-- an instruction of a row stands at its number
stands : (P : Checked) (order F : List ℕ) (n k : ℕ) (p : Piece) → IsOrder P order → AreFirsts P order F
    → n < length (rows P) →
    slice_get (made P n) k ≡ Some p → slice_get (pieces_in P order) (number_by F n k) ≡ Some p
stands P order F n k p o fs l h =
    let at = pieces_in-at P order 0 n k p (o.covers n l) h in
    let e : number_by F n k ≡ at.0 = omega (arith, at.1, number_is P order F n k fs l) in
    ap (slice_get (pieces_in P order)) e ∙ at.2

instr_at : (P : Checked) (order F : List ℕ) (n k : ℕ) (p : Piece) → IsOrder P order → AreFirsts P order F
    → n < length (rows P) →
    slice_get (made P n) k ≡ Some p
    → slice_get (graph_by P order F).instrs (number_by F n k) ≡ Some (joined F (number_by F n k) p (arcs_in P F order))
instr_at P order F n k p o fs l h =
    let e : 0 + number_by F n k ≡ number_by F n k = omega arith in
    instrs_from-at F (pieces_in P order) 0 (number_by F n k) (arcs_in P F order) p (stands P order F n k p o fs l h) ∙
    ap (λ x. Some (joined F x p (arcs_in P F order))) e

-- the instruction that a number is given to, as the builder makes it
is_joined : (P : Checked) (order F : List ℕ) (m : ℕ) (i : Instr) → slice_get (graph_by P order F).instrs m ≡ Some i →
    (p : Piece) × (slice_get (pieces_in P order) m ≡ Some p) × (i ≡ joined F m p (arcs_in P F order))
is_joined P order F m i h =
    let j = instrs_from-from F (pieces_in P order) 0 m (arcs_in P F order) i h in
    let e : 0 + m ≡ m = omega arith in
    (j.piece, j.at, j.is ∙ ap (λ x. joined F x j.piece (arcs_in P F order)) e)

-- two instructions have two numbers
number-apart : (P : Checked) (order F : List ℕ) (n k n' k' : ℕ) (p p' : Piece) → IsOrder P order → AreFirsts P order F
    → n < length (rows P) →
    n' < length (rows P) → slice_get (made P n) k ≡ Some p → slice_get (made P n') k' ≡ Some p'
    → number_by F n k ≡ number_by F n' k' → (n ≡ n') × (k ≡ k')
number-apart P order F n k n' k' p p' o fs l l' h h' e =
    first_in-apart P order 0 n k n' k' (o.covers n l) (o.covers n' l') (slice_get_within (made P n) k p h)
    (slice_get_within (made P n') k' p' h')
    (sym (number_is P order F n k fs l) ∙ e ∙ number_is P order F n' k' fs l')

-- the row of a feed
Feeds-row : (P : Checked) (n : ℕ) (f : Feed) → IsBuildable P → n < length (rows P) → Among f (feeds P n)
    → Takes (made P n) f.part f.port
Feeds-row P n f t l h = feeds_take P n (place P n) (region P n) (node P n) f (t.suits n l) h

Feeds-origin : (P : Checked) (n : ℕ) (f : Feed) → IsBuildable P → n < length (rows P) → Among f (feeds P n)
    → IsOrigin P f.origin
Feeds-origin P n f t l h = feeds_come P n (region P n) (node P n) f t (t.suits n l) h

-- an arc tells the row and the feed that it comes from
tells : (P : Checked) (order F : List ℕ) → IsBuildable P → IsOrder P order → AreFirsts P order F → Tells P F order
tells P order F t o fs n n' f f' i i' h h' e =
    let l = o.within n i in
    let l' = o.within n' i' in
    let to = Feeds-row P n f t l h in
    let to' = Feeds-row P n' f' t l' h' in
    let goal =
    number-apart P order F n f.part n' f'.part to.piece to'.piece o fs l l' to.at to'.at (ap (λ a. a.to) e) in
    let from = Feeds-origin P n f t l h in
    let from' = Feeds-origin P n' f' t l' h' in
    let start =
    number-apart P order F f.origin.row f.origin.part f'.origin.row f'.origin.part from.gives.piece from'.gives.piece o
    fs from.within
    from'.within from.gives.at from'.gives.at (ap (λ a. a.from) e) in
    let side = ap (λ a. a.side) e in
    let port = ap (λ a. a.port) e in
    let origin : f.origin ≡ f'.origin =
    ap (λ x. record { row = x; part = f.origin.part; side = f.origin.side }) start.0 ∙
    ap (λ x. record { row = f'.origin.row; part = x; side = f.origin.side }) start.1
    ∙ ap (λ x. record { row = f'.origin.row; part = f'.origin.part; side = x }) side in (
      goal.0,
      ap (λ x. record { origin = x; part = f.part; port = f.port }) origin
          ∙ ap (λ x. record { origin = f'.origin; part = x; port = f.port }) goal.1
          ∙ ap (λ x. record { origin = f'.origin; part = f'.part; port = x }) port,
    )

-- no arc stands twice
once_in : (P : Checked) (order F : List ℕ) → IsBuildable P → IsOrder P order → AreFirsts P order F
    → AllDiffer (arcs_in P F order)
once_in P order F t o fs =
    AllDiffer-arcs_in P F order (tells P order F t o fs)
    (λ n i. feeds_differ P n (region P n) (node P n) t (t.suits n (o.within n i))) order (λ n i. i)
    o.differ

-- what the graph sends is an arc of the builder's
sent : (P : Checked) (order F : List ℕ) (m : ℕ) (b : Bool) (to : Dest) (i : Instr)
    → slice_get (graph_by P order F).instrs m ≡ Some i →
    Among to (arcs_on b i) → Among (record { from = m; side = b; to = to.instr; port = to.port }) (arcs_in P F order)
sent P order F m b to i at h =
    let j = is_joined P order F m i at in
    let A : Instr → Type 0 = λ x. Among to (arcs_on b x) in
    dests_from-from m b to (arcs_in P F order) (on b (subst A j.2 h))
  where
    on : (b : Bool) → Among to (arcs_on b (joined F m (is_joined P order F m i at).0 (arcs_in P F order)))
        → Among to (dests_from m b (arcs_in P F order))
    on true k = k
    on false k = k

port_at-instr : (is : List Instr) (to : Dest) (i : Instr) → slice_get is to.instr ≡ Some i
    → IsSome (port_kind i.op to.port) → IsPort is to
port_at-instr is to i at h =
    let e : kind_at is to ≡ port_kind i.op to.port = ap (option_and_then (λ j. port_kind j.op to.port)) at in rw e h

pub Numbered-graph_by : (P : Checked) (order F : List ℕ) → IsBuildable P → IsOrder P order → AreFirsts P order F
    → Numbered P (graph_by P order F) (number_by F)
Numbered-graph_by P order F t o fs = record {
  made = λ n k p e h. record {
    instr = _;
    at = instr_at P order F n k (piece p e) o fs h.within h.at;
    op = refl;
    place =
        refl;
  };
  only = λ m i h. (
      let j = is_joined P order F m i h in
      let s = pieces_in-from P order 0 m j.0 o.differ j.1 in
      record {
        row = s.n;
        part = s.k;
        form = j.0.form;
        place = j.0.place;
        makes = record { within = o.within s.n s.among; at = s.makes };
        is = omega (arith, s.is, number_is P order F s.n s.k fs (o.within s.n s.among));
      }
      );
  apart = λ n k n' k' p p' e e' h h' i. number-apart P order F n k n' k' (piece p e) (piece p' e') o fs h.within
      h'.within h.at h'.at i;
  sends = λ s n k p h. (
      let f = feed s k p in
      let from = Feeds-origin P n f t h.within h.among in
      let a = arc_of F n f in
      let among = arcs_in-among P F order n f (o.covers n h.within) h.among in
      record {
        instr = _;
        at = instr_at P order F s.row s.part from.gives.piece o fs from.within from.gives.at;
        lists = on_side F s.side (number_by F s.row s.part) from.gives.piece (arcs_in P F order) (dest_of a)
            (dests_from-among a (arcs_in P F order) among);
      }
      );
  no_more = λ m b to h. (
      let c = arcs_in-from P F order _ (sent P order F m b to h.instr h.at h.lists) in
      let port = ap (λ x. x.port) c.is in
      let A : Port → Type 0 = λ x. Among (feed c.fed.origin c.fed.part x) (feeds P c.n) in
      record {
        origin = c.fed.origin;
        row = c.n;
        part = c.fed.part;
        feeds = record { within = o.within c.n c.at; among = subst A (sym port) c.among };
        on = sym (ap (λ x. x.side) c.is);
        from = sym (ap (λ x. x.from) c.is);
        goes = sym (ap (λ x. x.to) c.is);
      }
      );
  once = λ m i b h. (
      let j = is_joined P order F m i h in
      let D : Instr → Type 0 = λ x. AllDiffer (arcs_on b x) in
      subst D (sym j.2) (differ_on F b m j.0 (arcs_in P F order) (once_in P order F t o fs))
      );
  sides = λ m i b to at h. (
      let c = arcs_in-from P F order _ (sent P order F m b to i at h) in
      let from = Feeds-origin P c.n c.fed t (o.within c.n c.at) c.among in
      let number : number_by F c.fed.origin.row c.fed.origin.part ≡ m = sym (ap (λ x. x.from) c.is) in
      let side : c.fed.origin.side ≡ b = sym (ap (λ x. x.side) c.is) in
      let same = sym at ∙ ap (slice_get (graph_by P order F).instrs) (sym number) ∙
      instr_at P order F c.fed.origin.row c.fed.origin.part from.gives.piece o fs from.within from.gives.at in
      let op : op_by (number_by F) from.gives.piece.form ≡ i.op = cc_op i
      (joined F (number_by F c.fed.origin.row c.fed.origin.part) from.gives.piece (arcs_in P F order)) same in
      let S : Bool → Type 0 = λ x. HasSide i.op x in
      let O : Op → Type 0 = λ x. HasSide x c.fed.origin.side in
      subst S side (subst O op (from.gives.gives (number_by F)))
      );
  ports = λ m b to h. (
      let c = arcs_in-from P F order _ (sent P order F m b to h.instr h.at h.lists) in
      let takes = Feeds-row P c.n c.fed t (o.within c.n c.at) c.among in
      let number : number_by F c.n c.fed.part ≡ to.instr = sym (ap (λ x. x.to) c.is) in
      let port : c.fed.port ≡ to.port = sym (ap (λ x. x.port) c.is) in
      let A : ℕ → Type 0 =
      λ x. slice_get (graph_by P order F).instrs x
      ≡ Some (joined F (number_by F c.n c.fed.part) takes.piece (arcs_in P F order)) in
      let H : Port → Type 0 = λ x. IsSome (port_kind (op_by (number_by F) takes.piece.form) x) in
      port_at-instr (graph_by P order F).instrs to _
      (subst A number (instr_at P order F c.n c.fed.part takes.piece o fs (o.within c.n c.at) takes.at))
      (subst H port (takes.takes (number_by F)))
      );
  answer_first = fs.at (answer_row P) o.answer_within ∙ o.answer_first;
  second_behind = λ h x. omega arith;
  blocks = refl;
}
  where
    on_side : (F : List ℕ) (b : Bool) (m : ℕ) (p : Piece) (vs : List Arc) (to : Dest) → Among to (dests_from m b vs)
        → Among to (arcs_on b (joined F m p vs))
    on_side F true m p vs to h = h
    on_side F false m p vs to h = h

    differ_on : (F : List ℕ) (b : Bool) (m : ℕ) (p : Piece) (vs : List Arc) → AllDiffer vs
        → AllDiffer (arcs_on b (joined F m p vs))
    differ_on F true m p vs d = AllDiffer-dests m true vs d
    differ_on F false m p vs d = AllDiffer-dests m false vs d

    cc_op : (i j : Instr) → Some i ≡ Some j → j.op ≡ i.op
    cc_op i j e = let h : i ≡ j = cc in ap (λ x. x.op) (sym h)

-- each arc goes between two of the instructions
pub IsFrom-arcs_in : (P : Checked) (order F : List ℕ) → IsBuildable P → IsOrder P order → AreFirsts P order F →
    All (IsFrom (pieces_in P order)) (arcs_in P F order)
IsFrom-arcs_in P order F t o fs k d lt =
    let a = get_or (arcs_in P F order) k d in
    let c = arcs_in-from P F order a
    (Among-from_at a (arcs_in P F order) k (slice_get-get_or (arcs_in P F order) k d lt)) in
    let l = o.within c.n c.at in
    let to = Feeds-row P c.n c.fed t l c.among in
    let from = Feeds-origin P c.n c.fed t l c.among in
    let one = slice_get_within (pieces_in P order) (number_by F c.fed.origin.row c.fed.origin.part) from.gives.piece
    (stands P order F c.fed.origin.row c.fed.origin.part from.gives.piece o fs from.within from.gives.at) in
    let two =
    slice_get_within (pieces_in P order) (number_by F c.n c.fed.part) to.piece
    (stands P order F c.n c.fed.part to.piece o fs l to.at) in
    let e = ap (λ x. x.from) c.is in
    let e' = ap (λ x. x.to) c.is in
    (omega arith, omega arith)

-- every destination of a schemas' graph is a port that exists
pub PortsExist-schemas : (P : Checked) (G : Parts) → Schemas P G → PortsExist G
PortsExist-schemas P G s k d l j e m =
    let i = get_or G.instrs k d in
    let at = slice_get-get_or G.instrs k d l in
    let to = get_or (arcs i) j e in
    elim (Among-either to (arcs_on true i) (false_arcs i)
    (Among-from_at to (arcs i) j (slice_get-get_or (arcs i) j e m))) [
      | inl h ↦ s.numbered.ports k true to (record { instr = i; at = at; lists = h })
      | inr h ↦ s.numbered.ports k false to (record {
        instr = i;
        at = at;
        lists =
            others (two_sides i.op) (arcs_on false i) to h;
      })
    ]
  where
    others : (t : Bool) (ds : List Dest) (to : Dest) → Among to (cond t ds []) → Among to ds
    others true ds to h = h
    others false ds to h = absurd h

-- it has as many instructions as pieces
pub length-graph_by : (P : Checked) (order F : List ℕ) → length (graph_by P order F).instrs ≡ length (pieces_in P order)
length-graph_by P order F = length-instrs_from F 0 (pieces_in P order) (arcs_in P F order)
