-- What a row uses is noted, and what the construct uses that begins there.
use Rattle.std.proofs.Common.{◌≡◌, ◌⊎◌, inl, inr, ℕ, ◌+◌, ◌-◌, ◌<◌, ◌≤◌, true, List, [], Option, ◌∙◌, subst, arith}
use Rattle.std.proofs.Common.{length, get_or}
use Rattle.std.specs.Prelude.{Some}
use Rattle.std.proofs.lemmas.List.{get_or_default}
use Rattle.id_check.specs.declared.checked.Checked.{Checked}
use Rattle.id_check.specs.Programs.{rows}
use Rattle.id_value.specs.List.{Among}
use Rattle.id_table.specs.Rows.{at}
use Rattle.id_desugar.specs.Ends.{end_row}
use Rattle.id_desugar.specs.Regions.{imports}
use Rattle.id_desugar.specs.Gathering.{AllCount, AreGathered, is_opening, used_in}
use Rattle.id_desugar.proofs.NotesLemmas.{used_within, gathered_at, imports_by-next, imports_by-over, imports_within}
use Rattle.id_desugar.proofs.imports.note_row.Goals as goal

pub note_used-requires : goal.note_used-requires
note_used-requires c = record {
  marks = c.requires.noted.marked;
  binder = used_within c.args.ends.now.checked.now c.args.span.own c.args.row (length c.args.marks.now.items)
      c.used_at.result
      (omega (arith, c.requires.row.1, c.requires.within)) c.used_at.ensures c.requires.noted.many;
}

inner : {A : Type 0} (n row : ℕ) → row < n → n ≡ 0 ⊎ A → A
inner n row l (inl z) = absurd (omega arith)
inner n row l (inr a) = a

-- what the inner list holds
listed : (P : Checked) (own : Option ℕ) (lo hi s e : ℕ) (L : List (List ℕ)) (xs : List ℕ) → AreGathered P lo hi L
    → AllCount P own lo hi → hi < length (rows P) → lo ≤ s
    → s < e → e < hi → xs ≡ get_or L s xs → e ≡ 0 ⊎ ((end_row P s ≡ Some e) × (is_opening (at (rows P) s).node ≡ true))
    → xs ≡ imports (used_in P own) (s + 1) e
listed P own lo hi s e L xs f count w low l m is h =
    let d = inner e s l h in
    is ∙ get_or_default L s xs [] (omega (arith, f.many, w, l, m))
    ∙ gathered_at P own lo hi s e L f count (record { low = low; high = m; ends = d.0; opening = d.1 })

pub note_all-requires : goal.note_all-requires
note_all-requires c =
    let P = c.args.ends.now.checked.now in
    let own = c.args.span.own in
    let e = c.inner_end-next.result in
    let s = c.args.row in
    let xs = c.index-lists-row.result in
    let list : c.as_slice.result.now ≡ imports (used_in P own) (s + 1) e =
    c.as_slice.ensures
    ∙ listed P own c.args.span.lo c.args.span.hi s e c.args.lists.now xs c.requires.lists c.requires.count
    c.requires.within c.requires.row.0
    c.if-row-next.true c.if-next-span.true c.index-lists-row.is c.inner_end-next.ensures in
    let within : (s + 1) + (e - (s + 1)) ≤ length (rows P) =
    omega (arith, c.if-row-next.true, c.if-next-span.true, c.requires.within) in
    record {
      marks = c.in_ok-note_used.ensures.marks;
      binders = λ b h. (
          let low = imports_within P own (s + 1) e (e - (s + 1)) b within (subst (Among b) list h) in
          omega (arith, low, c.in_ok-note_used.ensures.long, c.requires.noted.many)
          );
    }

pub returns-then-next-span : goal.returns-then-next-span
returns-then-next-span c =
    let P = c.args.ends.now.checked.now in
    let own = c.args.span.own in
    let lo = c.args.span.lo in
    let hi = c.args.span.hi in
    let s = c.args.row in
    let e = c.inner_end-next.result in
    let xs = c.index-lists-row.result in
    let one = imports_by-next (used_in P own) lo hi s c.args.list.now.items c.note_used.new.list.items c.used_at.result
    c.requires.row.0 c.requires.noted.list c.used_at.ensures c.in_ok-note_used.ensures.list in
    let list : c.as_slice.result.now ≡ imports (used_in P own) (s + 1) e =
    c.as_slice.ensures
    ∙ listed P own lo hi s e c.args.lists.now xs c.requires.lists c.requires.count c.requires.within c.requires.row.0
    c.if-row-next.true c.if-next-span.true c.index-lists-row.is c.inner_end-next.ensures in
    record {
      row = (c.if-row-next.true, omega (arith, c.if-next-span.true));
      noted = record {
        many = c.in_ok-note_all.ensures.long ∙ c.in_ok-note_used.ensures.long ∙ c.requires.noted.many;
        marked = c.in_ok-note_all.ensures.marks;
        list = imports_by-over (used_in P own) lo hi s e c.note_used.new.list.items c.as_slice.result.now
            c.note_all.new.list.items c.requires.row.0
            c.if-row-next.true (omega (arith, c.if-next-span.true)) one list c.in_ok-note_all.ensures.list;
      };
    }

pub returns : goal.returns
returns c = record {
  row = (omega arith, omega (arith, c.requires.row.1));
  noted = record {
    many = c.in_ok-note_used.ensures.long ∙ c.requires.noted.many;
    marked = c.in_ok-note_used.ensures.marks;
    list = imports_by-next (used_in c.args.ends.now.checked.now c.args.span.own) c.args.span.lo c.args.span.hi
        c.args.row c.args.list.now.items
        c.note_used.new.list.items c.used_at.result c.requires.row.0 c.requires.noted.list c.used_at.ensures
        c.in_ok-note_used.ensures.list;
  };
}

pub bounds-lists-row : goal.bounds-lists-row
bounds-lists-row c = omega (arith, c.requires.lists.many, c.requires.row.1, c.requires.within)

pub overflow_add-result : goal.overflow_add-result
overflow_add-result c = omega (arith, c.requires.row.1, c.requires.within, c.args.ends.now.few)
