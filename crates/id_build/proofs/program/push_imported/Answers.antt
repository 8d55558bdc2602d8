-- The entries of the imports of a loop are the parts of a row, whose numbers an instruction can have.
use Rattle.std.proofs.Common.{◌≡◌, ◌∙◌, ◌+◌, ◌<◌, ◌≤◌, ◌++◌, ◌∷◌, [], ℕ, ap, arith, length, map, refl}
use Rattle.id_desugar.specs.Regions.{imports_of}
use Rattle.id_build.specs.Made.{number_by}
use Rattle.id_build.specs.Rows.{Entry, import_entries}
use Rattle.id_build.proofs.PushedLemmas.{rest_done}
use Rattle.id_build.proofs.SendsLemmas.{import_entries-next}
use Rattle.id_build.proofs.program.push_imported.Goals as goal

pub overflow_cast-first : goal.overflow_cast-first
overflow_cast-first c =
    omega (
      arith,
      c.requires,
      c.number_at-first.ensures.number,
      c.loop-part-test.true,
      ap length c.imports_at-part-end.ensures,
    )

pub loop-part-preserved : goal.loop-part-preserved
loop-part-preserved c =
    let P = c.args.slots.now.kernel.now.checked.now in
    let h = c.args.head in
    let F = c.args.slots.now.firsts.items in
    let k = c.loop-part.part in
    let e = c.args.imported in
    let f : Entry → ℕ = λ q. number_by F q.row q.part in
    let less : k < length (imports_of P h) =
    omega (arith, c.loop-part-test.true, ap length c.imports_at-part-end.ensures) in
    let number : c.number_at-first.result + k ≡ number_by F e k = omega (arith, c.number_at-first.ensures.number) in
    let pushed = c.in_ok-push.ensures.items ∙ ap (λ n. c.loop-part.entries.items ++ n ∷ []) number in
    import_entries-next f e k (imports_of P h) c.loop-part.entries.items c.push.new.self.items
    (c.args.entries.now.items ++ map f (import_entries e 0 (imports_of P h))) less c.loop-part.invariant pushed

pub returns : goal.returns
returns c =
    let P = c.args.slots.now.kernel.now.checked.now in
    let h = c.args.head in
    let f : Entry → ℕ = λ q. number_by c.args.slots.now.firsts.items q.row q.part in
    let i = c.loop-part.part in
    let end : length (imports_of P h) ≤ i =
    omega (arith, c.loop-part-test.false, ap length c.imports_at-part-end.ensures) in
    rest_done (λ z. map f (import_entries c.args.imported i z)) i (imports_of P h) c.loop-part.entries.items _ refl end
    c.loop-part.invariant
