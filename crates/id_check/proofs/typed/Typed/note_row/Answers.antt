use Rattle.std.proofs.Common.{◌≡◌, ℕ, Option, refl, ap, sym, ◌∙◌, inl, subst}
use Rattle.id_table.specs.declared.row.Row.{Row}
use Rattle.id_table.specs.declared.row.Node.{Node}
use Rattle.id_table.specs.declared.row.Node.TheVariants.{Arg, Head}
use Rattle.id_table.specs.Rows.{at}
use Rattle.id_check.specs.declared.cause.CheckCause.{CheckCause}
use Rattle.id_check.specs.Causes.{callee, causes_in, wrong_argument}
use Rattle.id_check.specs.Firsts.{Notes}
use Rattle.id_check.specs.Scopes.{user_of}
use Rattle.id_check.proofs.LinksLemmas.{part_of}
use Rattle.id_check.specs.declared.typed.Typed.{Typed}
use Rattle.id_check.specs.Typed.{binder, kind, rows}
use Rattle.id_check.proofs.ParamsLemmas.{in_rows}
use Rattle.id_check.proofs.typed.Typed.note_row.Goals as goal

-- the causes in a row of this node, by these columns, are noted beside those from before
abbrev Noted : Typed → ℕ → Option CheckCause → Option CheckCause → Node → Type 0
Noted t i f g n = Notes f (causes_in (rows t) (kind t) (binder t (user_of i n)) (at (rows t) i).place n) g

pub returns-in-Arg : goal.returns-in-Arg
returns-in-Arg c =
    let t = c.args.self.now in
    let R = rows t in
    let f = c.args.first.now in
    let g = c.note_argument.new.first in
    let e = c.in-Arg.enter in
    let k = c.in-Arg.index in
    let v = c.in-Arg.value in
    let is : (at R c.args.i).node ≡ Arg e k v = ap (λ (r : Row). r.node) (sym c.at-row.ensures) ∙ c.in-Arg.is in
    let less =
    part_of e t.rows.now.table.now.formed (in_rows R c.args.i (λ q. let d : Head ≡ Arg e k v = sym q ∙ is in cc)) is
    (inl refl) in
    subst (Noted t c.args.i f g) (sym is)
    (subst (λ n. Notes f (wrong_argument R (kind t) (callee R (binder t e)) n k v) g) (t.counted.each e less)
    c.note_argument.ensures)
