use Rattle.std.proofs.Common.{sym, ◌∙◌, arith}
use Rattle.std.specs.Prelude.{None}
use Rattle.std.proofs.lemmas.List.{get_or_past, get_or_read}
use Rattle.id_check.proofs.checked.Checked.binder.Goals as goal

pub index-requires : goal.index-requires
index-requires c = omega (arith, c.if-i-len.true, c.len.ensures)

pub returns-then-i-len : goal.returns-then-i-len
returns-then-i-len c =
    let ks = c.args.self.now.binders in
    c.wide.ensures
    ∙ get_or_read ks.items c.args.i _ (omega (arith, c.if-i-len.true, c.len.ensures, ks.ok.0)) c.index.ensures None

pub returns-else-i-len : goal.returns-else-i-len
returns-else-i-len c =
    let ks = c.args.self.now.binders in
    sym (get_or_past ks.items c.args.i None (omega (arith, c.if-i-len.false, c.len.ensures, ks.ok.0)))
