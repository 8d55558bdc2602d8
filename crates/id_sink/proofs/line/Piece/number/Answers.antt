-- a number of 64 bits has at most 20 digits
use Rattle.std.proofs.Common.{rules, ◌≤◌, ◌∙◌, ap, arith, decimal, drop, length}
use Rattle.std.proofs.lemmas.Fmt.{length-decimal-le}
use Rattle.std.proofs.lemmas.List.{length-drop, length-append}
use Rattle.id_sink.proofs.line.Piece.number.Goals as goal

pub write_digits-self-inside-requires : goal.write_digits-self-inside-requires
write_digits-self-inside-requires c =
    let digits : length (decimal c.args.n) ≤ 20 = search (rules, length-decimal-le 20) in
    let s = c.self.inside in
    let room = ap length c.self.view_is in
    let left = length-drop s.start s.bytes in
    (omega (arith, digits, room, left, c.requires, c.self.invariant), omega (arith, c.self.invariant))

pub returns-clause-short : goal.returns-clause-short
returns-clause-short c =
    let digits : length (decimal c.args.n) ≤ 20 = search (rules, length-decimal-le 20) in
    let s = c.self.inside in
    let whole =
    ap length c.write_digits-self-inside.ensures.written ∙ length-append (decimal c.args.n) (drop s.start s.bytes) in
    omega (arith, digits, whole, ap length c.self.view_is)
