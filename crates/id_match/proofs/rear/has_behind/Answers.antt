-- the table tells the frame, and that has what waits
use Rattle.std.proofs.Common.{◌≡◌, ◌∙◌, sym, ap, is_some, nat_eq}
use Rattle.std.specs.Map.{lookup}
use Rattle.id_match.specs.Rear.{halves_by, halves_in, halves_of, name_of}
use Rattle.id_match.proofs.rear.has_behind.Goals as goal

pub returns-in-Some-get : goal.returns-in-Some-get
returns-in-Some-get c =
    let halves : halves_of c.args.keys.now.entries c.args.frames.now (name_of c.args.tag) ≡ c.in-Some-get.frame.now.halves.items =
    ap (λ n. halves_of c.args.keys.now.entries c.args.frames.now n) (sym c.name_of.ensures)
    ∙ ap (halves_by c.args.frames.now) (sym c.in-Some.ensures.value) ∙ ap halves_in (sym c.in-Some-get.ensures) in
    c.is_some.ensures ∙ c.find.ensures.has ∙ ap (λ l. is_some (lookup (nat_eq c.args.tag.instr) l)) (sym halves)
