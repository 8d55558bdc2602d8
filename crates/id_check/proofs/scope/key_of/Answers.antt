use Rattle.std.proofs.Common.{◌+◌, ap, inl, inr, arith}
use Rattle.id_check.specs.Names.{key_of}
use Rattle.id_check.proofs.scope.key_of.Goals as goal

pub overflow_add-result-in-Name : goal.overflow_add-result-in-Name
overflow_add-result-in-Name c =
    let x = c.in-Name.name in
    elim c.in-Name.is [
      | inl e ↦ let less = c.requires (x + x) (ap key_of e) in omega (arith, less)
      | inr e ↦ let less = c.requires (x + x) (ap key_of e) in omega (arith, less)
    ]

pub overflow_add-result : goal.overflow_add-result
overflow_add-result c =
    let x = c.in-Enter.name in
    let less = c.requires (x + x + 1) (ap key_of c.in-Enter.is) in
    omega (arith, less)

pub overflow_add-result-in-Enter : goal.overflow_add-result-in-Enter
overflow_add-result-in-Enter c =
    let x = c.in-Enter.name in
    let less = c.requires (x + x + 1) (ap key_of c.in-Enter.is) in
    omega (arith, less)
