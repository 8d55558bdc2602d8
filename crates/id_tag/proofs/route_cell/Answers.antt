use Rattle.std.proofs.Common.{pos, ◌∙◌, ap, rules}
use Rattle.std.specs.Int.{int_rem_euclid}
use Rattle.std.specs.Int.RustNames.{unsigned_abs}
use Rattle.id_tag.proofs.route_cell.Goals as goal

pub returns-clause-exact : goal.returns-clause-exact
returns-clause-exact c = c.rest.ensures.exact ∙ ap (λ z. unsigned_abs (int_rem_euclid z (pos c.args.count))) (search rules)
