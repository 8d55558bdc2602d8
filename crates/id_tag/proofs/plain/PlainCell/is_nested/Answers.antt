use Rattle.id_tag.specs.Plains.{high_of, low_of}
use Rattle.id_tag.proofs.plain.PlainCell.is_nested.Goals as goal

-- src/plain.rt:208:5
pub returns : goal.returns
returns c =
    let place = c.args.self.place in
    c.is_nested.ensures (low_of place) (high_of place)
