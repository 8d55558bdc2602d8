-- What is told is the last, and the rest stays.
use Rattle.std.proofs.Common.{◌++◌, ◌∷◌, [], sym, ap, subst, ◌∙◌}
use Rattle.std.specs.Prelude.{All}
use Rattle.std.proofs.lemmas.List.Elements.{All-push}
use Rattle.id_record.specs.Shorts.{IsWithin, telling_of}
use Rattle.id_record.proofs.AsidesLemmas.{all-kept, told-more}
use Rattle.id_record.proofs.tellings.Tellings.push_reserved.Goals as goal

pub returns-clause-items : goal.returns-clause-items
returns-clause-items c =
    let t = c.self.inside in
    let made = c.short_for-short in
    told-more IsWithin telling_of t.asides.items made.new.asides.items t.shorts.items c.push_reserved.new.self.items made.result c.args.telling
    made.ensures.others c.self.invariant made.ensures.is c.push_reserved.ensures.items
    ∙ ap (λ v. v.items ++ c.args.telling ∷ []) c.self.view_is

pub invariant_of-self : goal.invariant_of-self
invariant_of-self c =
    let t = c.self.inside in
    let made = c.short_for-short in
    let more = made.new.asides.items in
    subst (λ ss. All (IsWithin more) ss) (sym c.push_reserved.ensures.items)
    (All-push (IsWithin more) t.shorts.items made.result
    (all-kept IsWithin telling_of t.asides.items more t.shorts.items made.ensures.others c.self.invariant) made.ensures.within)
