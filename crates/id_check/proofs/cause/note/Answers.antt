use Rattle.std.proofs.Common.{refl, sym, ◌∙◌, subst}
use Rattle.std.proofs.lemmas.Bool.{false≢true}
use Rattle.id_check.specs.Firsts.{IsFirstOf}
use Rattle.id_check.proofs.FirstsLemmas.{IsFirst-stays, IsFirst-turns}
use Rattle.id_check.proofs.cause.note.Goals as goal

pub returns-in-Some : goal.returns-in-Some
returns-in-Some c = λ cs h.
    IsFirst-stays c.in-Some.earlier c.args.cause cs (c.if-is_before.ensures.0 refl)
    (subst (λ o. IsFirstOf o cs) c.in-Some.is h)

pub returns-in_default : goal.returns-in_default
returns-in_default c = λ cs h.
    IsFirst-turns c.in-Some.earlier c.args.cause cs
    (λ b. false≢true (sym c.if-is_before.false ∙ c.is_before.ensures.1 b))
    (subst (λ o. IsFirstOf o cs) c.in-Some.is h)
