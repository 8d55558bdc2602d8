-- the token meets the value of one slot, or its value is kept in one
use Rattle.std.proofs.Common.{refl}
use Rattle.id_tag.specs.Plains.{tag_in, whole}
use Rattle.id_match.proofs.SlotLemmas.{partner_first, partner_second, kept_first, kept_second, found_first, found_second}
use Rattle.id_match.proofs.front.Pair.meet.Goals as goal

pub returns-then-is_first_free-clause-met : goal.returns-then-is_first_free-clause-met
returns-then-is_first_free-clause-met c = λ single. kept_first c.args.self.now (tag_in c.args.token.now) c.args.token.now.port
    (whole c.args.token.now.value) c.keep.new.self c.keep.ensures.tag c.keep.ensures.half
    (c.if-is_first_free.ensures.empty refl) (c.if-is_first_free.ensures.other refl)

pub returns-then-is_partner-clause-met : goal.returns-then-is_partner-clause-met
returns-then-is_partner-clause-met c = λ single. partner_first c.args.self.now (tag_in c.args.token.now) c.args.token.now.port
    (whole c.args.token.now.value) c.leave.new.self c.leave.result c.leave.ensures.empty single
    (c.if-is_partner.ensures refl) c.leave.ensures.value

pub returns-then-is_partner-clause-found : goal.returns-then-is_partner-clause-found
returns-then-is_partner-clause-found c = λ _. found_first c.args.self.now (tag_in c.args.token.now) _ (c.if-is_partner.ensures refl)

pub returns-then-is_partner-2-clause-met : goal.returns-then-is_partner-2-clause-met
returns-then-is_partner-2-clause-met c = λ single. partner_second c.args.self.now (tag_in c.args.token.now) c.args.token.now.port
    (whole c.args.token.now.value) c.leave-then-is_partner-2.new.self c.leave-then-is_partner-2.result
    c.leave-then-is_partner-2.ensures.empty single (c.if-is_partner-2.ensures refl) c.leave-then-is_partner-2.ensures.value

pub returns-then-is_partner-2-clause-found : goal.returns-then-is_partner-2-clause-found
returns-then-is_partner-2-clause-found c = λ _. found_second c.args.self.now (tag_in c.args.token.now) _ (c.if-is_partner-2.ensures refl)

pub returns-then-is_second_free-clause-met : goal.returns-then-is_second_free-clause-met
returns-then-is_second_free-clause-met c = λ single. kept_second c.args.self.now (tag_in c.args.token.now) c.args.token.now.port
    (whole c.args.token.now.value) c.keep-then-is_second_free.new.self c.keep-then-is_second_free.ensures.tag
    c.keep-then-is_second_free.ensures.half (c.if-is_second_free.ensures.empty refl) (c.if-is_second_free.ensures.other refl)
