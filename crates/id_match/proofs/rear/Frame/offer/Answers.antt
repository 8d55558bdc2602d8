-- the value is added at the end, or its partner is taken
use Rattle.std.proofs.Common.{◌≡◌, ◌∙◌, ◌++◌, [], ◌∷◌, Some, None, refl, sym, ap, subst, nat_eq}
use Rattle.std.specs.Map.{lookup}
use Rattle.id_match.specs.Halves.{half_after}
use Rattle.id_match.specs.Rear.{Sets, after_said}
use Rattle.id_match.proofs.CallLemmas.{apart_ports}
use Rattle.id_match.proofs.FramedLemmas.{sets_push, sets_taken}
use Rattle.id_match.proofs.FrontLemmas.{gone}
use Rattle.id_match.proofs.rear.Frame.offer.Goals as goal

pub returns-in_default-clause-sets : goal.returns-in_default-clause-sets
returns-in_default-clause-sets c =
    let none : lookup (nat_eq c.args.instr) c.args.self.now.halves.items ≡ None = c.in_default.ensures.none refl in
    subst (λ l. Sets c.args.self.now.halves.items l c.args.instr
    (half_after (lookup (nat_eq c.args.instr) c.args.self.now.halves.items) c.args.half.port c.args.half.value)) (sym c.in_ok-push.ensures.items)
    (subst (λ o. Sets c.args.self.now.halves.items (c.args.self.now.halves.items ++ (c.args.instr, c.args.half) ∷ []) c.args.instr
    (half_after o c.args.half.port c.args.half.value)) (sym none)
    (sets_push c.args.self.now.halves.items c.args.instr c.args.half none))

pub returns-in-Some-leaving-clause-sets : goal.returns-in-Some-leaving-clause-sets
returns-in-Some-leaving-clause-sets c =
    let p = c.args.self.now.halves.items in
    let was : lookup (nat_eq c.args.instr) p ≡ Some c.index.result.now.1 =
    (c.in-Some.ensures.found c.index.result.now).1 ∙ ap (λ x. Some x.1) (sym c.index.ensures) in
    let none : half_after (lookup (nat_eq c.args.instr) p) c.args.half.port c.args.half.value ≡ None =
    gone _ c.index.result.now.1 c.args.half.port c.args.half.value was
    (apart_ports c.index.result.now.1.port c.args.half.port (sym c.if-eq.ensures)) in
    subst (λ a. Sets p c.swap_remove.new.self.items c.args.instr (after_said a c.args.half (lookup (nat_eq c.args.instr) p)))
    (sym (c.in-Some-leaving.ensures.partner c.args.half))
    (subst (λ o. Sets p c.swap_remove.new.self.items c.args.instr o) (sym none)
    (sets_taken p c.in-Some.at c.swap_remove.result c.swap_remove.new.self.items c.args.instr c.in-Some.ensures.within
    c.swap_remove.ensures.value
    (ap (λ x. x.0) c.swap_remove.ensures.value ∙ (c.in-Some.ensures.found c.swap_remove.result).0) c.swap_remove.ensures.items))
