use Rattle.std.proofs.Common.{◌≡◌, ◌<◌, [], None, get_or, length, sym, ◌∙◌, ap, subst, arith}
use Rattle.std.specs.Option.{option_or}
use Rattle.id_table.specs.declared.row.Row.{Row}
use Rattle.id_table.specs.Rows.{at}
use Rattle.id_check.specs.Firsts.{Notes}
use Rattle.id_check.specs.Scopes.{bound_name}
use Rattle.id_check.specs.Names.{again, in_scope, newly, sought}
use Rattle.id_check.specs.Passing.{rows}
use Rattle.id_check.proofs.BindLemmas.{sought_below, read_at, again-bound, again-free, bound_more, bound_kept}
use Rattle.id_check.proofs.BindLemmas.{bound_same, later_set, newly-bound, newly-given, newly-free}
use Rattle.id_check.proofs.FirstsLemmas.{Notes-none}
use Rattle.id_check.proofs.PassingLemmas.{are_names, none}
use Rattle.id_check.proofs.ScopesLemmas.{or_none}
use Rattle.id_check.proofs.scope.Scopes.bind.Goals as goal
use Rattle.id_check.proofs.scope.Scopes.bind.Goals.{In-Some, In_default, After-in_scope}

-- the name that the row binds is one of those that are counted
counted : (c : In-Some) → c.in-Some.name < length c.args.self.now.bound.items
counted c =
    let p = c.args.self.now in
    let h = p.inside in
    let inside = c.requires in
    let less : c.args.binder < length (rows p) = omega arith in
    subst (λ n. c.in-Some.name < n) (sym p.named) ((are_names p.rows.now).bound c.args.binder c.in-Some.name less
    (sym (c.bound_name.ensures ∙ ap (λ (r : Row). bound_name r.node) c.at.ensures) ∙ c.in-Some.is))

-- the row binds no name
unbound : (c : In_default) → bound_name (at (rows c.args.self.now) c.args.binder).node ≡ None
unbound c =
    sym (c.bound_name.ensures ∙ ap (λ (r : Row). bound_name r.node) c.at.ensures)
    ∙ none c.bound_name.result c.in_default.not-Some

-- what is looked at is the binder that the scope has of the name, if it has one
looked : (c : After-in_scope) → c.in-Some.name < length c.args.self.now.bound.items
    → in_scope c.args.self.now.passed (get_or c.args.self.now.bound.items c.in-Some.name None) ≡ c.in_scope.result
looked c less =
    sym (c.in_scope.ensures
    ∙ ap (in_scope c.args.self.now.passed)
    (read_at c.args.self.now.bound.items c.in-Some.name c.index.result.now c.index.ensures less))

pub returns-in-Some-in_scope-clause-first : goal.returns-in-Some-in_scope-clause-first
returns-in-Some-in_scope-clause-first c =
    let d = (goal.at.returns-in-Some-in_scope-clause-first c).After-in_scope in
    let less = counted ((goal.at.returns-in-Some-in_scope-clause-first c).In-Some) in
    subst (λ cs. Notes c.args.self.now.first cs c.note_second.new.first)
    (sym (again-bound (rows c.args.self.now) c.args.self.now.passed c.args.binder c.in-Some.name
    c.args.self.now.bound.items _ (sym (c.bound_name.ensures ∙ ap (λ (r : Row). bound_name r.node) c.at.ensures)
    ∙ c.in-Some.is)
    c.in-Some-in_scope.earlier (looked d less ∙ c.in-Some-in_scope.is)))
    c.note_second.ensures

pub returns-in-Some-in_scope-clause-binders : goal.returns-in-Some-in_scope-clause-binders
returns-in-Some-in_scope-clause-binders c = λ i inside.
    let d = (goal.at.returns-in-Some-in_scope-clause-binders c).After-in_scope in
    let less = counted ((goal.at.returns-in-Some-in_scope-clause-binders c).In-Some) in
    newly-bound (rows c.args.self.now) c.args.self.now.passed c.args.binder c.in-Some.name c.args.self.now.bound.items _
    (sym (c.bound_name.ensures ∙ ap (λ (r : Row). bound_name r.node) c.at.ensures) ∙ c.in-Some.is)
    c.in-Some-in_scope.earlier
    (looked d less ∙ c.in-Some-in_scope.is) i
    (get_or c.args.self.now.binders.items i None)

pub returns-in-Some-sought-clause-binders : goal.returns-in-Some-sought-clause-binders
returns-in-Some-sought-clause-binders c = λ i inside.
    let d = (goal.at.returns-in-Some-sought-clause-binders c).After-in_scope in
    let less = counted ((goal.at.returns-in-Some-sought-clause-binders c).In-Some) in
    c.resolve.ensures.binders i inside
    ∙ ap (option_or (get_or c.args.self.now.binders.items i None))
    (sym (newly-given (rows c.args.self.now) c.args.self.now.passed c.args.binder c.in-Some.name
    c.args.self.now.bound.items _ (sym (c.bound_name.ensures ∙ ap (λ (r : Row). bound_name r.node) c.at.ensures)
    ∙ c.in-Some.is)
    (looked d less ∙ c.in_default-in_scope.is)
    c.in-Some-sought.key i
    (sym (c.sought.ensures ∙ ap (λ (r : Row). sought r.node c.in-Some.name) c.at-in_default-in_scope.ensures)
    ∙ c.in-Some-sought.is)))

pub returns-in_default-sought-clause-binders : goal.returns-in_default-sought-clause-binders
returns-in_default-sought-clause-binders c = λ i inside.
    let d = (goal.at.returns-in_default-sought-clause-binders c).After-in_scope in
    let less = counted ((goal.at.returns-in_default-sought-clause-binders c).In-Some) in
    newly-free (rows c.args.self.now) c.args.self.now.passed c.args.binder c.in-Some.name c.args.self.now.bound.items _
    (sym (c.bound_name.ensures ∙ ap (λ (r : Row). bound_name r.node) c.at.ensures) ∙ c.in-Some.is)
    (looked d less ∙ c.in_default-in_scope.is) i
    (get_or c.args.self.now.binders.items i None)
    (sym (c.sought.ensures ∙ ap (λ (r : Row). sought r.node c.in-Some.name) c.at-in_default-in_scope.ensures)
    ∙ none c.sought.result c.in_default-sought.not-Some)

pub index-requires : goal.index-requires
index-requires c = omega (arith, counted c, c.args.self.now.bound.ok.0)

pub index_mut-requires : goal.index_mut-requires
index_mut-requires c = omega (arith, counted ((goal.at.index_mut-requires c).In-Some), c.args.self.now.bound.ok.0)

pub returns-in-Some-in_scope-clause-bound : goal.returns-in-Some-in_scope-clause-bound
returns-in-Some-in_scope-clause-bound c = λ x within.
    let d = (goal.at.returns-in-Some-in_scope-clause-bound c).After-in_scope in
    let less = counted ((goal.at.returns-in-Some-in_scope-clause-bound c).In-Some) in
    bound_same (rows c.args.self.now) c.args.self.now.passed c.args.binder c.in-Some.name c.args.self.now.bound.items _
    (sym (c.bound_name.ensures ∙ ap (λ (r : Row). bound_name r.node) c.at.ensures) ∙ c.in-Some.is)
    c.in-Some-in_scope.earlier
    (looked d less ∙ c.in-Some-in_scope.is) x

pub returns-in-Some-in_scope-clause-later : goal.returns-in-Some-in_scope-clause-later
returns-in-Some-in_scope-clause-later c = λ x t far e. e

pub returns-in-Some-sought-clause-bound : goal.returns-in-Some-sought-clause-bound
returns-in-Some-sought-clause-bound c = λ x within.
    let d = (goal.at.returns-in-Some-sought-clause-bound c).After-in_scope in
    let less = counted ((goal.at.returns-in-Some-sought-clause-bound c).In-Some) in
    ap (λ bs. in_scope c.args.self.now.passed (get_or bs x None)) c.resolve.ensures.keeps.bound
    ∙ bound_more (rows c.args.self.now) c.args.self.now.passed c.args.binder c.in-Some.name c.args.self.now.bound.items
    _ (sym (c.bound_name.ensures ∙ ap (λ (r : Row). bound_name r.node) c.at.ensures) ∙ c.in-Some.is)
    (looked d less ∙ c.in_default-in_scope.is) less x within

pub returns-in-Some-sought-clause-later : goal.returns-in-Some-sought-clause-later
returns-in-Some-sought-clause-later c = λ x t far e.
    ap (λ bs. in_scope t (get_or bs x None)) c.resolve.ensures.keeps.bound
    ∙ later_set c.args.self.now.passed c.args.binder c.in-Some.name x t c.args.self.now.bound.items
    (counted ((goal.at.returns-in-Some-sought-clause-later c).In-Some)) far e

pub returns-in-Some-sought-clause-first : goal.returns-in-Some-sought-clause-first
returns-in-Some-sought-clause-first c =
    let d = (goal.at.returns-in-Some-sought-clause-first c).After-in_scope in
    let less = counted ((goal.at.returns-in-Some-sought-clause-first c).In-Some) in
    subst (λ cs. Notes c.args.self.now.first cs c.resolve.new.self.first)
    (sym (again-free (rows c.args.self.now) c.args.self.now.passed c.args.binder c.in-Some.name
    c.args.self.now.bound.items _
    (sym (c.bound_name.ensures ∙ ap (λ (r : Row). bound_name r.node) c.at.ensures) ∙ c.in-Some.is) (looked d less
    ∙ c.in_default-in_scope.is)))
    (subst (Notes c.args.self.now.first []) (sym c.resolve.ensures.keeps.first) (Notes-none c.args.self.now.first))

pub returns-in_default-sought-clause-bound : goal.returns-in_default-sought-clause-bound
returns-in_default-sought-clause-bound c = λ x within.
    let d = (goal.at.returns-in_default-sought-clause-bound c).After-in_scope in
    let less = counted ((goal.at.returns-in_default-sought-clause-bound c).In-Some) in
    bound_more (rows c.args.self.now) c.args.self.now.passed c.args.binder c.in-Some.name c.args.self.now.bound.items _
    (sym (c.bound_name.ensures ∙ ap (λ (r : Row). bound_name r.node) c.at.ensures) ∙ c.in-Some.is)
    (looked d less ∙ c.in_default-in_scope.is) less x within

pub returns-in_default-sought-clause-later : goal.returns-in_default-sought-clause-later
returns-in_default-sought-clause-later c = λ x t far e.
    later_set c.args.self.now.passed c.args.binder c.in-Some.name x t c.args.self.now.bound.items
    (counted ((goal.at.returns-in_default-sought-clause-later c).In-Some)) far e

pub returns-in_default-sought-clause-first : goal.returns-in_default-sought-clause-first
returns-in_default-sought-clause-first c =
    let d = (goal.at.returns-in_default-sought-clause-first c).After-in_scope in
    let less = counted ((goal.at.returns-in_default-sought-clause-first c).In-Some) in
    subst (λ cs. Notes c.args.self.now.first cs c.args.self.now.first)
    (sym (again-free (rows c.args.self.now) c.args.self.now.passed c.args.binder c.in-Some.name
    c.args.self.now.bound.items _
    (sym (c.bound_name.ensures ∙ ap (λ (r : Row). bound_name r.node) c.at.ensures) ∙ c.in-Some.is) (looked d less
    ∙ c.in_default-in_scope.is)))
    (Notes-none c.args.self.now.first)

pub returns-in_default-clause-bound : goal.returns-in_default-clause-bound
returns-in_default-clause-bound c =
    λ x within. bound_kept _ c.args.self.now.passed c.args.binder x c.args.self.now.bound.items (unbound c)

pub returns-in_default-clause-binders : goal.returns-in_default-clause-binders
returns-in_default-clause-binders c = λ i within.
    let p = get_or c.args.self.now.binders.items i None in
    sym (or_none p _
    (ap (λ q. newly (rows c.args.self.now) c.args.self.now.passed c.args.binder c.args.self.now.bound.items q i)
    (unbound c)))

pub returns-in_default-clause-later : goal.returns-in_default-clause-later
returns-in_default-clause-later c = λ x t far e. e

pub returns-in_default-clause-first : goal.returns-in_default-clause-first
returns-in_default-clause-first c =
    subst (λ cs. Notes c.args.self.now.first cs c.args.self.now.first)
    (sym (ap (again (rows c.args.self.now) c.args.self.now.passed c.args.binder c.args.self.now.bound.items)
    (unbound c))) (Notes-none c.args.self.now.first)

pub overflow_cast-scope : goal.overflow_cast-scope
overflow_cast-scope c = let p = c.args.self.now in omega (arith, p.inside, p.rows.now.few)

pub overflow_cast-binder : goal.overflow_cast-binder
overflow_cast-binder c = let p = c.args.self.now in omega (arith, p.inside, c.requires, p.rows.now.few)

pub resolve-requires-clause-key : goal.resolve-requires-clause-key
resolve-requires-clause-key c =
    let p = c.args.self.now in
    let name = c.in-Some.name in
    let less = subst (λ n. name < n) p.named (counted ((goal.at.resolve-requires-clause-key c).In-Some)) in
    sought_below (at (rows p) p.passed).node name c.in-Some-sought.key (length p.rows.now.table.now.names.items)
    (sym (c.sought.ensures ∙ ap (λ (r : Row). sought r.node c.in-Some.name) c.at-in_default-in_scope.ensures)
    ∙ c.in-Some-sought.is) less

pub sought-requires : goal.sought-requires
sought-requires c =
    let less = counted ((goal.at.sought-requires c).In-Some) in omega (arith, less, c.args.self.now.bound.ok.0)
