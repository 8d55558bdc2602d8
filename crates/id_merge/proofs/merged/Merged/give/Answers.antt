-- Bytes of the line of the source are given on, or all logs are over.
use Rattle.std.proofs.Common.{◌-◌, ◌∙◌, ap, arith, drop, length, map, set, subst, sym, take}
use Rattle.std.proofs.lemmas.Grind.{common_steps}
use Rattle.id_log.specs.Logs.{Gives}
use Rattle.id_merge.specs.Heads.{told_behind}
use Rattle.id_merge.specs.Lines.{line_length}
use Rattle.id_merge.specs.Merging.{merged_ahead}
use Rattle.id_merge.proofs.KnownLemmas.{count_line, count_rest, count_some, drop_more, read_at, some_has, some_room, some_within}
use Rattle.id_merge.proofs.GivenLemmas.{given_many, over_known, same_byte}
use Rattle.id_merge.proofs.merged.Merged.give.Goals as goal

pub returns-in_default-clause-over : goal.returns-in_default-clause-over
returns-in_default-clause-over g c = λ none room.
    over_known (λ h. g.L.Log.ahead h.log) (λ h. drop h.from h.bytes.items) (λ h. h.over) c.args.self.now.inside c.args.self.now.heads.items c.requires
    c.in_default.ensures.none

pub index_mut-requires : goal.index_mut-requires
index_mut-requires g c =
    let within = some_within c.args.self.now.heads.items c.in-Some.place _ c.in-Some.ensures.bytes in
    grind (arith, common_steps, within)

pub overflow_sub-count : goal.overflow_sub-count
overflow_sub-count g c =
    let xs = c.args.self.now.heads.items in
    let x = c.index_mut.result.now in
    let at = read_at xs c.in-Some.place x (some_within xs c.in-Some.place _ c.in-Some.ensures.bytes) c.index_mut.ensures.value in
    count_some c.give-count.result (length c.args.room.now) (line_length (drop x.from x.bytes.items)) (length (drop x.from x.bytes.items))
    c.give-count.ensures.many (some_room (length c.args.room.now) c.is_empty.result c.is_empty.ensures c.if-is_empty.false)
    (some_has xs c.in-Some.place x _ at c.in-Some.ensures.bytes)

pub returns-clause-gives : goal.returns-clause-gives
returns-clause-gives g c =
    let xs = c.args.self.now.heads.items in
    let x = c.index_mut.result.now in
    let y = c.give-count.new.self in
    let count = c.give-count.result in
    let room = c.give-count.new.room in
    let rest = drop x.from x.bytes.items in
    let at = read_at xs c.in-Some.place x (some_within xs c.in-Some.place _ c.in-Some.ensures.bytes) c.index_mut.ensures.value in
    let some = count_some count (length c.args.room.now) (line_length rest) (length rest) c.give-count.ensures.many
    (some_room (length c.args.room.now) c.is_empty.result c.is_empty.ensures c.if-is_empty.false) (some_has xs c.in-Some.place x _ at c.in-Some.ensures.bytes) in
    let left = c.give-count.ensures.left in
    let given = given_many (λ h. g.L.Log.ahead h.log) (λ h. drop h.from h.bytes.items) (λ h. h.over) c.args.self.now.inside xs c.in-Some.place count _ x y at
    c.in-Some.ensures.some c.requires some (count_rest count (length c.args.room.now) (line_length rest) (length rest) c.give-count.ensures.many)
    (count_line count (length c.args.room.now) (line_length rest) (length rest) c.give-count.ensures.many) (ap (λ h. g.L.Log.ahead h.log) left)
    (ap (λ h. h.over) left) (ap (λ h. drop h.from h.bytes.items) left ∙ drop_more x.from count x.bytes.items)
    (same_byte count (count - 1) room rest (omega (arith, some)) c.give-count.ensures.given) in
    subst (λ t. Gives (merged_ahead c.args.self.now.inside (map (λ h. told_behind (g.L.Log.ahead h.log) (drop h.from h.bytes.items) h.over) xs))
    (merged_ahead c.inside-self.result (map (λ h. told_behind (g.L.Log.ahead h.log) (drop h.from h.bytes.items) h.over) (set xs c.in-Some.place y))) t)
    (sym c.give-count.ensures.given)
    (subst (λ o. Gives (merged_ahead c.args.self.now.inside (map (λ h. told_behind (g.L.Log.ahead h.log) (drop h.from h.bytes.items) h.over) xs))
    (merged_ahead o (map (λ h. told_behind (g.L.Log.ahead h.log) (drop h.from h.bytes.items) h.over) (set xs c.in-Some.place y))) (take count rest))
    (sym c.inside-self.ensures) given)

pub returns-clause-over : goal.returns-clause-over
returns-clause-over g c = λ none room.
    (let xs = c.args.self.now.heads.items in
    let x = c.index_mut.result.now in
    let at = read_at xs c.in-Some.place x (some_within xs c.in-Some.place _ c.in-Some.ensures.bytes) c.index_mut.ensures.value in
    let some = count_some c.give-count.result (length c.args.room.now) (line_length (drop x.from x.bytes.items)) (length (drop x.from x.bytes.items))
    c.give-count.ensures.many (some_room (length c.args.room.now) c.is_empty.result c.is_empty.ensures c.if-is_empty.false)
    (some_has xs c.in-Some.place x _ at c.in-Some.ensures.bytes) in
    absurd (omega (arith, some, none)))
