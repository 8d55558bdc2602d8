-- Each of the heads is one of a loop.
use Rattle.std.proofs.Common.{◌∙◌, ◌++◌, ◌∷◌, [], List, ap, get_or, map, sym, take, take_all}
use Rattle.std.proofs.lemmas.List.{append_assoc, map-append, take_more}
use Rattle.id_instr.specs.declared.instr.Block.{Block}
use Rattle.id_build.specs.Made.{number_by}
use Rattle.id_build.specs.Schemas.{block_of}
use Rattle.id_build.proofs.BlocksLemmas.{loop_head_at}
use Rattle.id_build.proofs.program.push_loops.Goals as goal

pub add_loop-requires : goal.add_loop-requires
add_loop-requires c =
    let k = c.args.slots.now.kernel.now in
    let is = c.as_slice-heads.ensures.value ∙ k.headed in
    (loop_head_at k.checked.now c.as_slice-heads.result.now c.loop-head.head-index is c.loop-head-test.true).1

pub loop-head-preserved : goal.loop-head-preserved
loop-head-preserved c =
    let f = block_of c.args.slots.now.kernel.now.checked.now (number_by c.args.slots.now.firsts.items) in
    let hs = c.as_slice-heads.result.now in
    let i = c.loop-head.head-index in
    let h = get_or hs i 0 in
    let old = c.args.blocks.now.items in
    c.in_ok-add_loop.ensures ∙ ap (λ (l : List Block). l ++ f h ∷ []) c.loop-head.invariant
    ∙ append_assoc old (map f (take i hs)) (f h ∷ [])
    ∙ ap (λ l. old ++ l) (sym (map-append f (take i hs) (h ∷ []))
    ∙ ap (map f) (sym (take_more hs i 0 c.loop-head-test.true)))

pub returns : goal.returns
returns c =
    let k = c.args.slots.now.kernel.now in
    let f = block_of k.checked.now (number_by c.args.slots.now.firsts.items) in
    let all = take_all c.loop-head.head-index c.as_slice-heads.result.now c.loop-head-test.false in
    c.loop-head.invariant
    ∙ ap (λ l. c.args.blocks.now.items ++ map f l) (all ∙ c.as_slice-heads.ensures.value ∙ k.headed)
