-- The tests hold at once, and the rest follows for a token that fits the graph.
use Rattle.std.proofs.Common.{◌<◌, ◌+◌, ◌^◌, ℕ, arith}
use Rattle.std.specs.Int.Bits.{bit_or}
use Rattle.std.proofs.Math.Dec.{leb, ltb}
use Rattle.std.proofs.lemmas.Bool.{leb-true, ltb-true}
use Rattle.std.proofs.lemmas.Nat.{le_or_l, le_or_r}
use Rattle.id_step.proofs.ShortLemmas.{IsShort-bound, both_true}
use Rattle.id_step.proofs.storage.Storage.is_short_after.Goals as goal

pub returns-clause-small : goal.returns-clause-small
returns-clause-small c = λ h.
    let a = c.args in
    let all : ℕ = bit_or a.last c.len.result in
    let tests = both_true (ltb all 4294967295) (leb a.most 256) h in
    let low : all < 4294967295 = ltb-true all 4294967295 tests.0 in
    omega (arith, low, le_or_l a.last c.len.result)

pub returns-clause-short : goal.returns-clause-short
returns-clause-short c = λ h.
    let a = c.args in
    let all : ℕ = bit_or a.last c.len.result in
    let tests = both_true (ltb all 4294967295) (leb a.most 256) h in
    let low : all < 4294967295 = ltb-true all 4294967295 tests.0 in
    let stamp : a.last + 1 < 2 ^ 32 = omega (arith, low, le_or_l a.last c.len.result) in
    let room : c.len.result < 2 ^ 32 = omega (arith, low, le_or_r a.last c.len.result) in
    let above : a.token.now.stamp < a.last + 1 = omega (arith, c.requires.above) in
    IsShort-bound a.graph.now a.self.now a.most a.token.now (a.last + 1) c.requires.bound c.requires.fits above stamp
    (rw (← c.len.ensures) room) (leb-true a.most 256 tests.1)
