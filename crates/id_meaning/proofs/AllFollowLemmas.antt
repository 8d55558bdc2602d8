-- What follows by a rule from facts of rows is among the effects of each of them.
use Rattle.std.proofs.Common.{ℕ, ◌<◌, List}
use Rattle.id_value.specs.List.{Among}
use Rattle.id_check.specs.Programs.{rows}
use Rattle.id_facts.specs.declared.cells.Cells.{Cells}
use Rattle.id_facts.specs.declared.facts.RowFact.{RowFact}
use Rattle.id_facts.specs.declared.facts.RowFact.TheVariants.{Has}
use Rattle.id_facts.specs.declared.facts.RowValue.{RowValue}
use Rattle.id_facts.specs.declared.facts.Trail.TheVariants.{Below}
use Rattle.id_source.specs.declared.links.Links.{Links}
use Rattle.id_facts.specs.declared.queues.Queues.{Queues}
use Rattle.id_source.specs.Sources.{Source}
use Rattle.id_facts.specs.Listed.{AreFound}
use Rattle.id_source.specs.Links.{AreArgs, AreReads, AreTurns}
use Rattle.id_facts.specs.Cells.{AreChained, items}
use Rattle.id_meaning.specs.Effects.{all_effects, effects}
use Rattle.id_facts.specs.Waits.{AreWaits}
use Rattle.id_meaning.proofs.CallsFollowLemmas.{asks_argument-follows, begins-follows, ends-follows, name-follows}
use Rattle.id_meaning.proofs.CallsFollowLemmas.{passes-follows}
use Rattle.id_meaning.proofs.ComesLemmas.{all-effects-in}
use Rattle.id_meaning.proofs.LoopsFollowLemmas.{again-follows, counts_first-follows, counts_on-follows, enters-follows}
use Rattle.id_meaning.proofs.LoopsFollowLemmas.{hands-follows, leads_out-follows, leaves-follows, runs-follows}
use Rattle.id_meaning.proofs.LoopsFollowLemmas.{starts-follows}
use Rattle.id_meaning.proofs.RowsFollowLemmas.{answered-follows, arm-follows, asked-follows, binary-follows}
use Rattle.id_meaning.proofs.RowsFollowLemmas.{binding-follows, block-follows}
use Rattle.id_meaning.proofs.RowsFollowLemmas.{conditional-follows, literal-follows, made_name-follows}
use Rattle.id_meaning.proofs.RowsFollowLemmas.{made_shape-follows, put_there-follows, turned-follows}
use Rattle.id_meaning.proofs.RowsFollowLemmas.{unary-follows}
use Rattle.id_meaning.proofs.RulesLemmas.{AllAmong, RowRule, main, input, turned, literal, unary, binary, name, arm}
use Rattle.id_meaning.proofs.RulesLemmas.{conditional, block, binding}
use Rattle.id_meaning.proofs.RulesLemmas.{made_shape, made_name, asked, answered, put_there, asks_argument, begins}
use Rattle.id_meaning.proofs.RulesLemmas.{passes, ends, starts, enters, counts_first, counts_on, again, runs}
use Rattle.id_meaning.proofs.RulesLemmas.{leaves, hands}
use Rattle.id_meaning.proofs.RulesLemmas.{leads_out}

module _ (S : Source) (l : Links) (W : Queues) (c : Cells) (chained : AreChained c) (found : AreFound S (items c))
    (turns : AreTurns (rows S.checked) l.turns) (reads : AreReads S.checked l.reads) (args : AreArgs S.checked l.args)
    (waits : AreWaits S.checked l (items c) W)
    (few : (i k n : ℕ) (v : RowValue) → Among (Has (Below i k) n v) (items c) → k < 18446744073709551615) where
  pub follows : {fs : List RowFact} {x : RowFact} → RowRule S (items c) fs x → AllAmong (items c) fs → (g : RowFact)
      → Among g fs → Among x (effects S.checked l W c g)
  follows main h g k = absurd k
  follows (input i) h g k = absurd k
  follows (turned {p = p} {n = n} {a = a} w t) h g k = turned-follows S l W c chained found turns reads p n a w t g k
  follows (literal {p = p} {n = n} {c = y} st) h g k = literal-follows S l W c chained found turns reads p n y st h g k
  follows (unary {p = p} {n = n} {a = a} {o = o} {x = x} y st e) h g k =
      unary-follows S l W c chained found turns reads p n a o x y st e h g k
  follows (binary {p = p} {n = n} {a = a} {b = b} {o = o} {x = x} y z st e) h g k =
      binary-follows S l W c chained found turns reads p n a b o x y z st e h g k
  follows (name st e) h g k = name-follows S l W c chained found turns reads args waits few st e h g k
  follows (arm {p = p} {n = n} {s = s} {x = x} {y = y} {t = t} b st sp) h g k =
      arm-follows S l W c chained found turns reads p n s x y t b st sp h g k
  follows (conditional {p = p} {n = n} {s = s} {x = x} {y = y} {t = t} {v = v} b st sp) h g k =
      conditional-follows S l W c chained found turns reads p n s x y t v b st sp h g k
  follows (block {p = p} {n = n} {b = b} {v = v} st) h g k =
      block-follows S l W c chained found turns reads p n b v st h g k
  follows (binding {p = p} {n = n} {x = x} {a = a} {v = v} st) h g k =
      binding-follows S l W c chained found turns reads p n x a v st g k
  follows (made_shape {p = p} {n = n} {a = a} {b = b} {i = i} {lo = lo} {hi = hi} st o e) h g k =
      made_shape-follows S l W c chained found turns reads p n a b i lo hi st o e h g k
  follows (made_name {p = p} {n = n} {a = a} {b = b} {i = i} {lo = lo} {hi = hi} st o e) h g k =
      made_name-follows S l W c chained found turns reads p n a b i lo hi st o e h g k
  follows (asked {p = p} {n = n} {t = t} {i = i} {s = s} {j = j} {lo = lo} {hi = hi} st e) h g k =
      asked-follows S l W c chained found turns reads p n t i s j lo hi st e h g k
  follows (answered {p = p} {q = q} {n = n} {m = m} {s = s} {j = j} {v = v}) h g k =
      answered-follows S l W c chained found turns reads p q n m s j v h g k
  follows (put_there {p = p} {m = m} {t = t} {i = i} {x = x} {s = s} {j = j} {lo = lo} {hi = hi} {v = v} st e) h g k =
      put_there-follows S l W c chained found turns reads p m t i x s j lo hi v st e h g k
  follows (asks_argument st sm) h g k =
      asks_argument-follows S l W c chained found turns reads args waits few st sm h g k
  follows (begins st u df o) h g k = begins-follows S l W c chained found turns reads args waits few st u df o h g k
  follows (passes st sa u df t o) h g k =
      passes-follows S l W c chained found turns reads args waits few st sa u df t o h g k
  follows (ends st u df o) h g k = ends-follows S l W c chained found turns reads args waits few st u df o h g k
  follows (starts st o) h g k = starts-follows S l W c chained found turns reads args waits few st o h g k
  follows (enters st ne e o) h g k = enters-follows S l W c chained found turns reads args waits few st ne e o h g k
  follows (counts_first s o e) h g k = counts_first-follows S l W c chained found turns reads args waits few s o e h g k
  follows (counts_on j s o e) h g k = counts_on-follows S l W c chained found turns reads args waits few j s o e h g k
  follows (again j st o) h g k = again-follows S l W c chained found turns reads args waits few j st o h g k
  follows (runs j st o go b) h g k = runs-follows S l W c chained found turns reads args waits few j st o go b h g k
  follows (leaves j st o go) h g k = leaves-follows S l W c chained found turns reads args waits few j st o go h g k
  follows (hands j st ne o) h g k = hands-follows S l W c chained found turns reads args waits few j st ne o h g k
  follows (leads_out j st o) h g k = leads_out-follows S l W c chained found turns reads args waits few j st o h g k

  -- and among those of any facts that have one of them
  pub all-follow : {fs : List RowFact} {x : RowFact} → RowRule S (items c) fs x → AllAmong (items c) fs → (g : RowFact)
      → Among g fs → (gs : List RowFact) → Among g gs → Among x (all_effects S.checked l W c gs)
  all-follow {fs} {x} r h g k gs i = all-effects-in S l W c gs g x i (follows r h g k)
