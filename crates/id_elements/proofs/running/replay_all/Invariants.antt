use Rattle.std.proofs.Common.{◌<◌, ℕ, get_or}
use Rattle.id_core.specs.Replays.{ElementView, Replays}
use Rattle.id_elements.proofs.running.replay_all.Given as goal

abbrev pub invariant-loop-element : goal.invariant-loop-element
invariant-loop-element l = (k : ℕ) (d : ElementView) → k < l.element-index → Replays (get_or l.elements k d)
