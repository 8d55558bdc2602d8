use Rattle.std.proofs.Common.{◌-◌}
use Rattle.std.specs.Io.KnownBytes.{Keeps}
use Rattle.id_sink.proofs.WritingLemmas.{AreCut}
use Rattle.id_sink.proofs.stream.write_some.Given as goal

-- so many writes were cut short, and have taken nothing
abbrev pub invariant-loop-cuts : goal.invariant-loop-cuts
invariant-loop-cuts g l = AreCut (g.D.Device.view l.initial.device).outlook (g.D.Device.view l.device).outlook l.cuts
    × Keeps (g.D.Device.view l.initial.device).contents (g.D.Device.view l.device).contents

abbrev pub decreases-loop-cuts : goal.decreases-loop-cuts
decreases-loop-cuts g l = 18446744073709551615 - l.cuts
