-- The reads that were cut short have taken nothing.
use Rattle.std.proofs.Common.{◌-◌}
use Rattle.std.specs.Io.KnownBytes.{Keeps}
use Rattle.id_log.proofs.log.OpenedLog.read.Given as goal

abbrev pub invariant-loop-cuts : goal.invariant-loop-cuts
invariant-loop-cuts g l = Keeps (g.R.Read.remaining l.initial.self.reader) (g.R.Read.remaining l.self.reader)

abbrev pub decreases-loop-cuts : goal.decreases-loop-cuts
decreases-loop-cuts g l = 18446744073709551615 - l.cuts
