-- What is kept of a run suffices for what is asked for.
use Rattle.std.proofs.Common.{◌≡◌, ◌≢◌, Bool, true, false, refl}
use Rattle.id_record.specs.declared.kept.Keeps.TheVariants as keeps
use Rattle.id_engine.specs.Runs.{keeps_for}

pub keeps_names : (trace names : Bool) → names ≡ true → keeps_for trace names ≢ keeps.Tellings
keeps_names true names asked is = cc
keeps_names false true asked is = cc
keeps_names false false asked is = cc

pub keeps_trace : (trace names : Bool) → trace ≡ true → keeps_for trace names ≡ keeps.All
keeps_trace true names asked = refl
keeps_trace false names asked = absurd cc
