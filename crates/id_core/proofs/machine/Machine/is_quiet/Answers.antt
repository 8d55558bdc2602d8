-- The flags of the elements say it of their records.
use Rattle.std.proofs.Common.{◌≡◌, [], ap, arith}
use Rattle.std.proofs.lemmas.Grind.{common_steps}
use Rattle.std.proofs.lemmas.List.Elements.{All-map}
use Rattle.id_record.specs.Events.{AllWent}
use Rattle.id_core.proofs.MachinesLemmas.{All-from_map}
use Rattle.id_core.proofs.machine.Machine.is_quiet.Goals as goal

pub returns-then-is_empty : goal.returns-then-is_empty
returns-then-is_empty c =
    let elements = c.self.inside.elements.items in
    let nothing : c.self.inside.flight.messages ≡ [] = grind (arith, common_steps) in
    rw (← ap (λ v. v.world) c.self.view_is) (
      λ yes. record {
        empty = nothing;
        went = All-map (λ e. AllWent e.events) (λ e. e.state) elements
            (rw c.as_slice.ensures.value at (c.all_went.ensures.0 yes));
      },
      λ quiet. c.all_went.ensures.1
          (rw c.as_slice.ensures.value (All-from_map (λ e. AllWent e.events) (λ e. e.state) elements quiet.went)),
    )
