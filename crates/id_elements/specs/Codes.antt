-- The code of a worker, by which its model tells it apart.
use Rattle.std.specs.Prelude.{Bool, List, refl}
use Rattle.std.specs.Coded.{Coded, code_by, coded×, coded_bool, coded_list}
use Rattle.id_tag.specs.declared.Message.{Message}
use Rattle.id_inbox.specs.Doors.{DoorView}
use Rattle.id_inbox.specs.contracts.door.Door as door
use Rattle.id_step.specs.Replays.{ElementView}
use Rattle.id_step.specs.Codes.{coded_element, coded_message}
use Rattle.id_elements.specs.Workers.{WorkerView}

-- a door has the code of its type
abbrev pub coded_door : Coded DoorView
coded_door = door.the_row.coded

-- a list of messages has the code of a list of theirs
abbrev pub coded_messages : Coded (List Message)
coded_messages = coded_list coded_message

-- a worker as the tuple of its fields
abbrev pub coded_worker : Coded WorkerView
coded_worker =
    code_by (Bool × (List DoorView × (ElementView
    × (List Message × (List Message × (List Message × (List Message × List (List Message))))))))
    (coded× coded_bool (coded× (coded_list coded_door) (coded× coded_element
    (coded× coded_messages (coded× coded_messages
    (coded× coded_messages (coded× coded_messages (coded_list coded_messages))))))))
    (λ w. (w.goes, (w.doors, (w.element, (w.own, (w.came, (w.back, (w.stray, w.letters))))))))
    (λ p. record {
      goes = p.0;
      doors = p.1.0;
      element = p.1.1.0;
      own = p.1.1.1.0;
      came = p.1.1.1.1.0;
      back = p.1.1.1.1.1.0;
      stray = p.1.1.1.1.1.1.0;
      letters = p.1.1.1.1.1.1.1;
    })
    (λ _. refl)
