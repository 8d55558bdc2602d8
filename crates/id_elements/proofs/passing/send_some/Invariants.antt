-- So many of the last have been sent on, and there is room for the rest where those go back from.
use Rattle.std.proofs.Common.{◌≤◌, ◌+◌}
use Rattle.id_elements.proofs.PassingLemmas.{IsSending}
use Rattle.id_elements.proofs.passing.send_some.Given as goal

abbrev pub invariant-loop : goal.invariant-loop
invariant-loop l = record {
  sending : IsSending l.near.home.number l.sent l.counter l.fn.own.messages l.fn.back.messages l.fn.letters.items
      l.own.messages l.back.messages l.letters.items;
  room : l.sent ≤ l.back.room + l.counter;
}
