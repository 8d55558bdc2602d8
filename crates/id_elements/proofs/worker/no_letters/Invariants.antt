-- So many are there, without messages, and there is room for the rest.
use Rattle.std.proofs.Common.{◌≡◌, ◌≤◌, [], map, replicate}
use Rattle.std.specs.Prelude.{vec_capacity, vec_len}
use Rattle.id_elements.proofs.worker.no_letters.Given as goal

abbrev pub invariant-loop : goal.invariant-loop
invariant-loop l = record {
  len : vec_len l.letters ≡ l.counter;
  room : l.count ≤ vec_capacity l.letters;
  are : map (λ q. q.messages) l.letters.items ≡ replicate l.counter [];
}
