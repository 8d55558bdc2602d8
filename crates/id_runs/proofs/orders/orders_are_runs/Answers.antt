-- Each message was in flight when it was taken, and each element's events lead it from its fresh state to its end.
use Rattle.id_runs.proofs.OrdersLemmas.{orders}
use Rattle.id_runs.proofs.orders.orders_are_runs.Goals as goal

pub returns : goal.returns
returns c = orders
