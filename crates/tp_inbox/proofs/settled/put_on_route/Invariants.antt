-- The messages of the history are there, and those of the first of the rest.
use Rattle.std.proofs.Common.{◌≡◌, ◌++◌, take}
use Rattle.std.specs.List.{flat_map}
use Rattle.tp_inbox.specs.PutMessages.{message_of_entry}
use Rattle.tp_inbox.specs.Routed.{rest_arrivals}
use Rattle.tp_inbox.proofs.settled.put_on_route.Given as goal

abbrev pub invariant-loop-port : goal.invariant-loop-port
invariant-loop-port l = l.messages.items ≡ flat_map (message_of_entry l.route) (l.fn.desk.log ++ rest_arrivals (take l.port-index l.rest))
