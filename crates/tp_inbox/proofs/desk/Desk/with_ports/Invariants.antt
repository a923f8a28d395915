-- So many new queues were made, and there is room for the others.
use Rattle.std.proofs.Common.{◌≡◌, ◌≤◌, [], replicate, vec_capacity}
use Rattle.tp_queue.specs.Queues.{state_of}
use Rattle.tp_inbox.proofs.desk.Desk.with_ports.Given as goal

abbrev pub invariant-loop : goal.invariant-loop
invariant-loop l =
    record {
      ports : l.ports.items ≡ replicate l.counter (state_of []);
      room : l.count ≤ vec_capacity l.ports;
    }
