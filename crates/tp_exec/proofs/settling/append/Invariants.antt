-- The desk with the rest is the desk with all.
use Rattle.std.proofs.Common.{◌≡◌, ◌<◌, All}
use Rattle.std.specs.Vec.Iter.{into_iter_items}
use Rattle.tp_inbox.specs.Desks.{adding_all}
use Rattle.tp_inbox.specs.Routed.{rest_arrivals}
use Rattle.tp_exec.proofs.settling.append.Given as goal

abbrev pub invariant-loop-port : goal.invariant-loop-port
invariant-loop-port l =
    let rest = into_iter_items l.port-iterator in
    record {
      grown : adding_all l.desk (rest_arrivals rest) ≡ adding_all l.fn.desk (rest_arrivals l.fn.rest.items);
      within : All (λ x. x.0 < l.desk.ports) rest;
    }
