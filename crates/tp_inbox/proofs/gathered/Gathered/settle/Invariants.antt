-- What was taken out is what was drained and then the rest, and all routes have joined.
use Rattle.std.proofs.Common.{◌≡◌, ◌++◌, length}
use Rattle.std.specs.List.{AllZip}
use Rattle.std.specs.Arc.{arc_value}
use Rattle.crossbeam_queue.specs.SegTies.{IsSegPassOf}
use Rattle.tp_inbox.specs.Rule.{Sound}
use Rattle.tp_inbox.specs.Routed.{arrivals_of, rest_arrivals}
use Rattle.tp_inbox.specs.InboxEndFields.{sent_by}
use Rattle.tp_inbox.specs.Gathers.{IsPutOf}
use Rattle.tp_inbox.proofs.gathered.Gathered.settle.Given as goal

abbrev pub invariant-loop : goal.invariant-loop
invariant-loop g l =
    let client = l.pass.me.view.client in
    let routes = (arc_value l.channel).routes.items in
    record {
      pass : IsSegPassOf (arc_value l.channel).queue l.pass;
      sound : Sound client;
      split_off : client.split_off ≡ length routes;
      same : client.known ≡ l.initial.pass.me.view.client.known;
      known : AllZip (IsPutOf routes) client.known (sent_by routes l.sources.items client.known);
      taken : arrivals_of routes client.taken ≡ l.fn.self.drained ++ rest_arrivals l.rest.items;
    }
