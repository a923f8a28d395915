-- What was moved so far stands at the end of the desk's history, and of what was drained.
use Rattle.std.proofs.Common.{◌≡◌, List, ◌++◌}
use Rattle.tp_inbox.specs.declared.entry.Entry.{Entry}
use Rattle.tp_inbox.specs.History.{arrivals}
use Rattle.tp_inbox.specs.Desks.{adding_all}
use Rattle.tp_inbox.specs.Routed.{AreArrivals}
use Rattle.tp_inbox.proofs.owner.Owner.drain_some.Given as goal

abbrev pub invariant-loop : goal.invariant-loop
invariant-loop g l =
    record {
      inbox : l.self.inbox ≡ l.initial.self.inbox;
      moved : (more : List Entry) × (l.desk ≡ adding_all l.initial.desk more) × (l.self.drained ≡ l.initial.self.drained ++ more);
      arrivals : arrivals l.desk.log ≡ l.self.drained;
      drained : AreArrivals l.self.inbox.routes l.self.drained;
    }
