-- An operation of a component on its ports sees what the component has sent to itself before.
use Rattle.std.specs.Prelude.{◌≡◌, List, All, length}
use Rattle.tp_config.specs.declared.port_type.CompId.{CompId}
use Rattle.tp_config.specs.declared.port_type.RouteId.{RouteId}
use Rattle.tp_inbox.specs.declared.entry.Entry.{Entry}
use Rattle.tp_inbox.specs.declared.entry.Entry.TheVariants as entry
use Rattle.tp_inbox.specs.History.{sent_on, arrived_on}
use Rattle.tp_behaviour.specs.Moments.{Moment, moments}

-- the entry looks at the ports' queues, or is an operation on a port
abbrev pub LooksAtPorts : Entry → Type 0
LooksAtPorts (entry.Arrive p s e) = ⊥
LooksAtPorts (entry.Took p b e) = Unit {0}
LooksAtPorts (entry.Found p b e) = Unit {0}
LooksAtPorts (entry.Dropped p b e) = Unit {0}
LooksAtPorts (entry.Cleared p) = Unit {0}
LooksAtPorts (entry.Started p) = Unit {0}
LooksAtPorts (entry.Stopped p) = Unit {0}
LooksAtPorts (entry.Halted p) = Unit {0}
LooksAtPorts (entry.Sent r n m) = ⊥
LooksAtPorts entry.Else = Unit {0}
LooksAtPorts (entry.Verdict v) = ⊥
LooksAtPorts (entry.Failed c) = ⊥

-- on each route from the component to itself, as many messages have arrived as were sent
abbrev pub HasOwn : CompId → List Entry → Type 0
HasOwn c k = (r : RouteId) → r.source ≡ c → r.to.comp ≡ c → length (arrived_on r k) ≡ length (sent_on r k)

-- before each entry that looks at ports, all that the component has sent to itself has arrived (22.2 to 22.5)
abbrev pub Fresh : CompId → List Entry → Type 0
Fresh c k = All (λ (t : Moment). LooksAtPorts t.entry → HasOwn c t.before) (moments k)
