-- How the fields of a `Gathered` are related to the queue.
use Rattle.std.specs.Prelude.{◌≡◌, ◌-◌, List, ◌++◌, length, map, take}
use Rattle.std.specs.List.{AllZip}
use Rattle.std.specs.Arc.{arc_value}
use Rattle.crossbeam_queue.specs.SegTies.{IsSegPassOf}
use Rattle.tp_inbox.specs.declared.entry.Entry.{Entry}
use Rattle.tp_inbox.specs.declared.gathered.Gathered.TheInside.{Inside}
use Rattle.tp_config.specs.declared.port_type.CompId.{CompId}
use Rattle.tp_config.specs.declared.port_type.RouteId.{RouteId}
use Rattle.tp_inbox.specs.declared.posted.Posted.{Posted}
use Rattle.tp_inbox.specs.Envelopes.{Ledger}
use Rattle.tp_inbox.specs.Rule.{Sound}
use Rattle.tp_inbox.specs.Routed.{arrivals_of, rest_arrivals, posted_of}
use Rattle.tp_inbox.specs.InboxEndFields.{AreFrom, sent_by}

-- the arrivals made by all envelopes that were taken out
abbrev pub all_arrivals : Inside → List Entry
all_arrivals s = arrivals_of (arc_value s.channel).routes.items s.pass.me.view.client.taken

-- all of these before the rest: the arrivals that were drained
abbrev pub front_of : Inside → List Entry
front_of s = take (length (all_arrivals s) - length (rest_arrivals s.rest.items)) (all_arrivals s)

-- what the owner's pass knows of a sender: the places of all routes from its component, and all that it has put
abbrev pub IsPutOf : List RouteId → Ledger → CompId × List Posted → Type 0
IsPutOf routes x s = AreFrom s.0 routes x.0 × (s.1 ≡ map (posted_of routes) x.1)

-- for each sender that has joined, its component and what it had put
abbrev pub all_sent : Inside → List (CompId × List Posted)
all_sent s = sent_by (arc_value s.channel).routes.items s.sources.items s.pass.me.view.client.known

-- its pass is a pass of its inbox's queue; these senders have joined; and what was taken out is what was drained,
-- followed by the rest
pub record IsGathered (s : Inside) : Type 0 where
  pub pass : IsSegPassOf (arc_value s.channel).queue s.pass
  pub sound : Sound s.pass.me.view.client
  pub split_off : s.pass.me.view.client.split_off ≡ length (arc_value s.channel).routes.items
  pub known : AllZip (IsPutOf (arc_value s.channel).routes.items) s.pass.me.view.client.known (all_sent s)
  pub ends : all_arrivals s ≡ front_of s ++ rest_arrivals s.rest.items
