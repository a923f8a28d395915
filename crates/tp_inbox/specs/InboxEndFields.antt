-- How the fields of an inbox's ends are related to its queue.
use Rattle.std.specs.Prelude.{◌≡◌, ◌≢◌, ◌<◌, ◌≤◌, ◌==◌, ◌%◌, ◌^◌, ℕ, Option, Some, None, List, [], ◌∷◌, ◌++◌, length}
use Rattle.std.specs.Prelude.{map, slice_index_or, vec_capacity, All, AllPairs}
use Rattle.std.specs.Arc.{arc_value}
use Rattle.crossbeam_queue.specs.SegTies.{IsSegPassOf}
use Rattle.tp_inbox.specs.declared.posted.Posted.{Posted}
use Rattle.tp_config.specs.declared.port_type.CompId.{CompId}
use Rattle.tp_config.specs.declared.port_type.RouteId.{RouteId}
use Rattle.tp_inbox.specs.declared.channel.Channel.{Channel}
use Rattle.tp_inbox.specs.declared.entry.Entry.{Entry}
use Rattle.tp_inbox.specs.declared.envelope.InboxEnvelope.{InboxEnvelope}
use Rattle.tp_inbox.specs.declared.rule.View.{View}
use Rattle.tp_inbox.specs.declared.sender.Sender.TheInside as sender
use Rattle.tp_inbox.specs.declared.owner.Owner.TheInside as owner
use Rattle.tp_inbox.specs.Envelopes.{of, has, one_of, envelopes_before, AreRouted, AreWhole, EndsWith, AreCounts}
use Rattle.tp_inbox.specs.Envelopes.{Ledger}
use Rattle.tp_inbox.specs.Rule.{sender_pass, Sound}
use Rattle.tp_inbox.specs.Routed.{arrivals_of, posted_of, route_at}
use Rattle.tp_inbox.specs.Places.{AreFiled}
use Rattle.tp_inbox.specs.Ledgers.{Inbox}

-- the inbox whose ends share this channel
abbrev pub inbox_of : Channel → Inbox
inbox_of h = record { comp = h.comp; ports = h.ports; routes = h.routes.items; queue = h.queue }

-- what each of these components has put, from the ledger that the owner's pass knows of its sender
abbrev pub sent_by : List RouteId → List CompId → List Ledger → List (CompId × List Posted)
sent_by routes [] known = []
sent_by routes (c ∷ cs) [] = []
sent_by routes (c ∷ cs) (x ∷ known) = (c, map (posted_of routes) x.1) ∷ sent_by routes cs known

-- a place of one of these routes is among these places if and only if the route is from this component
abbrev pub AreFrom : CompId → List RouteId → List ℕ → Type 0
AreFrom source routes places = (p : ℕ) → p < length routes → has places p ≡ (source.0 == (route_at routes p).source.0)

-- there is a count for each of these places: the number of these envelopes on the route at the place
abbrev pub AreTold : List ℕ → List ℕ → List InboxEnvelope → Type 0
AreTold places counts es =
    (length counts ≡ length places)
    × ((k : ℕ) → k < length places → slice_index_or counts k 0 ≡ length (of (slice_index_or places k 0) es))

-- a sender's pass is a pass of its inbox's queue, and knows the places of its routes, no two of which are equal, and
-- what it has put; the counts are those of its routes
pub record IsSender (s : sender.Inside) : Type 0 where
  pub pass : IsSegPassOf (arc_value s.channel).queue s.pass
  pub view : s.pass.me.view.client ≡ sender_pass s.places.items s.pass.me.view.client.put
  pub low : All (λ p. p < length (arc_value s.channel).routes.items) s.places.items
  pub apart : AllPairs (λ p q. p ≢ q) s.places.items
  pub routed : AreRouted (length (arc_value s.channel).routes.items) s.pass.me.view.client.put
  pub counts : AreTold s.places.items s.counts.items s.pass.me.view.client.put

-- the number of envelopes that the owner has taken out, modulo 2^64, as the notifier counts what was announced
abbrev pub IsTakenCount : ℕ → View → Type 0
IsTakenCount n v = n ≡ length v.taken % 2 ^ 64

-- an owner's pass is a pass of its inbox's queue. What it has taken out is what was drained, followed by the envelope
-- in hand, and is counted as the notifier counts what was announced. The counts are those of what was drained, and the
-- table finds each route's place among them. There is room for each sender that returns, and for the envelope in hand.
pub record IsOwner (s : owner.Inside) : Type 0 where
  pub pass : IsSegPassOf (arc_value s.channel).queue s.pass
  pub sound : Sound s.pass.me.view.client
  pub split_off : s.pass.me.view.client.split_off ≡ length (arc_value s.channel).routes.items
  pub known : s.pass.me.view.client.known ≡ []
  pub ends : EndsWith s.pass.me.view.client.taken (one_of s.hand)
  pub taken : IsTakenCount s.taken s.pass.me.view.client
  pub counts : AreCounts
      (length (arc_value s.channel).routes.items)
      s.counts.items
      (envelopes_before s.pass.me.view.client.taken (one_of s.hand))
  pub places : AreFiled (length (arc_value s.channel).routes.items) (arc_value s.channel).routes.items s.places
  pub sources : s.sources.items ≡ []
  pub sources_room : length (arc_value s.channel).routes.items ≤ vec_capacity s.sources
  pub rest : s.rest.items ≡ []
  pub rest_room : 1 ≤ vec_capacity s.rest

-- the owner's pass has split off as many routes as before, and knows the same of the senders that have joined
abbrev pub KeepsRoutes : View → View → Type 0
KeepsRoutes v w = (w.split_off ≡ v.split_off) × (w.known ≡ v.known)

-- one more envelope was taken out; or none, and for each sender that has joined, all that it has put is taken out
abbrev pub Fetches : View → Option InboxEnvelope → View → Type 0
Fetches v (Some e) w = w.taken ≡ v.taken ++ e ∷ []
Fetches v None w = (w.taken ≡ v.taken) × AreWhole w.taken w.known

-- the envelope after all that was drained: the one that was in hand, or one more that was taken out; or none, if none
-- was in hand and none was taken out
abbrev pub GivesNext : View → Option InboxEnvelope → Option InboxEnvelope → View → Type 0
GivesNext v hand (Some e) w = w.taken ≡ envelopes_before v.taken (one_of hand) ++ e ∷ []
GivesNext v hand None w = (hand ≡ None) × (w.taken ≡ v.taken)

-- the arrivals that were drained
abbrev pub drained_of : owner.Inside → List Entry
drained_of s = arrivals_of (arc_value s.channel).routes.items (envelopes_before s.pass.me.view.client.taken (one_of s.hand))
