-- All senders of one inbox have come back.
use Rattle.std.proofs.Common.{◌≡◌, ◌≢◌, ℕ, zero, suc, ◌+◌, List, [], ◌∷◌, ◌++◌, Contains, get_or, length, map, refl, sym, ap, ◌∙◌, subst, All, AllPairs, arith}
use Rattle.std.specs.List.{AllZip}
use Rattle.std.proofs.lemmas.List.Elements.{All-nil, All-cons, All-append, All-contains, Contains-get_or}
use Rattle.tp_common.specs.declared.event.Env.{Env}
use Rattle.tp_value.specs.declared.message.Message.{Message}
use Rattle.tp_config.specs.declared.port_type.CompId.{CompId}
use Rattle.tp_config.specs.declared.port_type.RouteId.{RouteId}
use Rattle.tp_config.proofs.RouteLaws.{map_cases, map_contains}
use Rattle.tp_inbox.specs.declared.entry.Entry.{Entry}
use Rattle.tp_inbox.specs.declared.entry.Entry.TheVariants as entry
use Rattle.tp_inbox.specs.declared.posted.Posted.{Posted}
use Rattle.tp_inbox.specs.declared.stamped.Stamped.{Stamped}
use Rattle.tp_inbox.specs.History.{arrivals, arrived_from, arrived_on, numbered, posted_on, sent_to}
use Rattle.tp_inbox.specs.Routed.{AreDelivered, AreArrivalsNumbered, IsArrivalOn, rest_arrivals, routes_by, sources_of}
use Rattle.tp_inbox.specs.Ledgers.{AreSenders, Inbox, IsSenderInto, SenderLedger, put_by}
use Rattle.tp_inbox.proofs.ArrivalsOfEnvelopes.{arrivals-append}
use Rattle.tp_inbox.proofs.ComponentMessagesByRoute.{came_by_routes, sent_by_routes}
use Rattle.tp_behaviour.specs.Outboxes.{routes_of}
use Rattle.tp_exec.specs.declared.ended.EndedComponent.{EndedComponent}
use Rattle.tp_exec.specs.ReturnedSenders.{HasAll, HasCome, HasComeFrom, IsCounted, IsHandedBack, ShareNone, links_by}
use Rattle.tp_exec.specs.Rounds.{Link, link_by, links_in}
use Rattle.tp_exec.proofs.PairwiseDifferentElements.{flat_there, mapped_pairs}
use Rattle.tp_exec.proofs.RoutesBySourceComponent.{among_by, by_among, source_there, sources_apart}

-- they are those of these components into the inbox
back_senders : (logs : ℕ → List Entry) (i : Inbox) (cs : List CompId) (ss : List SenderLedger) → AllZip (IsHandedBack logs) (links_by i cs) ss
    → All (IsSenderInto i) ss × (map (λ (s : SenderLedger). s.source) ss ≡ cs)
back_senders logs i [] [] z = (All-nil (IsSenderInto i), refl)
back_senders logs i [] (s ∷ ss) z = absurd z
back_senders logs i (c ∷ cs) [] z = absurd z
back_senders logs i (c ∷ cs) (s ∷ ss) z =
    let more = back_senders logs i cs ss z.1 in
    let from : s.source ≡ c = ap (λ (w : Link). w.1) z.0.0 in
    let into : IsSenderInto i s =
    (ap (λ (w : Link). w.0) z.0.0, ap (λ (w : Link). w.2) z.0.0 ∙ ap (λ (d : CompId). routes_by d i.routes) (sym from)) in
    (All-cons (IsSenderInto i) s ss into more.0, λ k. from k ∷ more.1 k)

-- those of the inbox, in its order
pub are_senders : (logs : ℕ → List Entry) (i : Inbox) (ss : List SenderLedger) → AllZip (IsHandedBack logs) (links_in i) ss → AreSenders i ss
are_senders logs i ss z = back_senders logs i (sources_of i.routes) ss z

-- among them is that of each of these components
back_from : (logs : ℕ → List Entry) (i : Inbox) (cs : List CompId) (ss : List SenderLedger) → AllZip (IsHandedBack logs) (links_by i cs) ss → (c : CompId)
    → Contains cs c → (s : SenderLedger) × Contains ss s × IsHandedBack logs (link_by i c) s
back_from logs i [] ss z c h = absurd (omega (arith, h.1))
back_from logs i (d ∷ cs) [] z c h = absurd z
back_from logs i (d ∷ cs) (s ∷ ss) z c (zero, low, is) =
    (s, (0, omega arith, refl), subst (λ (e : CompId). IsHandedBack logs (link_by i e) s) is z.0)
back_from logs i (d ∷ cs) (s ∷ ss) z c (suc k, low, is) =
    let w = back_from logs i cs ss z.1 c (k, omega arith, is) in
    let there = w.1.1 in
    (w.0, (suc w.1.0, omega arith, w.1.2), w.2)

-- they have all routes of the inbox
pub have_all : (i : Inbox) (ss : List SenderLedger) → AreSenders i ss → All (Contains (routes_of ss)) i.routes
have_all i ss are = λ k d low.
    let r : RouteId = get_or i.routes k d in
    let here : Contains i.routes r = Contains-get_or i.routes k d low in
    let c : Contains (map (λ (s : SenderLedger). s.source) ss) r.source =
    subst (λ cs. Contains cs r.source) (sym are.1) (source_there i.routes r here) in
    let s = map_cases (λ (s : SenderLedger). s.source) ss r.source c in
    let into = All-contains (IsSenderInto i) ss s.0 are.0 s.1 in
    flat_there (λ (t : SenderLedger). t.routes) ss s.0 r s.1
    (subst (λ rs. Contains rs r) (sym into.1) (among_by s.0.source i.routes r here (sym s.2)))

-- and no two of them have one route
pub share_none : (i : Inbox) (ss : List SenderLedger) → AreSenders i ss → AllPairs ShareNone ss
share_none i ss are = λ a b d below within k p low j q few same.
    let s : SenderLedger = get_or ss a d in
    let t : SenderLedger = get_or ss b d in
    let apart : s.source ≢ t.source =
    mapped_pairs (λ (c e : CompId). c ≢ e) (λ (x : SenderLedger). x.source) ss
    (subst (AllPairs (λ (c e : CompId). c ≢ e)) (sym are.1) (sources_apart i.routes)) a b d below within in
    let one = from_own s (are.0 a d (omega (arith, below, within))) (get_or s.routes k p) (Contains-get_or s.routes k p low) in
    let other = from_own t (are.0 b d within) (get_or t.routes j q) (Contains-get_or t.routes j q few) in
    apart (sym one ∙ ap (λ (r : RouteId). r.source) (sym same) ∙ other)
  where
    from_own : (s : SenderLedger) → IsSenderInto i s → (r : RouteId) → Contains s.routes r → r.source ≡ s.source
    from_own s into r has = (by_among s.source i.routes r (subst (λ rs. Contains rs r) into.1 has)).1

pub length-numbered : (n : ℕ) (ms : List Stamped) → length (numbered n ms) ≡ length ms
length-numbered n [] = refl
length-numbered n (m ∷ ms) = ap suc (length-numbered (n + 1) ms)

-- what a component has put is what came from it
abbrev Came : CompId → List Entry → CompId × List Posted → Type 0
Came comp log v = arrived_from comp v.0 log ≡ v.1

module _ (logs : ℕ → List Entry) (i : Inbox) (e : EndedComponent) (ss : List SenderLedger) (z : AllZip (IsHandedBack logs) (links_in i) ss)
    (came : AreDelivered i.comp e.desk.log (map put_by ss)) (order : AreArrivalsNumbered i.routes e.desk.log)
    (here : All (λ (r : RouteId). r.to.comp ≡ i.comp) i.routes)
    (counts : (s : SenderLedger) (r : RouteId) → Contains ss s → Contains s.routes r → Contains i.routes r → IsCounted e.counts.items s r) where
  -- what a component's history says was sent there is what its sender has put
  put_as : (c : CompId) (s : SenderLedger) → IsHandedBack logs (link_by i c) s → sent_to i.comp (logs c.0) ≡ s.ledger
  put_as c s back = ap (λ (j : Inbox). sent_to j.comp (logs c.0)) (sym (ap (λ (w : Link). w.0) back.0)) ∙ back.1

  -- and this is what came
  came_as : (c : CompId) (s : SenderLedger) → Contains ss s → IsHandedBack logs (link_by i c) s → arrived_from i.comp c e.desk.log ≡ s.ledger
  came_as c s there back =
      ap (λ (d : CompId). arrived_from i.comp d e.desk.log) (sym (ap (λ (w : Link). w.1) back.0))
      ∙ All-contains (Came i.comp e.desk.log) (map put_by ss) (put_by s) came (map_contains put_by ss s there)

  come_on : (r : RouteId) → Contains i.routes r → HasCome logs e r
  come_on r known =
      let w = back_from logs i (sources_of i.routes) ss z r.source (source_there i.routes r known) in
      let s : SenderLedger = w.0 in
      let to : r.to.comp ≡ i.comp = All-contains (λ (q : RouteId). q.to.comp ≡ i.comp) i.routes r here known in
      let has : Contains s.routes r = subst (λ (v : Link). Contains v.2 r) (sym w.2.0) (among_by r.source i.routes r known refl) in
      let put : arrived_on r e.desk.log ≡ posted_on r s.ledger =
      came_by_routes i.comp r.source e.desk.log s.ledger (came_as r.source s w.1 w.2) r refl to in
      let ordered = All-contains (λ (q : RouteId). (ms : List Stamped) × (arrived_on q e.desk.log ≡ numbered 0 ms)) i.routes r order known in
      record {
        ledger = ordered.0;
        sent = sym (sent_by_routes i.comp r to (logs r.source.0)) ∙ ap (posted_on r) (put_as r.source s w.2) ∙ sym put ∙ ordered.1;
        arrived = ordered.1;
        counted = counts s r w.1 has known ∙ ap length (sym put ∙ ordered.1) ∙ length-numbered 0 ordered.0;
      }

  come_from : (c : CompId) → Contains (sources_of i.routes) c → HasComeFrom logs i e c
  come_from c known =
      let w = back_from logs i (sources_of i.routes) ss z c known in
      put_as c w.0 w.2 ∙ sym (came_as c w.0 w.1 w.2)

  -- all that was sent to the component has come
  pub has_all : HasAll logs i e
  has_all = record {
    routes = λ k d low. come_on (get_or i.routes k d) (Contains-get_or i.routes k d low);
    sources = λ k d low. come_from (get_or (sources_of i.routes) k d) (Contains-get_or (sources_of i.routes) k d low);
  }

arrivals_rest : (rest : List (ℕ × Env Message × ℕ)) → arrivals (rest_arrivals rest) ≡ rest_arrivals rest
unfolding arrivals
arrivals_rest [] = refl
arrivals_rest (x ∷ rest) = ap (λ l. entry.Arrive x.0 x.2 x.1 ∷ l) (arrivals_rest rest)

-- what had arrived and what is appended came on these routes
pub all_routed : (routes : List RouteId) (k drained : List Entry) (rest : List (ℕ × Env Message × ℕ)) → arrivals k ≡ drained → All (IsArrivalOn routes) drained
    → All (IsArrivalOn routes) (rest_arrivals rest)
    → All (IsArrivalOn routes) (arrivals (k ++ rest_arrivals rest))
all_routed routes k drained rest arrived before after =
    subst (All (IsArrivalOn routes))
    (sym (arrivals-append k (rest_arrivals rest) ∙ ap (λ l. l ++ arrivals (rest_arrivals rest)) arrived ∙ ap (λ l. drained ++ l) (arrivals_rest rest)))
    (All-append (IsArrivalOn routes) drained (rest_arrivals rest) before after)
