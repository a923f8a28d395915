-- What the workers of a run are once the senders are handed out.
use Rattle.std.proofs.Common.{◌≡◌, ℕ, zero, suc, ◌+◌, ◌<◌, Bool, true, false, Some, List, [], ◌∷◌, ◌++◌, Contains, get_or, length, slice_get, map, refl, sym, ap, ◌∙◌, subst, cond, eq-eqb, arith}
use Rattle.std.specs.Prelude.{All, AllPairs, filter}
use Rattle.std.proofs.lemmas.Bool.{eqb-true}
use Rattle.std.proofs.lemmas.List.Elements.{All-contains, All-nil, All-filter, Contains-get_or}
use Rattle.std.proofs.lemmas.Option.{same_Some, slice_get-get_or}
use Rattle.tp_config.specs.declared.port_type.CompId.{CompId}
use Rattle.tp_config.specs.declared.port_type.RouteId.{RouteId}
use Rattle.tp_config.specs.Setup.{Setup, ports_at}
use Rattle.tp_config.specs.Allowed.{IsSetup}
use Rattle.tp_config.specs.Routes.{routes_into}
use Rattle.tp_config.proofs.RouteLaws.{map_cases, map_contains}
use Rattle.tp_inbox.specs.declared.entry.Entry.{Entry}
use Rattle.tp_inbox.specs.Desks.{Journal}
use Rattle.tp_inbox.specs.History.{arrivals, sent_to}
use Rattle.tp_inbox.specs.Ledgers.{Draining, SenderLedger, end_of}
use Rattle.tp_inbox.specs.Routed.{sources_of}
use Rattle.tp_behaviour.specs.declared.worker.Worker.{Worker}
use Rattle.tp_behaviour.specs.Fresh.{Fresh}
use Rattle.tp_behaviour.specs.Moments.{moments}
use Rattle.tp_behaviour.specs.Outboxes.{routes_of}
use Rattle.tp_behaviour.specs.Paths.{own_port}
use Rattle.tp_behaviour.specs.Workers.{IsLedgerOf, AreEndsOf, IsSenderOf, IsSentBy}
use Rattle.tp_exec.specs.declared.inboxes.Opened.{Opened}
use Rattle.tp_exec.specs.OpenedWorkers.{AreApart, AreHandedOut, AreOpened, IsFromOneOf, IsOpened, IsUnused, is_of, rest_of}
use Rattle.tp_exec.specs.Rounds.{AreWorkers, HasNotBegun, IsWorkerOf, Link, all_links, comp_at, comes_from, link_by, links_in}
use Rattle.tp_exec.proofs.SendersGivenToWorkers.{as_many}
use Rattle.tp_exec.proofs.PairwiseDifferentElements.{flat_there, mapped_pairs, passed, passes}
use Rattle.tp_exec.proofs.OutgoingRouteEnds.{among_those_into, receiver_within, source_is}
use Rattle.tp_exec.proofs.RoutesBySourceComponent.{among_by, by_among, source_there}
use Rattle.tp_exec.proofs.IncomingRouteEnds.{leads_to, sources_within}
use Rattle.tp_exec.proofs.DistinctRunLinks.{AreOfTwo, IsLinkInto, link_in, link_of, links_apart}

all_from : {X : Type 0} (P : X → Type 0) (xs : List X) → ((x : X) → Contains xs x → P x) → All P xs
all_from P xs h k d low = h (get_or xs k d) (Contains-get_or xs k d low)

-- those of one component are those of the links from it
ends_from : (k : ℕ) (ss : List SenderLedger) → map end_of (filter (is_of k) ss) ≡ filter (comes_from k) (map end_of ss)
ends_from k [] = refl
ends_from k (y ∷ ss) = by (is_of k y) (ends_from k ss) where
  by : (b : Bool) → map end_of (filter (is_of k) ss) ≡ filter (comes_from k) (map end_of ss)
      → map end_of (cond b (y ∷ filter (is_of k) ss) (filter (is_of k) ss)) ≡ cond b (end_of y ∷ filter (comes_from k) (map end_of ss))
      (filter (comes_from k) (map end_of ss))
  by true h = ap (λ l. end_of y ∷ l) h
  by false h = h

-- what stands at a place beside the senders stood there before
same_rest : (xs ys : List Worker) → map rest_of xs ≡ map rest_of ys → (k : ℕ) (x : Worker) → slice_get xs k ≡ Some x → (y : Worker)
    × (slice_get ys k ≡ Some y) × (rest_of y ≡ rest_of x)
same_rest [] ys e k x stands = absurd (cc)
same_rest (z ∷ xs) [] e k x stands = absurd (let n : length (map rest_of (z ∷ xs)) ≡ 0 = ap length e in omega (arith, n))
same_rest (z ∷ xs) (y ∷ ys) e zero x stands = (y, refl, (let h : rest_of z ≡ rest_of y = cc in sym h) ∙ ap rest_of (same_Some z x stands))
same_rest (z ∷ xs) (y ∷ ys) e (suc k) x stands = same_rest xs ys (let h : map rest_of xs ≡ map rest_of ys = cc in h) k x stands

same_links : (xs ys : List Worker) → map rest_of xs ≡ map rest_of ys → all_links xs ≡ all_links ys
same_links [] [] e = refl
same_links [] (y ∷ ys) e = absurd (let n : 0 ≡ length (map rest_of (y ∷ ys)) = ap length e in omega (arith, n))
same_links (x ∷ xs) [] e = absurd (let n : length (map rest_of (x ∷ xs)) ≡ 0 = ap length e in omega (arith, n))
same_links (x ∷ xs) (y ∷ ys) e =
    let head : rest_of x ≡ rest_of y = cc in
    let tail : map rest_of xs ≡ map rest_of ys = cc in
    ap (λ (v : Draining × Journal). links_in v.0.inbox ++ all_links xs) head ∙ ap (λ l. links_in y.owner.inbox ++ l) (same_links xs ys tail)

-- before the senders are handed out: no component has two into one inbox, and each has a worker
module _ (s : Setup) (l : IsSetup s) (o : Opened) (h : AreOpened s (length s.components) o) where
  pub senders_apart : AreApart o.senders.items
  senders_apart =
      mapped_pairs AreOfTwo end_of o.senders.items
      (subst (AllPairs AreOfTwo) (sym h.senders)
      (links_apart 0 o.workers.items (λ k x stands. (h.each k x stands).comp ∙ ap comp_at (let e : k ≡ 0 + k = omega arith in e))))

  pub senders_within : All (IsFromOneOf o.workers.items) o.senders.items
  senders_within =
      all_from (IsFromOneOf o.workers.items) o.senders.items (λ y inside.
      let w = link_of o.workers.items (end_of y) (subst (λ ws. Contains ws (end_of y)) h.senders (map_contains end_of o.senders.items y inside)) in
      let there : Contains (sources_of (routes_into s (comp_at w.place))) w.source =
      subst (λ rs. Contains (sources_of rs) w.source) (h.each w.place w.worker w.stands).routes w.has in
      let low : w.source.0 < length s.components =
      All-contains (λ (c : CompId). c.0 < length s.components) (sources_of (routes_into s (comp_at w.place))) w.source
      (sources_within s l (comp_at w.place)) there in
      subst (λ n. y.source.0 < n) (sym h.count) (subst (λ (v : Link). v.1.0 < length s.components) w.is low))

-- and after
module _ (s : Setup) (l : IsSetup s) (o : Opened) (xs : List Worker) (h : AreOpened s (length s.components) o)
    (given : AreHandedOut o.workers.items o.senders.items xs) where
  opened : (k : ℕ) (x : Worker) → slice_get xs k ≡ Some x → IsOpened s k x
  opened k x stands =
      let w = same_rest xs o.workers.items given.same k x stands in
      let was : IsOpened s k w.0 = h.each k w.0 w.1 in
      let owner : w.0.owner ≡ x.owner = ap (λ (v : Draining × Journal). v.0) w.2 in
      let desk : w.0.desk ≡ x.desk = ap (λ (v : Draining × Journal). v.1) w.2 in
      record {
        comp = subst (λ (d : Draining). d.inbox.comp ≡ comp_at k) owner was.comp;
        ports = subst (λ (d : Draining). d.inbox.ports ≡ length (ports_at s.types s.components (comp_at k))) owner was.ports;
        routes = subst (λ (d : Draining). d.inbox.routes ≡ routes_into s (comp_at k)) owner was.routes;
        drained = subst (λ (d : Draining). d.drained ≡ []) owner was.drained;
        desk = sym desk ∙ was.desk;
      }

  many : length xs ≡ length s.components
  many = as_many o.workers.items xs given.same ∙ h.count

  ends : (k : ℕ) (x : Worker) → slice_get xs k ≡ Some x → map end_of x.outbox ≡ filter (comes_from k) (all_links xs)
  ends k x stands =
      ap (map end_of) (given.senders k x stands) ∙ ends_from k o.senders.items
      ∙ ap (filter (comes_from k)) (h.senders ∙ sym (same_links xs o.workers.items given.same))

  -- a sender stands on each link from the component
  has_link : (k : ℕ) (x : Worker) → slice_get xs k ≡ Some x → (j : ℕ) (y : Worker) → slice_get xs j ≡ Some y → (r : RouteId) → Contains y.owner.inbox.routes r
      → r.source ≡ comp_at k
      → Contains (routes_of x.outbox) r
  has_link k x stands j y there r inside from =
      let w : Link = link_by y.owner.inbox r.source in
      let kept : Contains (filter (comes_from k) (all_links xs)) w =
      passes (comes_from k) (all_links xs) w (link_in xs j y r.source there (source_there y.owner.inbox.routes r inside))
      (eq-eqb r.source.0 k (ap (λ (c : CompId). c.0) from)) in
      let sender = map_cases end_of x.outbox w (subst (λ ws. Contains ws w) (sym (ends k x stands)) kept) in
      let has : Contains sender.0.routes r =
      subst (λ (v : Link). Contains v.2 r) (sym sender.2) (among_by r.source y.owner.inbox.routes r inside refl) in
      flat_there (λ (z : SenderLedger). z.routes) x.outbox sender.0 r sender.1 has

  -- and no others
  is_link : (k : ℕ) (x : Worker) → slice_get xs k ≡ Some x → (y : SenderLedger) → Contains x.outbox y → IsLinkInto xs (end_of y) × (y.source.0 ≡ k)
  is_link k x stands y inside =
      let w = passed (comes_from k) (all_links xs) (end_of y) (subst (λ ws. Contains ws (end_of y)) (ends k x stands) (map_contains end_of x.outbox y inside)) in
      (link_of xs (end_of y) w.0, eqb-true y.source.0 k w.1)

  -- its senders are its own, and their routes lead to the components of their inboxes
  theirs : (k : ℕ) (x : Worker) → slice_get xs k ≡ Some x → All (IsSenderOf (comp_at k)) x.outbox
  theirs k x stands = all_from (IsSenderOf (comp_at k)) x.outbox (λ y inside.
      let w = is_link k x stands y inside in
      let v = w.0 in
      let into = opened v.place v.worker v.stands in (
        ap comp_at w.1,
        all_from (λ (r : RouteId). r.to.comp ≡ y.inbox.comp) y.routes (λ r has.
            let among = by_among v.source v.worker.owner.inbox.routes r (subst (λ (u : Link). Contains u.2 r) (sym v.is) has) in
            let leads : r.to.comp ≡ comp_at v.place = leads_to s l (comp_at v.place) r (subst (λ rs. Contains rs r) into.routes among.0) in
            leads ∙ sym into.comp ∙ ap (λ (u : Link). u.0.comp) v.is),
      ))

  its_ends : (k : ℕ) (x : Worker) (references : List ℕ) → slice_get xs k ≡ Some x
      → AreEndsOf (record { config = s; comp = comp_at k; references = references }) x.owner.inbox (routes_of x.outbox)
  its_ends k x references stands =
      let mine = opened k x stands in record {
        comp = mine.comp;
        ports = mine.ports;
        here = subst (All (λ (r : RouteId). r.to.comp ≡ comp_at k)) (sym mine.routes)
            (all_from (λ (r : RouteId). r.to.comp ≡ comp_at k) (routes_into s (comp_at k)) (leads_to s l (comp_at k)));
        loops = all_from (λ (r : RouteId). r.source ≡ comp_at k → Contains (routes_of x.outbox) r) x.owner.inbox.routes
            (λ r inside from. has_link k x stands k x stands r inside from);
        from_ports = λ port r from.
            let p = own_port (record { config = s; comp = comp_at k; references = references }) port in
            let j = r.to.comp.0 in
            let low : j < length xs = (let e = many in let b = receiver_within s l p r from in omega (arith, e, b)) in
            let z = get_or xs j x in
            let there : slice_get xs j ≡ Some z = slice_get-get_or xs j x low in
            has_link k x stands j z there r (subst (λ rs. Contains rs r) (sym (opened j z there).routes) (among_those_into s l p r from)) (source_is s p r from);
      }

  noted : (k : ℕ) (x : Worker) → slice_get xs k ≡ Some x → All (IsLedgerOf x.desk.log) x.outbox
  unfolding sent_to
  noted k x stands =
      let empty : x.desk.log ≡ [] = ap (λ (d : Journal). d.log) (opened k x stands).desk in
      let unused : All IsUnused x.outbox = subst (All IsUnused) (sym (given.senders k x stands)) (All-filter (is_of k) IsUnused o.senders.items h.unused) in
      λ j d low. ap (sent_to (get_or x.outbox j d).inbox.comp) empty ∙ sym (unused j d low)

  fresh : (c : CompId) (log : List Entry) → log ≡ [] → Fresh c log
  unfolding moments
  fresh c log empty = subst (Fresh c) (sym empty) (λ k d low. absurd (omega (arith, low)))

  worker_of : (k : ℕ) (x : Worker) → slice_get xs k ≡ Some x → IsWorkerOf s k x
  unfolding arrivals
  worker_of k x stands references =
      let mine = opened k x stands in
      let empty : x.desk.log ≡ [] = ap (λ (d : Journal). d.log) mine.desk in record {
        ends = its_ends k x references stands;
        desk = (ap (λ (d : Journal). d.comp) mine.desk ∙ sym mine.comp, ap (λ (d : Journal). d.ports) mine.desk ∙ sym mine.ports);
        arrived = ap arrivals empty ∙ sym mine.drained;
        noted = noted k x stands;
        theirs = theirs k x stands;
        sent = subst (All (IsSentBy (routes_of x.outbox))) (sym empty) (All-nil (IsSentBy (routes_of x.outbox)));
        fresh = fresh (comp_at k) x.desk.log empty;
      }

  pub are_workers : AreWorkers s xs
  are_workers = record {
    everyone = many;
    worker_of = worker_of;
    routes = λ k x stands. (opened k x stands).routes;
    senders = ends;
  }

  pub have_not_begun : All HasNotBegun xs
  have_not_begun j d low = ap (λ (y : Journal). y.log) (opened j (get_or xs j d) (slice_get-get_or xs j d low)).desk
