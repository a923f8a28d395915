-- What the components are, and who has which senders, when all behaviours have ended.
use Rattle.std.proofs.Common.{◌≡◌, ℕ, zero, suc, ◌<◌, Some, List, [], ◌∷◌, ◌++◌, length, map, refl, sym, ap, ◌∙◌, subst, All, arith}
use Rattle.std.specs.Prelude.{filter, slice_get, slice_index_or}
use Rattle.std.specs.Global.{Global}
use Rattle.std.specs.Option.{option_map, option_map_or}
use Rattle.std.specs.declared.vec.IntoIter.{IntoIter}
use Rattle.std.specs.Vec.Iter.{into_iter_items}
use Rattle.std.proofs.lemmas.List.{length-map}
use Rattle.std.proofs.lemmas.List.Elements.{All-nil, All-append, All-head, All-map, All-tail}
use Rattle.std.proofs.lemmas.Option.{same_Some, slice_get-get_or, slice_get-map}
use Rattle.tp_config.specs.declared.port_type.CompId.{CompId}
use Rattle.tp_config.specs.Setup.{Setup}
use Rattle.tp_config.specs.Allowed.{IsSetup}
use Rattle.tp_config.specs.Routes.{routes_into}
use Rattle.tp_inbox.specs.declared.entry.Entry.{Entry}
use Rattle.tp_inbox.specs.Ledgers.{SenderLedger, end_of}
use Rattle.tp_inbox.specs.Routed.{sources_of}
use Rattle.tp_behaviour.specs.Workers.{IsConsistent, IsLedgerOf}
use Rattle.tp_exec.specs.declared.idle.Idle.{Idle}
use Rattle.tp_exec.specs.declared.played.Played.{Played}
use Rattle.tp_exec.specs.Rounds.{AreWorkers, Link, all_links, comp_at, comes_from, workers_of, link_by, links_in}
use Rattle.tp_exec.specs.ReturnedSenders.{AreAtHand, IsIdleComponent, idle_of, log_at, outbox_of, links_to}
use Rattle.tp_exec.proofs.IncomingRouteEnds.{sources_within}

abbrev Hand : Type 0
Hand = IntoIter SenderLedger Global

-- there is an element at each place of a list
pub at_place : {A : Type 0} (xs : List A) (k : ℕ) → k < length xs → (x : A) × (slice_get xs k ≡ Some x)
at_place [] k low = absurd (omega (arith, low))
at_place (x ∷ xs) zero low = (x, refl)
at_place (x ∷ xs) (suc k) low = at_place xs k (omega (arith, low))

mapped_at : {A B : Type 0} (f : A → B) (xs : List A) (k : ℕ) (x : A) → slice_get xs k ≡ Some x → slice_get (map f xs) k ≡ Some (f x)
mapped_at f xs k x is = slice_get-map f xs k ∙ ap (option_map f) is

-- what holds at each place holds of all
all_places : {A : Type 0} (P : A → Type 0) (xs : List A) → ((k : ℕ) (x : A) → slice_get xs k ≡ Some x → P x) → All P xs
all_places P xs h = λ k d low. h k (slice_index_or xs k d) (slice_get-get_or xs k d low)

-- what holds of all components with routes into inboxes holds of all links
all_sources : (P : CompId → Type 0) (xs : List Idle) → All (λ (x : Idle). All P (sources_of x.owner.inbox.routes)) xs
    → All (λ (link : Link). P link.1) (links_to xs)
all_sources P [] h = All-nil (λ (link : Link). P link.1)
all_sources P (x ∷ xs) h =
    let Q : Idle → Type 0 = λ x. All P (sources_of x.owner.inbox.routes) in
    All-append (λ (link : Link). P link.1) (links_in x.owner.inbox) (links_to xs)
    (All-map (λ (link : Link). P link.1) (link_by x.owner.inbox) (sources_of x.owner.inbox.routes) (All-head Q x xs h))
    (all_sources P xs (All-tail Q x xs h))

same_links : (played : List Played) → all_links (workers_of played) ≡ links_to (map idle_of played)
same_links [] = refl
same_links (p ∷ played) = ap (λ l. links_in p.worker.owner.inbox ++ l) (same_links played)

module _ (s : Setup) (l : IsSetup s) (played : List Played) (h : AreWorkers s (workers_of played)) where
  pub long : length played ≡ length s.components
  long = sym (length-map played (λ (p : Played). p.worker)) ∙ h.everyone

  pub worker_at : (k : ℕ) (p : Played) → slice_get played k ≡ Some p → slice_get (workers_of played) k ≡ Some p.worker
  worker_at k p is = mapped_at (λ (x : Played). x.worker) played k p is

  pub consistent_at : (k : ℕ) (p : Played) → slice_get played k ≡ Some p → IsConsistent (record { config = s; comp = comp_at k; references = [] }) p.worker
  consistent_at k p is = h.worker_of k p.worker (worker_at k p is) []

  idle_at : (k : ℕ) (p : Played) → slice_get played k ≡ Some p → IsIdleComponent s (idle_of p)
  idle_at k p is =
      let m = consistent_at k p is in record {
        desk = m.desk;
        arrived = m.arrived;
        routes = h.routes k p.worker (worker_at k p is) ∙ ap (routes_into s) (sym (m.desk.0 ∙ m.ends.comp));
      }

  pub all_idle : All (IsIdleComponent s) (map idle_of played)
  all_idle = All-map (IsIdleComponent s) idle_of played (all_places (λ p. IsIdleComponent s (idle_of p)) played idle_at)

  all_within : All (λ (link : Link). link.1.0 < length s.components) (links_to (map idle_of played))
  all_within =
      let P : CompId → Type 0 = λ c. c.0 < length s.components in
      all_sources P (map idle_of played)
      (λ k d low.
      let i = all_idle k d low in
      subst (λ rs. All P (sources_of rs)) (sym i.routes) (sources_within s l (slice_index_or (map idle_of played) k d).desk.comp))

  module _ (hands : List Hand) (are : map into_iter_items hands ≡ map outbox_of played) where
    hands_long : length hands ≡ length played
    hands_long = sym (length-map hands into_iter_items) ∙ ap length are ∙ length-map played outbox_of

    player : (k : ℕ) → k < length hands → (p : Played) × (slice_get played k ≡ Some p)
    player k low = at_place played k (omega (arith, low, hands_long))

    -- a component's hand has its outbox
    has_outbox : (k : ℕ) (d : Hand) → k < length hands → (p : Played) → slice_get played k ≡ Some p → into_iter_items (slice_index_or hands k d)
        ≡ p.worker.outbox
    has_outbox k d low p is =
        let hand = mapped_at into_iter_items hands k (slice_index_or hands k d) (slice_get-get_or hands k d low) in
        same_Some (into_iter_items (slice_index_or hands k d)) p.worker.outbox (sym hand ∙ ap (λ xs. slice_get xs k) are ∙ mapped_at outbox_of played k p is)

    -- each has the senders on the links that come from it
    pub all_held : AreAtHand (log_at played) hands (links_to (map idle_of played))
    all_held = record {
      each = λ k d low.
          let p = player k low in
          ap (map end_of) (has_outbox k d low p.0 p.1) ∙ h.senders k p.0.worker (worker_at k p.0 p.1) ∙ ap (filter (comes_from k)) (same_links played);
      noted = λ k d low.
          let p = player k low in
          let log : log_at played k ≡ p.0.worker.desk.log = ap (λ o. option_map_or (λ (x : Played). x.worker.desk.log) o []) p.1 in
          subst (λ (ss : List SenderLedger). All (IsLedgerOf (log_at played k)) ss) (sym (has_outbox k d low p.0 p.1))
          (subst (λ (k : List Entry). All (IsLedgerOf k) p.0.worker.outbox) (sym log) (consistent_at k p.0 p.1).noted);
      within = subst (λ n. All (λ (link : Link). link.1.0 < n) (links_to (map idle_of played))) (sym (hands_long ∙ long)) all_within;
    }
