-- An order that gives the histories of a report has all that happened before a spot before that spot, so messages come to
-- a component as their sendings happened.
use Rattle.std.proofs.Common.{◌≡◌, inl, inr, ℕ, ◌+◌, ◌<◌, ◌≤◌, ◌==◌, Bool, true, false, cond, Option, Some, None, List, [], ◌++◌, length, take, refl, sym, ap, ◌∙◌, subst, arith}
use Rattle.std.specs.Prelude.{slice_get}
use Rattle.std.specs.List.{cons_option}
use Rattle.std.proofs.lemmas.Bool.{cases_eq, cases_lt}
use Rattle.std.proofs.lemmas.List.{append-nil, length-append}
use Rattle.std.proofs.lemmas.Option.{none-some, same_Some}
use Rattle.tp_common.specs.declared.event.Env.{Env}
use Rattle.tp_value.specs.declared.message.Message.{Message}
use Rattle.tp_config.specs.declared.port_type.CompId.{CompId}
use Rattle.tp_config.specs.declared.port_type.RouteId.{RouteId}
use Rattle.tp_play.specs.TestCases.{Made}
use Rattle.tp_inbox.specs.declared.stamped.Stamped.{Stamped}
use Rattle.tp_inbox.specs.declared.posted.Posted.{Posted}
use Rattle.tp_inbox.specs.declared.entry.Entry.{Entry}
use Rattle.tp_inbox.specs.declared.entry.Entry.TheVariants as entry
use Rattle.tp_report.specs.declared.report.CompReport.{CompReport}
use Rattle.tp_report.specs.declared.report.Report.{Report}
use Rattle.tp_exec.specs.Delivery.{IsReportOf}
use Rattle.tp_exec.specs.CausalOrder.{CameAt, HappensBefore, Spot, StandsAt, log_of}
use Rattle.tp_judge.specs.OneOrder.{IsAt}
use Rattle.tp_exec.specs.OneOrder.{IsInOneOrder, IsOrderOf, IsOwn, came_before, entry_at_spot, log_in, logs_of, sender_to, sends_to, source_of, sources}
use Rattle.tp_exec.specs.LookLaws.{sending_in}
use Rattle.tp_exec.specs.MessageLaws.{DeliveryIsCausal, all_came_to, came_to}
use Rattle.tp_exec.proofs.MessagesArriveAsSent.{as_much_before, came_is, in_report}
use Rattle.tp_exec.proofs.PlacesOfGivenElements.{given_alike, given_at, given_grows, given_later, given_of, given_tells, one_more_given, so_much}
use Rattle.tp_exec.proofs.ArrivalsMatchSendings.{come_as_sent, log_here}
use Rattle.tp_exec.proofs.NoHappenedBeforeCircle.{no_circle, reported}
use Rattle.tp_exec.proofs.HistoryEntries.{came_on, own_none, spot}
use Rattle.tp_exec.proofs.NoMessageOvertakes.{posted, sent_as}
use Rattle.tp_exec.proofs.HistoryEntries.{came_grows}

-- as many come, or are sent, as have a sender
came_alike : (d : CompId) (e : Entry) → length (cons_option (came_to d e) []) ≡ length (cons_option (source_of e) [])
came_alike d (entry.Arrive p t v) = refl
came_alike d _ = refl

either_alike : {X Y : Type 0} (b : Bool) (x : X) (y : Y) → length (cons_option (cond b (Some x) None) []) ≡ length (cons_option (cond b (Some y) None) [])
either_alike true x y = refl
either_alike false x y = refl

sent_alike : (d : CompId) (n : ℕ) (o : Option Entry) → length (cons_option (sending_in d o) []) ≡ length (cons_option (cond (sends_to d.0 o) (Some n) None) [])
sent_alike d n None = refl
sent_alike d n (Some (entry.Sent r number m)) = either_alike (d.0 == r.to.comp.0) (record { route = r; number = number; stamped = m }) n
sent_alike d n (Some _) = refl

-- which entry it is that is an arrival of this route, with this number
abbrev IsArrivalOf : RouteId → ℕ → Entry → Type 0
IsArrivalOf r number e = (stamp : ℕ) × (env : Env Message) × (e ≡ entry.Arrive r.to.port stamp env) × (env.sender ≡ r.source.0) × (env.number ≡ number)

is_arrival_of : (r : RouteId) (number : ℕ) (m : Stamped) (d : CompId) (e : Entry)
    → came_to d e ≡ Some record { route = r; number = number; stamped = m } → IsArrivalOf r number e
is_arrival_of r number m d (entry.Arrive p stamp env) is =
    let got : Posted = record {
      route = record { source = record { 0 = env.sender }; to = record { comp = d; port = p } };
      number = env.number;
      stamped = record { stamp = stamp; message = env.msg };
    } in
    let same = same_Some got (record { route = r; number = number; stamped = m }) is in (
      stamp,
      env,
      ap (λ (x : Posted). entry.Arrive x.route.to.port stamp env) same,
      ap (λ (x : Posted). x.route.source.0) same,
      ap (λ (x : Posted). x.number) same,
    )
is_arrival_of r number m d _ is = absurd (none-some record { route = r; number = number; stamped = m } is)

came_at : (report : Report) (r : RouteId) (d : CompId) (y : CompReport) (place number : ℕ) (e : Entry) → IsArrivalOf r number e → r.to.comp ≡ d
    → slice_get report.components.items d.0 ≡ Some y → slice_get y.desk.log place ≡ Some e → CameAt report place r number
came_at report r d y place number e (stamp, env, is, from, same) to receiver stands = record {
  arrived = env;
  stamp = stamp;
  stands = in_report report r d y place (entry.Arrive r.to.port stamp env) to receiver (stands ∙ ap (λ x. Some x) is);
  sender = from;
  numbered = same;
}

module _ (made : Made) (report : Report) (order : List Spot) (h : IsReportOf made report) (is : IsOrderOf (logs_of report.components.items) order) where
  abbrev components : List CompReport
  components = report.components.items

  abbrev logs : List (List Entry)
  logs = logs_of components

  abbrev sent_at : CompId → Spot → Option Posted
  sent_at d a = sending_in d (entry_at_spot logs a)

  stands_in : (c p : ℕ) (e : Entry) → StandsAt report (spot c p) e → entry_at_spot logs (spot c p) ≡ Some e
  stands_in c p e at = ap (λ k. slice_get k p) (log_here components c) ∙ at

  own_sending : (r : RouteId) (p number : ℕ) (m : Stamped) → StandsAt report (spot r.source.0 p) (entry.Sent r number m) → IsOwn logs (spot r.source.0 p)
  own_sending r p number m at = record { act = entry.Sent r number m; stands = stands_in r.source.0 p (entry.Sent r number m) at; own = refl }

  -- what a component did up to a spot, and what came to it up to there, is in the order before this place
  record AreBefore (n : ℕ) (a : Spot) : Type 0 where
    own : (p : ℕ) → p ≤ a.place → IsOwn logs (spot a.comp p) → (i : ℕ) × (i < n) × IsAt order i (spot a.comp p)
    came : so_much source_of (log_in logs a.comp) (a.place + 1) ≤ so_much (sender_to logs a.comp) order n

  -- so it is for what stands in the order before it
  are_before : (i n c p : ℕ) → i < n → IsAt order i (spot c p) → AreBefore n (spot c p)
  are_before i n c p less at =
      let one = is.own i (spot c p) at in
      let log = log_in logs c in
      record {
        own = λ q most own. elim (cases_lt q p) [
          | inl low ↦
              let k = is.kept (spot c q) (spot c p) (refl, low) own one in
              let same : k.1 ≡ i = is.once k.1 i (spot c p) k.4 at in
              let under : k.0 < k.1 = k.2 in
              (k.0, omega (arith, under, same, less), k.3)
          | inr high ↦
              let same : q ≡ p = omega (arith, most, high) in
              (i, less, subst (λ (m : ℕ). IsAt order i (spot c m)) (sym same) at)
        ];
        came =
            let front = is.sent i (spot c p) at in
            let sizes = length-append (came_before logs (spot c p)) front.0 in
            let none : sources (take (p + 1) log) ≡ sources (take p log) =
            came_on log p one.act one.stands ∙ ap (λ o. sources (take p log) ++ cons_option o []) (own_none one.act one.own)
            ∙ append-nil (sources (take p log)) in
            let grown = given_grows (sender_to logs c) order i n (omega (arith, less)) in
            omega (arith, ap length none, ap length front.1, sizes, grown);
      }

  -- the message that came at this place of the receiver's history was sent before
  sent_earlier : (r : RouteId) (j k number stamp n : ℕ) (m : Stamped) (env : Env Message)
      → StandsAt report (spot r.source.0 j) (entry.Sent r number m)
      → StandsAt report (spot r.to.comp.0 k) (entry.Arrive r.to.port stamp env) → env.sender ≡ r.source.0 → env.number ≡ number
      → AreBefore n (spot r.to.comp.0 k) → (i : ℕ) × (i < n) × IsAt order i (spot r.source.0 j)
  sent_earlier r j k number stamp n m env out into from same before =
      let d = r.to.comp in
      let x = reported (slice_get components d.0) k (entry.Arrive r.to.port stamp env) into in
      let log = x.0.desk.log in
      let i = is.each (spot r.source.0 j) (own_sending r j number m out) in
      let came : slice_get log k ≡ Some (entry.Arrive r.to.port stamp env) = ap (λ o. slice_get (log_of o) k) (sym x.1) ∙ into in
      let sends : entry_at_spot logs (spot r.source.0 j) ≡ Some (entry.Sent r env.number m) =
      stands_in r.source.0 j (entry.Sent r number m) out ∙ ap (λ o. Some (entry.Sent r o m)) (sym same) in
      let so = as_much_before made report order h is d x.0 x.1 r i.0 k stamp (spot r.source.0 j) env m refl from came i.1 sends in
      let one = one_more_given (came_to d) log k (entry.Arrive r.to.port stamp env) (posted r env stamp) came (came_is d r env stamp refl from) in
      let alike = given_alike (came_to d) source_of (came_alike d) (take (k + 1) log) in
      let here = ap (λ l. so_much source_of l (k + 1)) (log_here components d.0 ∙ ap log_of x.1) in
      let also = given_alike (sent_at d) (sender_to logs d.0) (λ a. sent_alike d a.comp (entry_at_spot logs a)) (take n order) in
      let most = before.came in
      let less : so_much (sent_at d) order i.0 < so_much (sent_at d) order n = omega (arith, so, one, alike, here, also, most) in
      (i.0, given_tells (sent_at d) order i.0 n less, i.1)

  -- and all that happened before it
  happened_before : (n : ℕ) (a b : Spot) → HappensBefore report a b → AreBefore n b → AreBefore n a
  happened_before n a b (HappensBefore.earlier c j k e low at) before = record {
    own = λ p most own. before.own p (omega (arith, most, low)) own;
    came =
        let grown = came_grows (log_in logs c) (j + 1) (k + 1) (omega (arith, low)) in
        let most = before.came in
        omega (arith, grown, most);
  }
  happened_before n a b (HappensBefore.sent r j k number stamp m env out into from same) before =
      let i = sent_earlier r j k number stamp n m env out into from same before in
      are_before i.0 n r.source.0 j i.1 i.2
  happened_before n a b (HappensBefore.between x y z one two) before = happened_before n x y one (happened_before n y z two before)

  -- **the order keeps what happened before what**
  order_keeps : (c i d j : ℕ) → HappensBefore report (spot c i) (spot d j) → IsOwn logs (spot c i) → IsOwn logs (spot d j)
      → (u : ℕ) × (v : ℕ) × (u < v) × IsAt order u (spot c i) × IsAt order v (spot d j)
  order_keeps c i d j happens one other =
      let v = is.each (spot d j) other in
      let before = happened_before (v.0 + 1) (spot c i) (spot d j) happens (are_before v.0 (v.0 + 1) d j (omega arith) v.1) in
      let u = before.own i (omega arith) one in
      let low : u.0 < v.0 + 1 = u.1 in
      elim (cases_eq u.0 v.0) [
        | inl same ↦
            let level : spot c i ≡ spot d j =
            same_Some (spot c i) (spot d j) (sym u.2 ∙ ap (λ n. slice_get order n) same ∙ v.1) in
            absurd (no_circle made report h (spot d j) (subst (λ (a : Spot). HappensBefore report a (spot d j)) level happens))
        | inr other_place ↦ (u.0, v.0, omega (arith, low, other_place), u.2, v.1)
      ]

  -- what is sent at a place of the order comes, before what is sent later
  comes_before : (r q : RouteId) (i j u v n o b : ℕ) (m w : Stamped) → r.to.comp ≡ q.to.comp → u < v
      → StandsAt report (spot r.source.0 i) (entry.Sent r n m) → StandsAt report (spot q.source.0 j) (entry.Sent q o w)
      → IsAt order u (spot r.source.0 i) → IsAt order v (spot q.source.0 j)
      → CameAt report b q o → (a : ℕ) × (a < b) × CameAt report a r n
  comes_before r q i j u v n o b m w to less out next at there into =
      let d = q.to.comp in
      let x = reported (slice_get components d.0) b (entry.Arrive q.to.port into.stamp into.arrived) into.stands in
      let log = x.0.desk.log in
      let came : slice_get log b ≡ Some (entry.Arrive q.to.port into.stamp into.arrived) = ap (λ o. slice_get (log_of o) b) (sym x.1) ∙ into.stands in
      let sends : entry_at_spot logs (spot q.source.0 j) ≡ Some (entry.Sent q into.arrived.number w) =
      stands_in q.source.0 j (entry.Sent q o w) next ∙ ap (λ s. Some (entry.Sent q s w)) (sym into.numbered) in
      let so = as_much_before made report order h is d x.0 x.1 q v b into.stamp (spot q.source.0 j) into.arrived w refl into.sender came there sends in
      let put : Posted = record { route = r; number = n; stamped = m } in
      let gives : sent_at d (spot r.source.0 i) ≡ Some put =
      ap (sending_in d) (stands_in r.source.0 i (entry.Sent r n m) out) ∙ sent_as d n r m to in
      let later = given_later (sent_at d) order u v (spot r.source.0 i) put less at gives in
      let place = so_much (sent_at d) order u in
      let first : slice_get (all_came_to d log) place ≡ Some put =
      ap (λ xs. slice_get xs place) (come_as_sent made report order h is d x.0 x.1) ∙ given_at (sent_at d) order u (spot r.source.0 i) put at gives in
      let g = given_of (came_to d) log place put first in
      let f = is_arrival_of r n m d g.element g.gives in
      let low : g.at < b = given_tells (came_to d) log g.at b (let e = g.so in omega (arith, e, so, later)) in
      (g.at, low, came_at report r d x.0 g.at n g.element f to x.1 g.is)

pub delivery_is_causal : DeliveryIsCausal
delivery_is_causal made report r q i j n o b m w h (order, is) to happens out next into =
    let k = order_keeps made report order h is r.source.0 i q.source.0 j happens
    (own_sending made report order h is r i n m out) (own_sending made report order h is q j o w next) in
    comes_before made report order h is r q i j k.0 k.1 n o b m w to k.2 out next k.3 k.4 into
