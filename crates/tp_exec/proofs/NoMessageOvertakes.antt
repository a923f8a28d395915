-- In a report no message overtakes another: what is sent to a component comes there in one order.
use Rattle.std.proofs.Common.{◌≡◌, ◌⊎◌, inl, inr, ℕ, ◌+◌, ◌<◌, cond, eq-eqb, Some, None, List, map, refl, sym, ap, ◌∙◌, subst, arith}
use Rattle.std.specs.Prelude.{slice_get, Result, Ok, Err, IfOk}
use Rattle.std.proofs.lemmas.Bool.{cases_order}
use Rattle.tp_common.specs.declared.event.Env.{Env}
use Rattle.tp_value.specs.declared.message.Message.{Message}
use Rattle.tp_config.specs.declared.port_type.CompId.{CompId}
use Rattle.tp_config.specs.declared.port_type.RouteId.{RouteId}
use Rattle.tp_play.specs.TestCases.{Made}
use Rattle.tp_inbox.specs.declared.posted.Posted.{Posted}
use Rattle.tp_inbox.specs.declared.stamped.Stamped.{Stamped}
use Rattle.tp_inbox.specs.declared.entry.Entry.TheVariants as entry
use Rattle.tp_inbox.specs.History.{arrival_from, arrived_from, posted_on, posting_on, same_route, sending_to, sent_on, sent_to}
use Rattle.tp_inbox.proofs.SenderPutInvariants.{route_itself}
use Rattle.tp_inbox.proofs.ComponentMessagesByRoute.{sent_by_routes}
use Rattle.tp_report.specs.declared.report.Report.{Report}
use Rattle.tp_exec.specs.declared.fault.RunFault.{RunFault}
use Rattle.tp_exec.specs.Delivery.{IsReportOf, numbers_from}
use Rattle.tp_exec.specs.CausalOrder.{CameAt, NoneOvertakes, log_of}
use Rattle.tp_exec.proofs.PlacesOfGivenElements.{given_at, given_later, given_tells, so_much}
use Rattle.tp_exec.proofs.NoHappenedBeforeCircle.{history, number_is, on_route, reported}

-- where what was put on a route is numbered, two that have one number there are one
module _ (r : RouteId) (xs : List Posted) (are : map (λ x. x.0) (posted_on r xs) ≡ numbers_from 0 (posted_on r xs)) where
  on_it : (x : Posted) → x.route ≡ r → posting_on r x ≡ Some (x.number, x.stamped)
  on_it x is = ap (λ b. cond b (Some (x.number, x.stamped)) None) (ap (same_route r) is ∙ route_itself r)

  numbered_at : (i : ℕ) (x : Posted) → slice_get xs i ≡ Some x → x.route ≡ r → x.number ≡ so_much (posting_on r) xs i
  unfolding posted_on
  numbered_at i x at is =
      let e : x.number ≡ 0 + so_much (posting_on r) xs i =
      number_is 0 (posted_on r xs) are (so_much (posting_on r) xs i) (x.number, x.stamped) (given_at (posting_on r) xs i x (x.number, x.stamped) at (on_it x is)) in
      omega (arith, e)

  pub one_place : (i j : ℕ) (x y : Posted) → slice_get xs i ≡ Some x → slice_get xs j ≡ Some y → x.route ≡ r → y.route ≡ r → x.number ≡ y.number → i ≡ j
  one_place i j x y at there is same number = by (cases_order i j) where
    first : x.number ≡ so_much (posting_on r) xs i
    first = numbered_at i x at is

    second : y.number ≡ so_much (posting_on r) xs j
    second = numbered_at j y there same

    by : (i ≡ j) ⊎ ((i < j) ⊎ (j < i)) → i ≡ j
    by (inl e) = e
    by (inr (inl less)) = absurd (omega (arith, first, second, number, given_later (posting_on r) xs i j x (x.number, x.stamped) less at (on_it x is)))
    by (inr (inr less)) = absurd (omega (arith, first, second, number, given_later (posting_on r) xs j i y (y.number, y.stamped) less there (on_it y same)))

-- what a sending to a component is among those to it, and an arrival from one among those from it
pub sent_as : (d : CompId) (number : ℕ) (r : RouteId) (m : Stamped) → r.to.comp ≡ d
    → sending_to d (entry.Sent r number m) ≡ Some record { route = r; number = number; stamped = m }
sent_as d number r m to =
    ap (λ b. cond b (Some record { route = r; number = number; stamped = m }) None) (eq-eqb d.0 r.to.comp.0 (ap (λ (c : CompId). c.0) (sym to)))

abbrev pub posted : RouteId → Env Message → ℕ → Posted
posted r e stamp = record { route = r; number = e.number; stamped = record { stamp = stamp; message = e.msg } }

came_as : (c d : CompId) (r : RouteId) (e : Env Message) (stamp : ℕ) → r.source ≡ c → r.to.comp ≡ d → e.sender ≡ r.source.0
    → arrival_from d c (entry.Arrive r.to.port stamp e) ≡ Some (posted r e stamp)
came_as c d r e stamp from to sender =
    let same : record { source = c; to = record { comp = d; port = r.to.port } } ≡ r = λ i. record {
      source = sym from i;
      to = record { comp = sym to i; port = r.to.port };
    } in
    ap (λ b. cond b (Some (posted record { source = c; to = record { comp = d; port = r.to.port } } e stamp)) None)
    (eq-eqb c.0 e.sender (ap (λ (x : CompId). x.0) (sym from) ∙ sym sender))
    ∙ ap (λ q. Some (posted q e stamp)) same

module _ (made : Made) (report : Report) (h : IsReportOf made report) where
  -- what one component has sent to another, and what has come there from it
  abbrev sent : CompId → CompId → List Posted
  sent c d = sent_to d (history report c.0)

  abbrev came : CompId → CompId → List Posted
  came c d = arrived_from d c (history report d.0)

  all_came : (r : RouteId) (i a number : ℕ) (m : Stamped) → slice_get (history report r.source.0) i ≡ Some (entry.Sent r number m)
      → CameAt report a r number → sent r.source r.to.comp ≡ came r.source r.to.comp
  all_came r i a number m out into =
      let x = reported (slice_get report.components.items r.source.0) i (entry.Sent r number m) out in
      let y = reported (slice_get report.components.items r.to.comp.0) a (entry.Arrive r.to.port into.stamp into.arrived) into.stands in
      ap (λ o. sent_to r.to.comp (log_of o)) x.1 ∙ h.between r.source r.to.comp x.0 y.0 x.1 y.1
      ∙ ap (λ o. arrived_from r.to.comp r.source (log_of o)) (sym y.1)

  -- on a route on which something came the messages are numbered
  numbered_on : (r : RouteId) (a number : ℕ) → CameAt report a r number
      → map (λ x. x.0) (posted_on r (sent r.source r.to.comp)) ≡ numbers_from 0 (posted_on r (sent r.source r.to.comp))
  numbered_on r a number into =
      let d = on_route made report h r a into.stamp into.arrived into.stands into.sender in
      let same : posted_on r (sent r.source r.to.comp) ≡ sent_on r d.pair.source.desk.log =
      sent_by_routes r.to.comp r refl (history report r.source.0) ∙ ap (λ o. sent_on r (log_of o)) d.pair.source_is in
      subst (λ (xs : List (ℕ × Stamped)). map (λ x. x.0) xs ≡ numbers_from 0 xs) (sym same) d.numbered

  -- the message came at the place at which it was sent
  place_is : (r : RouteId) (i a number : ℕ) (m : Stamped) → slice_get (history report r.source.0) i ≡ Some (entry.Sent r number m) → CameAt report a r number
      → so_much (arrival_from r.to.comp r.source) (history report r.to.comp.0) a ≡ so_much (sending_to r.to.comp) (history report r.source.0) i
  unfolding sent_to arrived_from
  place_is r i a number m out into =
      let c = r.source in
      let d = r.to.comp in
      let k = history report c.0 in
      let l = history report d.0 in
      let put : Posted = record { route = r; number = number; stamped = m } in
      let got : Posted = posted r into.arrived into.stamp in
      let at : slice_get (sent c d) (so_much (sending_to d) k i) ≡ Some put =
      given_at (sending_to d) k i (entry.Sent r number m) put out (sent_as d number r m refl) in
      let there : slice_get (came c d) (so_much (arrival_from d c) l a) ≡ Some got =
      given_at (arrival_from d c) l a (entry.Arrive r.to.port into.stamp into.arrived) got into.stands
      (came_as c d r into.arrived into.stamp refl refl into.sender) in
      one_place r (sent c d) (numbered_on r a number into) (so_much (arrival_from d c) l a) (so_much (sending_to d) k i) got put
      (ap (λ s. slice_get s (so_much (arrival_from d c) l a)) (all_came r i a number m out into) ∙ there) at refl refl into.numbered

  -- **no message overtakes another**
  pub none_overtakes : NoneOvertakes report
  none_overtakes r q i j n o a b m w source to less out next into after =
      let c = r.source in
      let d = r.to.comp in
      let k = history report c.0 in
      let l = history report d.0 in
      let later : slice_get k j ≡ Some (entry.Sent q o w) = ap (λ (e : CompId). slice_get (history report e.0) j) source ∙ next in
      let stands : slice_get l b ≡ Some (entry.Arrive q.to.port after.stamp after.arrived) =
      ap (λ (e : CompId). slice_get (history report e.0) b) to ∙ after.stands in
      let one : so_much (arrival_from d c) l a ≡ so_much (sending_to d) k i = place_is r i a n m out into in
      let other : so_much (arrival_from d c) l b ≡ so_much (sending_to d) k j =
      ap (λ (e : CompId × CompId). so_much (arrival_from e.1 e.0) (history report e.1.0) b) (λ p. (source p, to p)) ∙ place_is q j b o w next after
      ∙ ap (λ (e : CompId × CompId). so_much (sending_to e.1) (history report e.0.0) j) (λ p. (sym source p, sym to p)) in
      let before = given_later (sending_to d) k i j (entry.Sent r n m) (record { route = r; number = n; stamped = m }) less out
      (sent_as d n r m refl) in
      given_tells (arrival_from d c) l a b (omega (arith, one, other, before))

-- nor does one in that of a run, if it has one
pub keeps_order : (made : Made) (result : Result Report RunFault) → IfOk result (IsReportOf made) → IfOk result NoneOvertakes
keeps_order made (Ok report) h = none_overtakes made report h
keeps_order made (Err fault) h = tt
