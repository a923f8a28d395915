-- What happens before what is what the demands lead to.
use Rattle.std.proofs.Common.{◌≡◌, ℕ, zero, suc, ◌+◌, ◌-◌, ◌<◌, Bool, true, false, Option, Some, None, List, [], ◌∷◌}
use Rattle.std.proofs.Common.{length, get_or, drop, refl, ap, sym, ◌∙◌, subst, ⊎_elim, arith}
use Rattle.std.specs.Prelude.{All, Contains, slice_get}
use Rattle.std.proofs.lemmas.List.Elements.{All-append, All-nil, All-filter, All-drop, All-contains}
use Rattle.std.proofs.lemmas.List.Elements.{Contains-append_cases, Contains-append_left, Contains-append_right}
use Rattle.std.proofs.lemmas.Option.{slice_get-get_or, slice_get_within}
use Rattle.tp_judge.specs.declared.demand.Demand.{Demand}
use Rattle.tp_judge.specs.Order.{IsBelow, IsListing, IsOrder, StandsBefore}
use Rattle.tp_judge.specs.Circle.{IsDemandedBefore, LeadsThrough}
use Rattle.tp_judge.specs.declared.line.IndexedLine.{IndexedLine}
use Rattle.tp_judge.specs.declared.line.By.TheVariants as by
use Rattle.tp_judge.specs.declared.trace.IndexedTrace.{IndexedTrace}
use Rattle.tp_judge.specs.Lines.{is_number, key_of}
use Rattle.tp_judge.specs.Lawful.{AreWithin}
use Rattle.tp_judge.specs.Delivered.{Delivered}
use Rattle.tp_judge.specs.Before.{LineHappensBefore, NoCircle, earlier, sent, between, section_of, sent_on, came_on}
use Rattle.tp_judge.specs.Demands.{demands_of, from_each, pairs, route_demands, section_demands, where_joined}
use Rattle.tp_judge.proofs.RouteLinesNameParcels.{names_sent}
use Rattle.tp_judge.proofs.DemandsOfLinePairs.{each_below, each_has, in_each, in_pairs, pairs_below, pairs_have}
use Rattle.tp_judge.proofs.LinesNameOneParcel.{named_there}

where_below : (count : ℕ) (o : Option Bool) (demands : List Demand) → All (IsBelow count) demands
    → All (IsBelow count) (where_joined o demands)
where_below count (Some true) demands all = all
where_below count (Some false) demands all = All-nil (IsBelow count)
where_below count None demands all = All-nil (IsBelow count)

-- all demands are on numbers of the trace
pub demands_below : (trace : IndexedTrace) → AreWithin trace → All (IsBelow trace.numbers) (demands_of trace)
demands_below trace within =
    let P : IndexedLine → Type 0 = λ line. line.number < trace.numbers in
    let lines = trace.lines.items in
    let small = within.numbers in
    All-append (IsBelow trace.numbers) (from_each (section_demands trace) trace.components)
    (from_each (route_demands trace) (length trace.joined.items))
    (each_below trace.numbers (section_demands trace) trace.components
    (λ k. let row = All-filter (λ line. is_number k (key_of by.Component line)) P lines small in
    pairs_below trace.numbers (section_of trace k) (drop 1 (section_of trace k)) row (All-drop P 1 (section_of trace k) row)))
    (each_below trace.numbers (route_demands trace) (length trace.joined.items)
    (λ k. where_below trace.numbers (slice_get trace.joined.items k) (pairs (sent_on trace k) (came_on trace k))
    (pairs_below trace.numbers (sent_on trace k) (came_on trace k)
    (All-filter (λ line. is_number k (key_of by.Sent line)) P lines small)
    (All-filter (λ line. is_number k (key_of by.Came line)) P lines small))))

from_drop : (xs : List IndexedLine) (k : ℕ) (b : IndexedLine) → slice_get (drop 1 xs) k ≡ Some b → slice_get xs (suc k) ≡ Some b
from_drop [] k b at = at
from_drop (x ∷ xs) k b at = at

to_drop : (xs : List IndexedLine) (k : ℕ) (b : IndexedLine) → slice_get xs (suc k) ≡ Some b → slice_get (drop 1 xs) k ≡ Some b
to_drop [] k b at = at
to_drop (x ∷ xs) k b at = at

where_has : (o : Option Bool) (demands : List Demand) (d : Demand) → Contains (where_joined o demands) d
    → (o ≡ Some true) × Contains demands d
where_has (Some true) demands d has = (refl, has)
where_has (Some false) demands d has = absurd (let low = has.1 in omega arith)
where_has None demands d has = absurd (let low = has.1 in omega arith)

before_by : (trace : IndexedTrace) (d e : Demand) → d ≡ e → LineHappensBefore trace e.before e.after → LineHappensBefore trace d.before d.after
before_by trace d e is = subst (λ (f : Demand). LineHappensBefore trace f.before f.after) (sym is)

by_section : (trace : IndexedTrace) (d : Demand) → Contains (from_each (section_demands trace) trace.components) d
    → LineHappensBefore trace d.before d.after
by_section trace d has =
    let each = in_each (section_demands trace) trace.components d has in
    let row = section_of trace each.0 in
    let pair = in_pairs row (drop 1 row) d each.2 in
    before_by trace d _ pair.5
    (earlier each.0 pair.0 (suc pair.0) pair.1 pair.2 each.1 (omega arith) pair.3 (from_drop row pair.0 pair.2 pair.4))

by_route : (trace : IndexedTrace) → Delivered trace → (d : Demand) → Contains (from_each (route_demands trace) (length trace.joined.items)) d
    → LineHappensBefore trace d.before d.after
by_route trace delivered d has =
    let each = in_each (route_demands trace) (length trace.joined.items) d has in
    let route = each.0 in
    let there = where_has (slice_get trace.joined.items route) (pairs (sent_on trace route) (came_on trace route)) d each.2 in
    let pair = in_pairs (sent_on trace route) (came_on trace route) d there.1 in
    let lawful = delivered route each.1 there.0 in
    let parcel = named_there (sent_on trace route) (names_sent route trace.lines.items) pair.0
    (slice_get_within (sent_on trace route) pair.0 pair.1 pair.3) in
    before_by trace d _ pair.5
    (sent route pair.0 pair.0 pair.1 pair.2 parcel.0 parcel.0 there.0 pair.3 pair.4 parcel.1
    (ap (λ l. slice_get l pair.0) (sym lawful.same) ∙ parcel.1) refl)

wanted_before : (trace : IndexedTrace) → Delivered trace → (x y : ℕ) → IsDemandedBefore (demands_of trace) x y → LineHappensBefore trace x y
wanted_before trace delivered x y has = ⊎_elim
    (λ (h : Contains (from_each (section_demands trace) trace.components) (record { before = x; after = y })).
    by_section trace (record { before = x; after = y }) h)
    (λ (h : Contains (from_each (route_demands trace) (length trace.joined.items)) (record { before = x; after = y })).
    by_route trace delivered (record { before = x; after = y }) h)
    (Contains-append_cases (from_each (section_demands trace) trace.components)
    (from_each (route_demands trace) (length trace.joined.items)) (record { before = x; after = y }) has)

-- what the demands lead to happens later
pub leads_before : (trace : IndexedTrace) → Delivered trace → (further x y : ℕ) → LeadsThrough (demands_of trace) further x y
    → LineHappensBefore trace x y
leads_before trace delivered zero x y wanted = wanted_before trace delivered x y wanted
leads_before trace delivered (suc further) x y leads =
    between x leads.0 y (wanted_before trace delivered x leads.0 leads.1) (leads_before trace delivered further leads.0 y leads.2)

next_wanted : (trace : IndexedTrace) (component k : ℕ) (a b : IndexedLine) → component < trace.components
    → slice_get (section_of trace component) k ≡ Some a → slice_get (section_of trace component) (suc k) ≡ Some b
    → IsDemandedBefore (demands_of trace) a.number b.number
next_wanted trace component k a b below at next =
    let row = section_of trace component in
    Contains-append_left (from_each (section_demands trace) trace.components)
    (from_each (route_demands trace) (length trace.joined.items)) (record { before = a.number; after = b.number })
    (each_has (section_demands trace) trace.components component (record { before = a.number; after = b.number }) below
    (pairs_have row (drop 1 row) k a b at (to_drop row k b next)))

chain : (trace : IndexedTrace) (component : ℕ) → component < trace.components → (more k : ℕ) (a b : IndexedLine)
    → slice_get (section_of trace component) k ≡ Some a → slice_get (section_of trace component) (suc (k + more)) ≡ Some b
    → LeadsThrough (demands_of trace) more a.number b.number
chain trace component below zero k a b at end =
    let row = section_of trace component in
    let same : suc k ≡ suc (k + 0) = omega arith in
    next_wanted trace component k a b below at (ap (slice_get row) same ∙ end)
chain trace component below (suc more) k a b at end =
    let row = section_of trace component in
    let last = slice_get_within row (suc (k + suc more)) b end in
    let middle = get_or row (suc k) a in
    let there : slice_get row (suc k) ≡ Some middle = slice_get-get_or row (suc k) a (omega arith) in
    let same : suc (suc k + more) ≡ suc (k + suc more) = omega arith in (
      middle.number,
      next_wanted trace component k a middle below at there,
      chain trace component below more (suc k) middle b there (ap (slice_get row) same ∙ end),
    )

-- what is led to leads on
pub leads_on : (demands : List Demand) (f g x y z : ℕ) → LeadsThrough demands f x y → LeadsThrough demands g y z
    → (h : ℕ) × LeadsThrough demands h x z
leads_on demands zero g x y z wanted then' = (suc g, (y, wanted, then'))
leads_on demands (suc f) g x y z leads then' =
    let rest = leads_on demands f g leads.0 y z leads.2 then' in (suc rest.0, (leads.0, leads.1, rest.1))

-- to what happens later the demands lead
pub before_leads : (trace : IndexedTrace) → Delivered trace → (x y : ℕ) → LineHappensBefore trace x y
    → (further : ℕ) × LeadsThrough (demands_of trace) further x y
before_leads trace delivered x y (earlier component j k a b below order at end) =
    let row = section_of trace component in
    let same : suc (j + (k - suc j)) ≡ k = omega arith in
    (k - suc j, chain trace component below (k - suc j) j a b at (ap (slice_get row) same ∙ end))
before_leads trace delivered x y (sent route j k a b p q joined at end first second same) =
    let within = slice_get_within trace.joined.items route true joined in
    let lawful = delivered route within joined in
    let number = lawful.numbered j p first in
    let other = lawful.numbered k q (ap (λ l. slice_get l k) lawful.same ∙ second) in
    let place : j ≡ k = omega arith in
    let d : Demand = record { before = a.number; after = b.number } in
    let has = pairs_have (sent_on trace route) (came_on trace route) j a b at (ap (slice_get (came_on trace route)) place ∙ end) in (
      0,
      Contains-append_right (from_each (section_demands trace) trace.components)
          (from_each (route_demands trace) (length trace.joined.items)) d
          (each_has (route_demands trace) (length trace.joined.items) route d within
          (subst (λ (o : Option Bool). Contains (where_joined o (pairs (sent_on trace route) (came_on trace route))) d) (sym joined) has)),
    )
before_leads trace delivered x y (between _ z _ first second) =
    let one = before_leads trace delivered x z first in
    let other = before_leads trace delivered z y second in
    leads_on (demands_of trace) one.0 other.0 x z y one.1 other.1

stands_on : (count : ℕ) (order : List ℕ) → IsListing count order → (x y z : ℕ) → StandsBefore order x y → StandsBefore order y z
    → StandsBefore order x z
stands_on count order listing x y z first second =
    let same = listing.once first.1 second.0 y first.4 second.3 in
    let low = first.2 in
    let high = second.2 in
    (first.0, second.1, omega arith, first.3, second.4)

leads_stands : (count : ℕ) (demands : List Demand) (order : List ℕ) → IsOrder count demands order → (further x y : ℕ)
    → LeadsThrough demands further x y → StandsBefore order x y
leads_stands count demands order is zero x y wanted =
    All-contains (λ d. StandsBefore order d.before d.after) demands (record { before = x; after = y }) is.met wanted
leads_stands count demands order is (suc further) x y leads =
    stands_on count order is.listing x leads.0 y
    (All-contains (λ d. StandsBefore order d.before d.after) demands (record { before = x; after = leads.0 }) is.met leads.1)
    (leads_stands count demands order is further leads.0 y leads.2)

-- what can be ordered has no circle
pub ordered_no_circle : (trace : IndexedTrace) (count : ℕ) (order : List ℕ) → Delivered trace → IsOrder count (demands_of trace) order
    → NoCircle trace
ordered_no_circle trace count order delivered is n happens =
    let leads = before_leads trace delivered n n happens in
    let stands = leads_stands count (demands_of trace) order is leads.0 n n leads.1 in
    let same = is.listing.once stands.0 stands.1 n stands.3 stands.4 in
    let low = stands.2 in
    omega arith
