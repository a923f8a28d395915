-- A message that came is known by its route and its number there; so what came before it is what was sent before it.
use Rattle.std.proofs.Common.{◌≡◌, ℕ, ◌+◌, ◌<◌, ◌≤◌, ◌==◌, Bool, true, false, cond, eq-eqb, Option, Some, None, List, ◌++◌, map, take, drop, refl, sym, ap, ◌∙◌, subst, arith}
use Rattle.std.specs.Prelude.{slice_get, ◌&&◌}
use Rattle.std.specs.List.{filter_map, cons_option}
use Rattle.std.proofs.lemmas.List.{take-append-drop, take-take}
use Rattle.std.proofs.lemmas.Bool.{eqb-true}
use Rattle.std.proofs.lemmas.Option.{none-some, same_Some}
use Rattle.tp_common.specs.declared.event.Env.{Env}
use Rattle.tp_common.specs.declared.event.Event.{Event}
use Rattle.tp_common.specs.declared.event.Event.TheVariants as event
use Rattle.tp_queue.specs.History.{Lawful, MayFollow, accepted, arrival, gone, top}
use Rattle.tp_value.specs.declared.message.Message.{Message}
use Rattle.tp_config.specs.declared.port_type.CompId.{CompId}
use Rattle.tp_config.specs.declared.port_type.RouteId.{RouteId}
use Rattle.tp_play.specs.TestCases.{Made}
use Rattle.tp_inbox.specs.declared.stamped.Stamped.{Stamped}
use Rattle.tp_inbox.specs.declared.posted.Posted.{Posted}
use Rattle.tp_inbox.specs.declared.entry.Entry.{Entry}
use Rattle.tp_inbox.specs.declared.entry.Entry.TheVariants as entry
use Rattle.tp_inbox.specs.History.{arrival_on, arrived_on, event_at, history_of, posted_on, posting_on}
use Rattle.tp_report.specs.declared.report.CompReport.{CompReport}
use Rattle.tp_report.specs.declared.report.Report.{Report}
use Rattle.tp_exec.specs.Delivery.{IsDelivered, IsReportOf, numbers_from}
use Rattle.tp_exec.specs.CausalOrder.{Spot, StandsAt, log_of}
use Rattle.tp_judge.specs.OneOrder.{IsAt, IsFrontOf}
use Rattle.tp_exec.specs.OneOrder.{IsOrderOf, entry_at_spot, logs_of}
use Rattle.tp_exec.specs.LookLaws.{sending_in}
use Rattle.tp_exec.specs.MessageLaws.{HadOnTop, MessagesComeAsSent, all_came_to, all_sent_to, came_to}
use Rattle.tp_exec.proofs.PlacesOfGivenElements.{given_at, given_grows, given_of, given_twice, one_more_given, so_much}
use Rattle.tp_exec.proofs.RunNamesInConfiguration.{top_accepted}
use Rattle.tp_exec.proofs.LawfulTraces.{lawful_route}
use Rattle.tp_exec.proofs.ArrivalsMatchSendings.{come_as_sent}
use Rattle.tp_exec.proofs.LooksSeeSentMessages.{given_front}
use Rattle.tp_exec.proofs.NoHappenedBeforeCircle.{history, on_route}
use Rattle.tp_judge.proofs.SpotOrderGrowth.{from_take}
use Rattle.tp_exec.proofs.NoMessageOvertakes.{one_place, posted, sent_as}

-- what came on a route is what is of it among all that came
both_ways : (a b : Bool) (y : ℕ × Stamped) (zs : List (ℕ × Stamped))
    → cons_option (cond ((a && true) && b) (Some y) None) zs ≡ cons_option (cond (b && a) (Some y) None) zs
both_ways true true y zs = refl
both_ways true false y zs = refl
both_ways false true y zs = refl
both_ways false false y zs = refl

came_one : (d : CompId) (r : RouteId) → r.to.comp ≡ d → (e : Entry) (xs : List Posted)
    → filter_map (posting_on r) (cons_option (came_to d e) xs) ≡ cons_option (arrival_on r e) (filter_map (posting_on r) xs)
came_one d r here (entry.Arrive p stamp env) xs =
    let y : ℕ × Stamped = (env.number, record { stamp = stamp; message = env.msg }) in
    let zs = filter_map (posting_on r) xs in
    let a = r.source.0 == env.sender in
    let b = r.to.port == p in
    ap (λ (c : Bool). cons_option (cond ((a && c) && b) (Some y) None) zs) (eq-eqb r.to.comp.0 d.0 (ap (λ (c : CompId). c.0) here))
    ∙ both_ways a b y zs
came_one d r here _ xs = refl

on_route_of_all : (d : CompId) (r : RouteId) → r.to.comp ≡ d → (k : List Entry) → posted_on r (all_came_to d k) ≡ arrived_on r k
unfolding posted_on arrived_on
on_route_of_all d r here k = given_twice (came_to d) (posting_on r) (arrival_on r) (came_one d r here) k

-- what an arrival of a route is
pub came_is : (d : CompId) (r : RouteId) (env : Env Message) (stamp : ℕ) → r.to.comp ≡ d → env.sender ≡ r.source.0
    → came_to d (entry.Arrive r.to.port stamp env) ≡ Some (posted r env stamp)
came_is d r env stamp here from =
    let same : record { source = record { 0 = env.sender }; to = record { comp = d; port = r.to.port } } ≡ r = λ i. record {
      source = record { 0 = from i };
      to = record { comp = sym here i; port = r.to.port };
    } in
    ap (λ q. Some (posted q env stamp)) same

-- the message that the entry lets into the queue of the port
abbrev enters : ℕ → Entry → Option (Env Message)
enters port (entry.Arrive p stamp env) = cond (port == p) (Some env) None
enters port _ = None

let_in : (b : Bool) (env : Env Message) (vs : List (Event Message))
    → filter_map arrival (cons_option (cond b (Some (event.Arrive env)) None) vs) ≡ cons_option (cond b (Some env) None) (filter_map arrival vs)
let_in true env vs = refl
let_in false env vs = refl

left_out : (b : Bool) (v : Event Message) (vs : List (Event Message)) → arrival v ≡ None
    → filter_map arrival (cons_option (cond b (Some v) None) vs) ≡ filter_map arrival vs
left_out true v vs none = ap (λ o. cons_option o (filter_map arrival vs)) none
left_out false v vs none = refl

enters_one : (port : ℕ) (e : Entry) (vs : List (Event Message))
    → filter_map arrival (cons_option (event_at port e) vs) ≡ cons_option (enters port e) (filter_map arrival vs)
enters_one port (entry.Arrive p stamp env) vs = let_in (port == p) env vs
enters_one port (entry.Took p b env) vs = left_out (port == p) (event.Took env) vs refl
enters_one port (entry.Found p b env) vs = left_out (port == p) (event.Found env) vs refl
enters_one port (entry.Dropped p b env) vs = left_out (port == p) (event.Dropped env) vs refl
enters_one port (entry.Cleared p) vs = left_out (port == p) event.Cleared vs refl
enters_one port (entry.Started p) vs = left_out (port == p) event.Started vs refl
enters_one port (entry.Stopped p) vs = left_out (port == p) event.Stopped vs refl
enters_one port (entry.Halted p) vs = left_out (port == p) event.Halted vs refl
enters_one port (entry.Sent r n m) vs = refl
enters_one port entry.Else vs = refl
enters_one port (entry.Verdict v) vs = refl
enters_one port (entry.Failed fault) vs = refl

accepted_are : (port : ℕ) (k : List Entry) → accepted (history_of port k) ≡ filter_map (enters port) k
unfolding accepted history_of
accepted_are port k = given_twice (event_at port) arrival (enters port) (enters_one port) k

-- it is an arrival at the port
abbrev IsArrivalAt : ℕ → Env Message → Entry → Type 0
IsArrivalAt port env e = (stamp : ℕ) × (e ≡ entry.Arrive port stamp env)

entered : (port : ℕ) (env : Env Message) (e : Entry) → enters port e ≡ Some env → IsArrivalAt port env e
entered port env (entry.Arrive p stamp v) is = by (port == p) refl is
  where
    by : (b : Bool) → (port == p) ≡ b → cond b (Some v) None ≡ Some env → IsArrivalAt port env (entry.Arrive p stamp v)
    by true same at = (stamp, λ i. entry.Arrive (sym (eqb-true port p same) i) stamp (same_Some v env at i))
    by false same at = absurd (none-some env at)
entered port env _ is = absurd (none-some env is)

-- what the port says of an entry that had the message on top
abbrev TellsTop : ℕ → Env Message → Entry → Type 0
TellsTop port env e = (v : Event Message) × (event_at port e ≡ Some v) × ((k : List (Event Message)) → MayFollow k v → top k ≡ Some env)

at_itself : (port p : ℕ) (v : Event Message) → p ≡ port → cond (port == p) (Some v) None ≡ Some v
at_itself port p v same = ap (λ b. cond b (Some v) None) (eq-eqb port p (sym same))

tells_top : (port : ℕ) (env : Env Message) (e : Entry) → HadOnTop port env e → TellsTop port env e
tells_top port env (entry.Took p b v) had = (event.Took v, at_itself port p (event.Took v) had.0, λ k may. may ∙ ap Some had.1)
tells_top port env (entry.Found p b v) had = (event.Found v, at_itself port p (event.Found v) had.0, λ k may. may ∙ ap Some had.1)
tells_top port env (entry.Dropped p b v) had = (event.Dropped v, at_itself port p (event.Dropped v) had.0, λ k may. may ∙ ap Some had.1)
tells_top port env _ had = absurd had

-- what was on top of the queue had arrived
abbrev ArrivedBefore : ℕ → Env Message → List Entry → ℕ → Type 0
ArrivedBefore port env k place = (n : ℕ) × (stamp : ℕ) × (n < place) × (slice_get k n ≡ Some (entry.Arrive port stamp env))

arrived_before : (port : ℕ) (env : Env Message) (k : List Entry) (place : ℕ) (e : Entry) → Lawful (history_of port k) → slice_get k place ≡ Some e
    → HadOnTop port env e → ArrivedBefore port env k place
unfolding history_of Lawful
arrived_before port env k place e lawful stands had =
    let t = tells_top port env e had in
    let n = so_much (event_at port) k place in
    let before = filter_map (event_at port) (take place k) in
    let may : MayFollow (take n (filter_map (event_at port) k)) t.0 = lawful n t.0 (given_at (event_at port) k place e t.0 stands t.1) in
    let on : top before ≡ Some env = ap top (given_front (event_at port) k place) ∙ t.2 (take n (filter_map (event_at port) k)) may in
    let in_queue : slice_get (accepted before) (gone before) ≡ Some env = top_accepted before env on in
    let there : slice_get (filter_map (enters port) (take place k)) (gone before) ≡ Some env =
    ap (λ l. slice_get l (gone before)) (sym (accepted_are port (take place k))) ∙ in_queue in
    let w = given_of (enters port) (take place k) (gone before) env there in
    let f = from_take k place w.at w.element w.is in
    let is = entered port env w.element w.gives in
    (w.at, is.0, f.0, f.1 ∙ ap Some is.1)

-- what stands in the history of the receiver stands in the report
pub in_report : (report : Report) (r : RouteId) (d : CompId) (y : CompReport) (place : ℕ) (e : Entry) → r.to.comp ≡ d
    → slice_get report.components.items d.0 ≡ Some y → slice_get y.desk.log place ≡ Some e
    → StandsAt report (record { comp = r.to.comp.0; place = place }) e
in_report report r d y place e here receiver stands =
    ap (λ (c : CompId). slice_get (history report c.0) place) here ∙ ap (λ o. slice_get (log_of o) place) receiver ∙ stands

-- where messages are numbered on a route, one number is one place among all that came
module _ (made : Made) (report : Report) (h : IsReportOf made report) where
  pub one_place_of : (r : RouteId) (d : CompId) (y : CompReport) (i j : ℕ) (x z : Posted) → IsDelivered report.components.items r → r.to.comp ≡ d
      → slice_get report.components.items d.0 ≡ Some y → slice_get (all_came_to d y.desk.log) i ≡ Some x → slice_get (all_came_to d y.desk.log) j ≡ Some z
      → x.route ≡ r → z.route ≡ r → x.number ≡ z.number → i ≡ j
  one_place_of r d y i j x z delivered here receiver at there one other =
      let to : slice_get report.components.items r.to.comp.0 ≡ Some y = ap (λ (c : CompId). slice_get report.components.items c.0) here ∙ receiver in
      let source = delivered.pair.source in
      let l = lawful_route made report h r source y delivered.pair.source_is to in
      let AreNumbered : List (ℕ × Stamped) → Type 0 = λ xs. map (λ s. s.0) xs ≡ numbers_from 0 xs in
      let are : AreNumbered (posted_on r (all_came_to d y.desk.log)) =
      subst AreNumbered (l.same ∙ sym (on_route_of_all d r here y.desk.log)) l.numbered in
      one_place r (all_came_to d y.desk.log) are i j x z at there one other

-- in an order that gives the histories
module _ (made : Made) (report : Report) (order : List Spot) (h : IsReportOf made report) (is : IsOrderOf (logs_of report.components.items) order)
    (d : CompId) (y : CompReport) (receiver : slice_get report.components.items d.0 ≡ Some y) where
  abbrev logs : List (List Entry)
  logs = logs_of report.components.items

  abbrev sent_at : Spot → Option Posted
  sent_at a = sending_in d (entry_at_spot logs a)

  -- as much is sent before a message as comes before it
  pub as_much_before : (r : RouteId) (i b stamp : ℕ) (a : Spot) (env : Env Message) (m : Stamped) → r.to.comp ≡ d → env.sender ≡ r.source.0
      → slice_get y.desk.log b ≡ Some (entry.Arrive r.to.port stamp env) → IsAt order i a → entry_at_spot logs a ≡ Some (entry.Sent r env.number m)
      → so_much sent_at order i ≡ so_much (came_to d) y.desk.log b
  as_much_before r i b stamp a env m here from came at sends =
      let put : Posted = record { route = r; number = env.number; stamped = m } in
      let got = posted r env stamp in
      let into = in_report report r d y b (entry.Arrive r.to.port stamp env) here receiver came in
      let first : slice_get (all_sent_to logs d order) (so_much sent_at order i) ≡ Some put =
      given_at sent_at order i a put at (ap (sending_in d) sends ∙ sent_as d env.number r m here) in
      let one : slice_get (all_came_to d y.desk.log) (so_much sent_at order i) ≡ Some put =
      ap (λ xs. slice_get xs (so_much sent_at order i)) (come_as_sent made report order h is d y receiver) ∙ first in
      let other : slice_get (all_came_to d y.desk.log) (so_much (came_to d) y.desk.log b) ≡ Some got =
      given_at (came_to d) y.desk.log b (entry.Arrive r.to.port stamp env) got came (came_is d r env stamp here from) in
      one_place_of made report h r d y (so_much sent_at order i) (so_much (came_to d) y.desk.log b) put got (on_route made report h r b stamp env into from)
      here receiver one other refl refl refl

  -- so what was sent up to a message has come before each place after it
  come_before : (r : RouteId) (i b place stamp : ℕ) (a : Spot) (env : Env Message) (m : Stamped) → r.to.comp ≡ d → env.sender ≡ r.source.0
      → slice_get y.desk.log b ≡ Some (entry.Arrive r.to.port stamp env) → b < place → IsAt order i a → entry_at_spot logs a ≡ Some (entry.Sent r env.number m)
      → IsFrontOf (all_sent_to logs d (take (i + 1) order)) (all_came_to d (take place y.desk.log))
  come_before r i b place stamp a env m here from came less at sends =
      let log = y.desk.log in
      let put : Posted = record { route = r; number = env.number; stamped = m } in
      let so = as_much_before r i b stamp a env m here from came at sends in
      let n = so_much sent_at order (i + 1) in
      let len = so_much (came_to d) log place in
      let one = one_more_given sent_at order i a put at (ap (sending_in d) sends ∙ sent_as d env.number r m here) in
      let other = one_more_given (came_to d) log b (entry.Arrive r.to.port stamp env) (posted r env stamp) came (came_is d r env stamp here from) in
      let grown = given_grows (came_to d) log (b + 1) place (omega (arith, less)) in
      let most : n ≤ len = omega (arith, so, one, other, grown) in
      let came_so_far = all_came_to d (take place log) in
      let sent_so_far = all_sent_to logs d (take (i + 1) order) in
      let same : sent_so_far ≡ take n came_so_far =
      given_front sent_at order (i + 1) ∙ ap (take n) (sym (come_as_sent made report order h is d y receiver))
      ∙ sym (take-take n len (all_came_to d log) most) ∙ ap (take n) (sym (given_front (came_to d) log place)) in
      (drop n came_so_far, ap (λ xs. xs ++ drop n came_so_far) same ∙ take-append-drop n came_so_far)

pub messages_come_as_sent : MessagesComeAsSent
messages_come_as_sent made report order d y h is receiver = record {
  all = come_as_sent made report order h is d y receiver;
  before = λ r i place a e env m here port from stands had at sends.
      let b = arrived_before r.to.port env y.desk.log place e ((h.each d y receiver).lawful r.to.port port) stands had in
      come_before made report order h is d y receiver r i b.0 place b.1 a env m here from b.3 b.2 at sends;
}
