-- What came to a component from all is what all sent to it in the order: the senders are the same, and so is what each sent.
use Rattle.std.proofs.Common.{◌≡◌, ℕ, zero, suc, ◌==◌, Bool, true, false, cond, eq-eqb, Option, Some, None, List, [], ◌∷◌, length, refl, sym, ap, ◌∙◌, arith}
use Rattle.std.specs.Prelude.{slice_get}
use Rattle.std.specs.List.{filter_map, cons_option}
use Rattle.std.proofs.lemmas.Bool.{eqb-true, false≢true}
use Rattle.tp_config.specs.declared.port_type.CompId.{CompId}
use Rattle.tp_play.specs.TestCases.{Made}
use Rattle.tp_inbox.specs.declared.posted.Posted.{Posted}
use Rattle.tp_inbox.specs.declared.entry.Entry.{Entry}
use Rattle.tp_inbox.specs.declared.entry.Entry.TheVariants as entry
use Rattle.tp_inbox.specs.History.{arrival_from, arrived_from, sending_to, sent_to}
use Rattle.tp_report.specs.declared.report.CompReport.{CompReport}
use Rattle.tp_report.specs.declared.report.Report.{Report}
use Rattle.tp_exec.specs.Delivery.{IsReportOf}
use Rattle.tp_exec.specs.CausalOrder.{Spot, log_of}
use Rattle.tp_exec.specs.OneOrder.{IsOrderOf, entry_at_spot, log_in, logs_of, sender_to, sends_to, source_of}
use Rattle.tp_exec.specs.OneOrder.{many}
use Rattle.tp_exec.specs.LookLaws.{posted_at, posted_by, sending_in}
use Rattle.tp_exec.specs.MessageLaws.{all_came_to, all_sent_to, came_to}
use Rattle.tp_exec.proofs.PlacesOfGivenElements.{given_twice}
use Rattle.tp_exec.proofs.LooksSeeSentMessages.{all_posted, arrival_size, as_many, posted_size}

-- a list of things, each of someone, is known by whose they are, and by what each has in it
abbrev whose : {Y : Type 0} → ℕ × Y → Option ℕ
whose z = Some z.0

abbrev what : {Y : Type 0} → ℕ × Y → Option Y
what z = Some z.1

abbrev what_of : {Y : Type 0} → ℕ → ℕ × Y → Option Y
what_of c z = cond (c == z.0) (Some z.1) None

head_is : {X : Type 0} (x y : X) (xs ys : List X) → x ∷ xs ≡ y ∷ ys → x ≡ y
head_is x y xs ys e = cc

tail_is : {X : Type 0} (x y : X) (xs ys : List X) → x ∷ xs ≡ y ∷ ys → xs ≡ ys
tail_is x y xs ys e = cc

rest_is : {Y : Type 0} (b d : Bool) (x y : Y) (xs ys : List Y) → b ≡ d
    → cons_option (cond b (Some x) None) xs ≡ cons_option (cond d (Some y) None) ys → xs ≡ ys
rest_is true true x y xs ys same e = tail_is x y xs ys e
rest_is false false x y xs ys same e = e
rest_is true false x y xs ys same e = absurd (false≢true (sym same))
rest_is false true x y xs ys same e = absurd (false≢true same)

merged : {Y : Type 0} (zs ws : List (ℕ × Y)) → filter_map whose zs ≡ filter_map whose ws
    → ((c : ℕ) → filter_map (what_of c) zs ≡ filter_map (what_of c) ws) → filter_map what zs ≡ filter_map what ws
merged [] [] whose_is each = refl
merged [] (w ∷ ws) whose_is each = absurd (cc)
merged (z ∷ zs) [] whose_is each = absurd (cc)
merged {Y} (z ∷ zs) (w ∷ ws) whose_is each =
    let same : z.0 ≡ w.0 = head_is z.0 w.0 (filter_map whose zs) (filter_map whose ws) whose_is in
    let here : z.1 ∷ filter_map (what_of z.0) zs ≡ w.1 ∷ filter_map (what_of z.0) ws =
    ap (λ (b : Bool). cons_option (cond b (Some z.1) None) (filter_map (what_of z.0) zs)) (sym (eq-eqb z.0 z.0 refl))
    ∙ each z.0 ∙ ap (λ (b : Bool). cons_option (cond b (Some w.1) None) (filter_map (what_of z.0) ws)) (eq-eqb z.0 w.0 same) in
    let first : z.1 ≡ w.1 = head_is z.1 w.1 (filter_map (what_of z.0) zs) (filter_map (what_of z.0) ws) here in
    let rest : (c : ℕ) → filter_map (what_of c) zs ≡ filter_map (what_of c) ws = λ c.
    rest_is (c == z.0) (c == w.0) z.1 w.1 (filter_map (what_of c) zs) (filter_map (what_of c) ws) (ap (λ n. c == n) same) (each c) in
    ap (λ (y : Y). y ∷ filter_map what zs) first
    ∙ ap (λ (ys : List Y). w.1 ∷ ys) (merged zs ws (tail_is z.0 w.0 (filter_map whose zs) (filter_map whose ws) whose_is) rest)

-- what came, with its sender
abbrev came_by : CompId → Entry → Option (ℕ × Posted)
came_by d (entry.Arrive port stamp env) =
    Some (
      env.sender,
      record {
        route = record { source = record { 0 = env.sender }; to = record { comp = d; port = port } };
        number = env.number;
        stamped = record { stamp = stamp; message = env.msg };
      },
    )
came_by d _ = None

came_whose : (d : CompId) (e : Entry) (zs : List (ℕ × Posted))
    → filter_map whose (cons_option (came_by d e) zs) ≡ cons_option (source_of e) (filter_map whose zs)
came_whose d (entry.Arrive p t v) zs = refl
came_whose d _ zs = refl

came_what : (d : CompId) (e : Entry) (zs : List (ℕ × Posted))
    → filter_map what (cons_option (came_by d e) zs) ≡ cons_option (came_to d e) (filter_map what zs)
came_what d (entry.Arrive p t v) zs = refl
came_what d _ zs = refl

came_each : (c d : CompId) (e : Entry) (zs : List (ℕ × Posted))
    → filter_map (what_of c.0) (cons_option (came_by d e) zs) ≡ cons_option (arrival_from d c e) (filter_map (what_of c.0) zs)
came_each c d (entry.Arrive p t v) zs = by (c.0 == v.sender) refl
  where
    rest : List Posted
    rest = filter_map (what_of c.0) zs

    of : CompId → Posted
    of s = record { route = record { source = s; to = record { comp = d; port = p } }; number = v.number; stamped = record { stamp = t; message = v.msg } }

    by : (b : Bool) → (c.0 == v.sender) ≡ b
        → cons_option (cond b (Some (of (record { 0 = v.sender }))) None) rest ≡ cons_option (cond b (Some (of c)) None) rest
    by false is = refl
    by true is =
        let one : record { 0 = v.sender } ≡ c = λ i. record { 0 = sym (eqb-true c.0 v.sender is) i } in
        ap (λ (s : CompId). of s ∷ rest) one
came_each c d _ zs = refl

-- what is sent at a spot, with its sender
abbrev with : ℕ → Option Posted → Option (ℕ × Posted)
with n (Some x) = Some (n, x)
with n None = None

abbrev sent_by : List (List Entry) → CompId → Spot → Option (ℕ × Posted)
sent_by logs d a = with a.comp (sending_in d (entry_at_spot logs a))

with_whose : (n : ℕ) (b : Bool) (x : Posted) (zs : List (ℕ × Posted))
    → filter_map whose (cons_option (with n (cond b (Some x) None)) zs) ≡ cons_option (cond b (Some n) None) (filter_map whose zs)
with_whose n true x zs = refl
with_whose n false x zs = refl

sent_whose : (d : CompId) (n : ℕ) (o : Option Entry) (zs : List (ℕ × Posted))
    → filter_map whose (cons_option (with n (sending_in d o)) zs) ≡ cons_option (cond (sends_to d.0 o) (Some n) None) (filter_map whose zs)
sent_whose d n None zs = refl
sent_whose d n (Some (entry.Sent r number m)) zs = with_whose n (d.0 == r.to.comp.0) (record { route = r; number = number; stamped = m }) zs
sent_whose d n (Some _) zs = refl

sent_what : (n : ℕ) (o : Option Posted) (zs : List (ℕ × Posted)) → filter_map what (cons_option (with n o) zs) ≡ cons_option o (filter_map what zs)
sent_what n None zs = refl
sent_what n (Some x) zs = refl

-- of no sender there is nothing
none_either : (b : Bool) (zs : List Posted) → zs ≡ cons_option (cond b (let o : Option Posted = None in o) None) zs
none_either true zs = refl
none_either false zs = refl

sent_each : (c n : ℕ) (o : Option Posted) (zs : List (ℕ × Posted))
    → filter_map (what_of c) (cons_option (with n o) zs) ≡ cons_option (cond (c == n) o None) (filter_map (what_of c) zs)
sent_each c n None zs = none_either (c == n) (filter_map (what_of c) zs)
sent_each c n (Some x) zs = refl

-- a list as long as an empty one is empty
none_as : {X : Type 0} (xs ys : List X) → length xs ≡ length ys → ys ≡ [] → xs ≡ ys
none_as [] ys size none = sym none
none_as (x ∷ xs) ys size none = absurd (omega (arith, size, ap length none))

-- the history that is reported of a component is that of its number
pub log_here : (components : List CompReport) (c : ℕ) → log_in (logs_of components) c ≡ log_of (slice_get components c)
log_here [] c = refl
log_here (x ∷ xs) zero = refl
log_here (x ∷ xs) (suc c) = log_here xs c

module _ (made : Made) (report : Report) (order : List Spot) (h : IsReportOf made report) (is : IsOrderOf (logs_of report.components.items) order)
    (d : CompId) (y : CompReport) (receiver : slice_get report.components.items d.0 ≡ Some y) where
  abbrev components : List CompReport
  components = report.components.items

  abbrev logs : List (List Entry)
  logs = logs_of components

  here : log_in logs d.0 ≡ y.desk.log
  here = log_here components d.0 ∙ ap log_of receiver

  -- from each sender came what it sent in the order
  from_none : (c : CompId) → slice_get components c.0 ≡ None → arrived_from d c (log_in logs d.0) ≡ posted_by logs c d order
  unfolding arrived_from
  from_none c none =
      let one = as_many (arrival_from d c) source_of c.0 (arrival_size c d) (log_in logs d.0) in
      let two = as_many (posted_at logs c d) (sender_to logs d.0) c.0 (λ a. posted_size c d a.comp (entry_at_spot logs a)) order in
      let ended = ap (many c.0) (is.ended d.0) in
      let size : length (filter_map (arrival_from d c) (log_in logs d.0)) ≡ length (posted_by logs c d order) = omega (arith, one, two, ended) in
      let empty : posted_by logs c d order ≡ [] =
      all_posted logs order is c d ∙ ap (filter_map (sending_to d)) (log_here components c.0 ∙ ap log_of none) in
      none_as (filter_map (arrival_from d c) (log_in logs d.0)) (posted_by logs c d order) size empty

  from_some : (c : CompId) (x : CompReport) → slice_get components c.0 ≡ Some x → arrived_from d c (log_in logs d.0) ≡ posted_by logs c d order
  unfolding sent_to
  from_some c x source =
      ap (arrived_from d c) here ∙ sym (h.between c d x y source receiver)
      ∙ ap (filter_map (sending_to d)) (sym (log_here components c.0 ∙ ap log_of source)) ∙ sym (all_posted logs order is c d)

  from_each : (c : CompId) (o : Option CompReport) → slice_get components c.0 ≡ o → arrived_from d c (log_in logs d.0) ≡ posted_by logs c d order
  from_each c None at = from_none c at
  from_each c (Some x) at = from_some c x at

  -- **messages come as they are sent**
  pub come_as_sent : all_came_to d y.desk.log ≡ all_sent_to logs d order
  unfolding arrived_from
  come_as_sent =
      let log = log_in logs d.0 in
      let came = filter_map (came_by d) log in
      let sent = filter_map (sent_by logs d) order in
      let senders : filter_map whose came ≡ filter_map whose sent =
      given_twice (came_by d) whose source_of (came_whose d) log ∙ is.ended d.0
      ∙ sym (given_twice (sent_by logs d) whose (sender_to logs d.0) (λ a zs. sent_whose d a.comp (entry_at_spot logs a) zs) order) in
      let each : (n : ℕ) → filter_map (what_of n) came ≡ filter_map (what_of n) sent = λ n.
      let c : CompId = record { 0 = n } in
      given_twice (came_by d) (what_of n) (arrival_from d c) (came_each c d) log ∙ from_each c (slice_get components n) refl
      ∙ sym (given_twice (sent_by logs d) (what_of n) (posted_at logs c d) (λ a zs. sent_each n a.comp (sending_in d (entry_at_spot logs a)) zs) order) in
      ap (all_came_to d) (sym here) ∙ sym (given_twice (came_by d) what (came_to d) (came_what d) log) ∙ merged came sent senders each
      ∙ given_twice (sent_by logs d) what (λ a. sending_in d (entry_at_spot logs a)) (λ a zs. sent_what a.comp (sending_in d (entry_at_spot logs a)) zs) order
