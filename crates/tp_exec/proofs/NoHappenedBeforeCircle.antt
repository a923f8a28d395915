-- In a report nothing happened before itself: around a circle the stamps would grow.
use Rattle.std.proofs.Common.{◌≡◌, ◌⊎◌, inl, inr, ℕ, zero, suc, ◌+◌, ◌*◌, ◌<◌, ◌≤◌, max, true, cond, eq-eqb, Option, Some, None, List, [], ◌∷◌, ◌++◌, map, take, refl, sym, ap, ◌∙◌, subst, arith}
use Rattle.std.specs.Prelude.{slice_get, ◌&&◌, ◌==◌, Result, Ok, Err, IfOk}
use Rattle.std.specs.List.{filter_map, cons_option}
use Rattle.std.proofs.lemmas.Bool.{and_from}
use Rattle.std.proofs.lemmas.List.Elements.{All-contains}
use Rattle.std.proofs.lemmas.Option.{same_Some}
use Rattle.tp_common.specs.declared.event.Env.{Env}
use Rattle.tp_value.specs.declared.message.Message.{Message}
use Rattle.tp_config.specs.declared.port_type.CompId.{CompId}
use Rattle.tp_config.specs.declared.port_type.RouteId.{RouteId}
use Rattle.tp_config.specs.Routes.{routes_into}
use Rattle.tp_play.specs.TestCases.{Made}
use Rattle.tp_inbox.specs.declared.stamped.Stamped.{Stamped}
use Rattle.tp_inbox.specs.declared.entry.Entry.{Entry}
use Rattle.tp_inbox.specs.declared.entry.Entry.TheVariants as entry
use Rattle.tp_inbox.specs.History.{IsClocked, IsTimely, clock_of, stamp_of, same_route, sending_on, sent_on, arrival_on, arrived_on}
use Rattle.tp_inbox.proofs.HistoryClockGrowth.{clock_of-push, clocked_at_start}
use Rattle.tp_inbox.proofs.NewInboxContents.{routes_here}
use Rattle.tp_report.specs.declared.report.Report.{Report}
use Rattle.tp_report.specs.declared.report.CompReport.{CompReport}
use Rattle.tp_exec.specs.declared.fault.RunFault.{RunFault}
use Rattle.tp_exec.specs.Delivery.{IsReportOf, IsDelivered, numbers_from}
use Rattle.tp_exec.specs.CausalOrder.{Spot, HappensBefore, NoCircle, log_of}

head_is : (x y : ℕ) (xs ys : List ℕ) → x ∷ xs ≡ y ∷ ys → x ≡ y
head_is x y xs ys e = cc

tail_is : (x y : ℕ) (xs ys : List ℕ) → x ∷ xs ≡ y ∷ ys → xs ≡ ys
tail_is x y xs ys e = cc

take_one : (k : List Entry) (n : ℕ) (e : Entry) → slice_get k n ≡ Some e → take (suc n) k ≡ take n k ++ e ∷ []
take_one [] n e is = absurd (cc)
take_one (x ∷ k) zero e is = ap (λ y. y ∷ []) (same_Some x e is)
take_one (x ∷ k) (suc n) e is = ap (λ l. x ∷ l) (take_one k n e is)

clock_after : (k : List Entry) (n : ℕ) (e : Entry) → slice_get k n ≡ Some e → clock_of (take (suc n) k) ≡ max (clock_of (take n k)) (stamp_of e)
clock_after k n e is = ap clock_of (take_one k n e is) ∙ clock_of-push (take n k) e

clock_grows : (k : List Entry) (m n : ℕ) → m ≤ n → clock_of (take m k) ≤ clock_of (take n k)
clock_grows k zero n low = omega arith
clock_grows k (suc m) zero low = absurd (omega arith)
clock_grows [] (suc m) (suc n) low = omega arith
clock_grows (x ∷ k) (suc m) (suc n) low = let h = clock_grows k m n (omega arith) in omega (arith, h)

-- of two entries that the clock leaves at one number, the sending is the first
abbrev late : Entry → ℕ
late (entry.Sent r number m) = 0
late _ = 1

abbrev late_at : Option Entry → ℕ
late_at (Some e) = late e
late_at None = 1

-- when the entry at a place of a history happened
abbrev time : List Entry → ℕ → ℕ
time k n = 2 * clock_of (take (suc n) k) + late_at (slice_get k n)

low_late : (o : Option Entry) → late_at o ≤ 1
low_late None = omega arith
low_late (Some (entry.Arrive p s e)) = omega arith
low_late (Some (entry.Took p b e)) = omega arith
low_late (Some (entry.Found p b e)) = omega arith
low_late (Some (entry.Dropped p b e)) = omega arith
low_late (Some (entry.Cleared p)) = omega arith
low_late (Some (entry.Started p)) = omega arith
low_late (Some (entry.Stopped p)) = omega arith
low_late (Some (entry.Halted p)) = omega arith
low_late (Some (entry.Sent r n m)) = omega arith
low_late (Some entry.Else) = omega arith
low_late (Some (entry.Verdict v)) = omega arith
low_late (Some (entry.Failed c)) = omega arith

-- a sending moves the clock, and all else comes after what the clock showed before it
moves : (before after : ℕ) (e : Entry) → before ≤ after → ((r : _) (number : ℕ) (m : _) → e ≡ entry.Sent r number m → before < after)
    → 2 * before + 1 ≤ 2 * after + late e
moves before after (entry.Sent r number m) low up = let more = up r number m refl in omega (arith, more)
moves before after (entry.Arrive p s e) low up = omega (arith, low)
moves before after (entry.Took p b e) low up = omega (arith, low)
moves before after (entry.Found p b e) low up = omega (arith, low)
moves before after (entry.Dropped p b e) low up = omega (arith, low)
moves before after (entry.Cleared p) low up = omega (arith, low)
moves before after (entry.Started p) low up = omega (arith, low)
moves before after (entry.Stopped p) low up = omega (arith, low)
moves before after (entry.Halted p) low up = omega (arith, low)
moves before after entry.Else low up = omega (arith, low)
moves before after (entry.Verdict v) low up = omega (arith, low)
moves before after (entry.Failed c) low up = omega (arith, low)

-- the later entry of a history happened later
later_in_history : (k : List Entry) (i j : ℕ) (e : Entry) → IsClocked k → i < j → slice_get k j ≡ Some e → time k i ≤ time k j
unfolding IsClocked
later_in_history k i j e clocked low is =
    let was = clock_grows k (suc i) j (omega (arith, low)) in
    let up = clock_after k j e is in
    let above : (r : RouteId) (number : ℕ) (m : Stamped) → e ≡ entry.Sent r number m → clock_of (take j k) < clock_of (take (suc j) k) = λ r number m at.
    let more : clock_of (take j k) < m.stamp = subst (IsTimely (take j k)) at (clocked j e is) in
    let own : stamp_of e ≡ m.stamp = ap stamp_of at in
    omega (arith, up, more, own) in
    let moved = moves (clock_of (take j k)) (clock_of (take (suc j) k)) e (clock_grows k j (suc j) (omega arith)) above in
    omega (arith, was, moved, low_late (slice_get k i), ap late_at is)

-- an arrival happened later than the sending that has its stamp
sent_before : (k l : List Entry) (i j : ℕ) (r : RouteId) (number port stamp : ℕ) (m : Stamped) (env : Env Message) → IsClocked k
    → slice_get k i ≡ Some (entry.Sent r number m) → slice_get l j ≡ Some (entry.Arrive port stamp env) → stamp ≡ m.stamp → time k i < time l j
unfolding IsClocked
sent_before k l i j r number port stamp m env clocked out into same =
    let above : clock_of (take i k) < m.stamp = clocked i (entry.Sent r number m) out in
    omega (arith, above, clock_after k i (entry.Sent r number m) out, clock_after l j (entry.Arrive port stamp env) into, ap late_at out, ap late_at into, same)

-- one time is before another one: the number is less, or it is no greater and the place is less
abbrev Less : ℕ × ℕ → ℕ × ℕ → Type 0
Less x y = (x.0 < y.0) ⊎ ((x.0 ≤ y.0) × (x.1 < y.1))

less_through : (x y z : ℕ × ℕ) → Less x y → Less y z → Less x z
less_through x y z (inl a) (inl b) = inl (omega (arith, a, b))
less_through x y z (inl a) (inr b) = inl (omega (arith, a, b.0))
less_through x y z (inr a) (inl b) = inl (omega (arith, a.0, b))
less_through x y z (inr a) (inr b) = inr (omega (arith, a.0, b.0), omega (arith, a.1, b.1))

not_itself : (x : ℕ × ℕ) → ¬ Less x x
not_itself x (inl a) = omega (arith, a)
not_itself x (inr a) = omega (arith, a.1)

deeper : {B : Type 0} (o : Option B) (ys : List B) (y : B) → (i : ℕ) × (slice_get ys i ≡ Some y) → (i : ℕ) × (slice_get (cons_option o ys) i ≡ Some y)
deeper None ys y h = h
deeper (Some z) ys y h = (suc h.0, h.1)

-- what is given of one of them is among what is given of all
pub given : {A B : Type 0} (f : A → Option B) (xs : List A) (n : ℕ) (x : A) (y : B) → slice_get xs n ≡ Some x → f x ≡ Some y → (i : ℕ)
    × (slice_get (filter_map f xs) i ≡ Some y)
given f [] n x y is at = absurd (cc)
given f (z ∷ xs) zero x y is at = (0, ap (λ o. slice_get (cons_option o (filter_map f xs)) 0) (ap f (same_Some z x is) ∙ at))
given f (z ∷ xs) (suc n) x y is at = deeper (f z) (filter_map f xs) y (given f xs n x y is at)

itself : (r : RouteId) → same_route r r ≡ true
itself r =
    and_from ((r.source.0 == r.source.0) && (r.to.comp.0 == r.to.comp.0)) (r.to.port == r.to.port)
    (and_from (r.source.0 == r.source.0) (r.to.comp.0 == r.to.comp.0) (eq-eqb r.source.0 r.source.0 refl) (eq-eqb r.to.comp.0 r.to.comp.0 refl))
    (eq-eqb r.to.port r.to.port refl)

among_sent : (r : RouteId) (k : List Entry) (n number : ℕ) (m : Stamped) → slice_get k n ≡ Some (entry.Sent r number m) → (i : ℕ)
    × (slice_get (sent_on r k) i ≡ Some (number, m))
unfolding sent_on
among_sent r k n number m is = given (sending_on r) k n (entry.Sent r number m) (number, m) is (ap (λ b. cond b (Some (number, m)) None) (itself r))

among_arrived : (r : RouteId) (k : List Entry) (n stamp : ℕ) (env : Env Message) → slice_get k n ≡ Some (entry.Arrive r.to.port stamp env)
    → env.sender ≡ r.source.0
    → (i : ℕ) × (slice_get (arrived_on r k) i ≡ Some (env.number, record { stamp = stamp; message = env.msg }))
unfolding arrived_on
among_arrived r k n stamp env is from =
    let x : ℕ × Stamped = (env.number, record { stamp = stamp; message = env.msg }) in
    let met = and_from (r.to.port == r.to.port) (r.source.0 == env.sender) (eq-eqb r.to.port r.to.port refl) (eq-eqb r.source.0 env.sender (sym from)) in
    given (arrival_on r) k n (entry.Arrive r.to.port stamp env) x is (ap (λ b. cond b (Some x) None) met)

-- in a list that is numbered the number tells the place
pub number_is : (n : ℕ) (xs : List (ℕ × Stamped)) → map (λ x. x.0) xs ≡ numbers_from n xs → (i : ℕ) (y : ℕ × Stamped) → slice_get xs i ≡ Some y → y.0 ≡ n + i
number_is n [] are i y is = absurd (cc)
number_is n (x ∷ xs) are zero y is =
    let here : x.0 ≡ n = head_is x.0 n (map (λ x. x.0) xs) (numbers_from (1 + n) xs) are in
    let this : x.0 ≡ y.0 = ap (λ (p : ℕ × Stamped). p.0) (same_Some x y is) in
    omega (arith, here, this)
number_is n (x ∷ xs) are (suc i) y is = let h = number_is (1 + n) xs (tail_is x.0 n (map (λ x. x.0) xs) (numbers_from (1 + n) xs) are) i y is in omega
    (arith, h)

one_number : (xs : List (ℕ × Stamped)) → map (λ x. x.0) xs ≡ numbers_from 0 xs → (i j : ℕ) (y z : ℕ × Stamped) → slice_get xs i ≡ Some y
    → slice_get xs j ≡ Some z → y.0 ≡ z.0 → y ≡ z
one_number xs are i j y z at there same =
    let place : i ≡ j = omega (arith, number_is 0 xs are i y at, number_is 0 xs are j z there, same) in
    same_Some y z (sym at ∙ ap (slice_get xs) place ∙ there)

pub reported : (o : Option CompReport) (n : ℕ) (e : Entry) → slice_get (log_of o) n ≡ Some e → (x : CompReport) × (o ≡ Some x)
reported None n e is = absurd (cc)
reported (Some x) n e is = (x, refl)

abbrev pub history : Report → ℕ → List Entry
history report c = log_of (slice_get report.components.items c)

all_clocked : (made : Made) (report : Report) → IsReportOf made report → (c : CompId) (o : Option CompReport) → slice_get report.components.items c.0 ≡ o
    → IsClocked (log_of o)
all_clocked made report h c None is = clocked_at_start
all_clocked made report h c (Some x) is = (h.each c x is).clocked

-- what arrives is delivered
pub on_route : (made : Made) (report : Report) → IsReportOf made report → (r : RouteId) (k stamp : ℕ) (env : Env Message)
    → slice_get (history report r.to.comp.0) k ≡ Some (entry.Arrive r.to.port stamp env) → env.sender ≡ r.source.0 → IsDelivered report.components.items r
on_route made report h r k stamp env into from =
    let x = reported (slice_get report.components.items r.to.comp.0) k (entry.Arrive r.to.port stamp env) into in
    let on = (h.each r.to.comp x.0 x.1).routed k (entry.Arrive r.to.port stamp env) (ap (λ o. slice_get (log_of o) k) (sym x.1) ∙ into) in
    let here : on.0.to.comp ≡ r.to.comp = All-contains (λ (q : RouteId). q.to.comp ≡ r.to.comp) (routes_into made.config r.to.comp) on.0
    (routes_here made.config r.to.comp) on.1 in
    let source : on.0.source.0 ≡ r.source.0 = on.3 ∙ from in
    let same : on.0 ≡ r = λ i. record { source = record { 0 = source i }; to = record { comp = here i; port = on.2 i } } in
    subst (IsDelivered report.components.items) same (h.delivered r.to.comp on.0 on.1)

-- and has the stamp of its sending
same_stamp : (made : Made) (report : Report) → IsReportOf made report → (r : RouteId) (j k number stamp : ℕ) (m : Stamped) (env : Env Message)
    → slice_get (history report r.source.0) j ≡ Some (entry.Sent r number m) → slice_get (history report r.to.comp.0) k ≡ Some
    (entry.Arrive r.to.port stamp env)
    → env.sender ≡ r.source.0 → env.number ≡ number → stamp ≡ m.stamp
same_stamp made report h r j k number stamp m env out into from same =
    let d = on_route made report h r k stamp env into from in
    let source = d.pair.source.desk.log in
    let x = among_sent r source j number m (ap (λ o. slice_get (log_of o) j) (sym d.pair.source_is) ∙ out) in
    let y = among_arrived r d.pair.receiver.desk.log k stamp env (ap (λ o. slice_get (log_of o) k) (sym d.pair.receiver_is) ∙ into) from in
    let z = ap (λ l. slice_get l y.0) d.same ∙ y.1 in
    let one = one_number (sent_on r source) d.numbered y.0 x.0 (env.number, record { stamp = stamp; message = env.msg }) (number, m) z x.1 same in
    ap (λ (p : ℕ × Stamped). p.1.stamp) one

abbrev when : Report → Spot → ℕ × ℕ
when report a = (time (history report a.comp) a.place, a.place)

happened : (made : Made) (report : Report) → IsReportOf made report → (a b : Spot) → HappensBefore report a b → Less (when report a) (when report b)
happened made report h a b (HappensBefore.earlier c j k e low at) =
    inr (later_in_history (history report c) j k e (all_clocked made report h (record { 0 = c }) (slice_get report.components.items c) refl) low at, low)
happened made report h a b (HappensBefore.sent r j k number stamp m env out into from same) =
    inl (sent_before (history report r.source.0) (history report r.to.comp.0) j k r number r.to.port stamp m env
    (all_clocked made report h r.source (slice_get report.components.items r.source.0) refl) out into
    (same_stamp made report h r j k number stamp m env out into from same))
happened made report h a b (HappensBefore.between x y z one two) =
    less_through (when report x) (when report y) (when report z) (happened made report h x y one) (happened made report h y z two)

-- **nothing in a report happened before itself**
pub no_circle : (made : Made) (report : Report) → IsReportOf made report → NoCircle report
no_circle made report h a circle = not_itself (when report a) (happened made report h a a circle)

-- nor in that of a run, if it has one
pub ordered : (made : Made) (result : Result Report RunFault) → IfOk result (IsReportOf made) → IfOk result NoCircle
ordered made (Ok report) h = no_circle made report h
ordered made (Err fault) h = tt
