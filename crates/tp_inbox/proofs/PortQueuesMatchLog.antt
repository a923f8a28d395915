-- The ports' queues stand for what the log says of them, through each entry.
use Rattle.std.proofs.Common.{◌≡◌, ◌≢◌, ◌⊎◌, inl, inr, ℕ, zero, suc, ◌+◌, ◌-◌, ◌<◌, ◌≤◌, max, true, cond, eqb, eq-eqb, ne_eqb, Option, Some, None, List, [], ◌∷◌, ◌++◌, length, take, set, get_or, replicate, refl, sym, ap, ◌∙◌, subst, ⊎_elim, arith}
use Rattle.std.specs.Prelude.{slice_index_or, All}
use Rattle.std.specs.List.{filter_map, cons_option}
use Rattle.std.proofs.lemmas.List.Elements.{All-nil, All-push, All-take, filter_map-append}
use Rattle.std.proofs.Math.Seq.{take-append_seam}
use Rattle.std.proofs.lemmas.Bool.{eqb-true}
use Rattle.std.proofs.lemmas.Option.{cond_some, same_Some}
use native.Mathlib.Decide.{ℕ_discrete}
use Rattle.std.proofs.lemmas.Grind.{get_or-set_at}
use Rattle.std.proofs.lemmas.List.{get_or-set_other, length-append, length-set, get_or_read, set-get_or}
use Rattle.tp_common.specs.declared.event.Event.{Event}
use Rattle.tp_common.specs.declared.event.Event.TheVariants as event
use Rattle.tp_common.specs.declared.event.Env.{Env}
use Rattle.tp_queue.specs.History.{Lawful}
use Rattle.tp_queue.specs.Answers.{Finds}
use Rattle.tp_queue.specs.Calls.{TakesOut}
use Rattle.tp_queue.specs.Queues.{AtHistory, QueueState, StandsFor, state_of}
use Rattle.tp_value.specs.declared.message.Message.{Message}
use Rattle.tp_config.specs.declared.port_type.RouteId.{RouteId}
use Rattle.tp_inbox.specs.declared.entry.Entry.{Entry}
use Rattle.tp_inbox.specs.declared.entry.Entry.TheVariants as entry
use Rattle.tp_inbox.specs.History.{IsTimely, clock_of, event_at, history_of, next_of, stamp_of}
use Rattle.tp_inbox.proofs.HistoryClockGrowth.{clock_of-push, clocked-front, clocked-push, clocked_at_start}
use Rattle.tp_inbox.specs.Desks.{IsKept, NamesNoPort, IsWithin, Journal, NotesSending, adding, at_port}

either : {A : Type 0} → Dec A → A ⊎ (¬ A)
either (yes e) = inl e
either (no n) = inr n

pub same_or_not : (p q : ℕ) → (p ≡ q) ⊎ (p ≢ q)
same_or_not p q = either (ℕ_discrete p q)

append_nil : {A : Type 0} (xs : List A) → xs ++ [] ≡ xs
append_nil [] = refl
append_nil (x ∷ xs) = ap (λ l. x ∷ l) (append_nil xs)

names_none : (port : ℕ) (e : Entry) → NamesNoPort e → event_at port e ≡ None
names_none port (entry.Sent r number m) note = refl
names_none port entry.Else note = refl
names_none port (entry.Verdict v) note = refl
names_none port (entry.Failed fault) note = refl
names_none port (entry.Arrive p stamp env) note = absurd note
names_none port (entry.Took p branch env) note = absurd note
names_none port (entry.Found p branch env) note = absurd note
names_none port (entry.Dropped p branch env) note = absurd note
names_none port (entry.Cleared p) note = absurd note
names_none port (entry.Started p) note = absurd note
names_none port (entry.Stopped p) note = absurd note
names_none port (entry.Halted p) note = absurd note

-- an entry that a behaviour makes itself names no port that there isn't
within_note : (n : ℕ) (e : Entry) → NamesNoPort e → IsWithin n e
within_note n (entry.Sent r number m) note = tt
within_note n entry.Else note = tt
within_note n (entry.Verdict v) note = tt
within_note n (entry.Failed fault) note = tt
within_note n (entry.Arrive p stamp env) note = absurd note
within_note n (entry.Took p branch env) note = absurd note
within_note n (entry.Found p branch env) note = absurd note
within_note n (entry.Dropped p branch env) note = absurd note
within_note n (entry.Cleared p) note = absurd note
within_note n (entry.Started p) note = absurd note
within_note n (entry.Stopped p) note = absurd note
within_note n (entry.Halted p) note = absurd note

-- the port that an entry names, from the port at which it is something
named_port : (n port p : ℕ) (x y : Event Message) → port < n → cond (eqb port p) (Some x) None ≡ Some y → p < n
named_port n port p x y low is =
    let same : port ≡ p = eqb-true port p (cond_some (eqb port p) x y is).0 in omega arith

-- nor does an entry that is something at a port that there is
within_event : (n port : ℕ) (e : Entry) (y : Event Message) → port < n → event_at port e ≡ Some y → IsWithin n e
within_event n port (entry.Arrive p stamp env) y low is = named_port n port p (event.Arrive env) y low is
within_event n port (entry.Took p branch env) y low is = named_port n port p (event.Took env) y low is
within_event n port (entry.Found p branch env) y low is = named_port n port p (event.Found env) y low is
within_event n port (entry.Dropped p branch env) y low is = named_port n port p (event.Dropped env) y low is
within_event n port (entry.Cleared p) y low is = named_port n port p event.Cleared y low is
within_event n port (entry.Started p) y low is = named_port n port p event.Started y low is
within_event n port (entry.Stopped p) y low is = named_port n port p event.Stopped y low is
within_event n port (entry.Halted p) y low is = named_port n port p event.Halted y low is
within_event n port (entry.Sent r number m) y low is = tt
within_event n port entry.Else y low is = tt
within_event n port (entry.Verdict v) y low is = tt
within_event n port (entry.Failed fault) y low is = tt

-- the history of a port, with one more entry
history-push : (port : ℕ) (log : List Entry) (e : Entry) → history_of port (log ++ e ∷ []) ≡ history_of port log ++ filter_map (event_at port) (e ∷ [])
unfolding history_of
history-push port log e = filter_map-append (event_at port) log (e ∷ [])

pub history-same : (port : ℕ) (log : List Entry) (e : Entry) → event_at port e ≡ None → history_of port (log ++ e ∷ []) ≡ history_of port log
history-same port log e none = history-push port log e ∙ ap (λ o. history_of port log ++ cons_option o []) none ∙ append_nil (history_of port log)

pub history-more : (port : ℕ) (log : List Entry) (e : Entry) (event : Event Message) → event_at port e ≡ Some event
    → history_of port (log ++ e ∷ []) ≡ history_of port log ++ event ∷ []
history-more port log e event some = history-push port log e ∙ ap (λ o. history_of port log ++ cons_option o []) some

-- an entry that names no port keeps all of it
pub kept_by_note : (queues : List (QueueState Message)) (clock later : ℕ) (log after : List Entry) (e : Entry)
    → IsKept queues clock log → NamesNoPort e → IsTimely log e → later ≡ max clock (stamp_of e) → after ≡ log ++ e ∷ [] → IsKept queues later after
kept_by_note queues clock later log after e k note timely now grown =
    let same : (port : ℕ) → history_of port (log ++ e ∷ []) ≡ history_of port log = λ port. history-same port log e (names_none port e note) in
    subst (IsKept queues later) (sym grown)
    record {
      stands = λ port low. subst (λ (h : List (Event Message)). StandsFor (slice_index_or queues port (state_of [])) h) (sym (same port)) (k.stands port low);
      within = All-push (IsWithin (length queues)) log e k.within (within_note (length queues) e note);
      time = now ∙ ap (λ c. max c (stamp_of e)) k.time ∙ sym (clock_of-push log e);
      clocked = clocked-push log e k.clocked timely;
    }

-- without its latest entry, which names no port, the log is what the same queues keep
kept_without : (queues : List (QueueState Message)) (clock : ℕ) (log : List Entry) (e : Entry)
    → IsKept queues clock (log ++ e ∷ []) → NamesNoPort e → IsKept queues (clock_of log) log
kept_without queues clock log e k note =
    record {
      stands = λ port low.
          subst (λ (h : List (Event Message)). StandsFor (slice_index_or queues port (state_of [])) h)
          (history-same port log e (names_none port e note)) (k.stands port low);
      within = subst (All (IsWithin (length queues))) (take-append_seam log (e ∷ []))
          (All-take (IsWithin (length queues)) (length log) (log ++ e ∷ []) k.within);
      time = refl;
      clocked = clocked-front log e k.clocked;
    }

-- the log without a sending under the stamp that was next, from the desk's fields
pub withdrawn : (queues : List (QueueState Message)) (clock : ℕ) (was d before : Journal) (r : RouteId) (number : ℕ) (m : Message) (n : ℕ)
    → IsKept queues clock was.log → was ≡ d → d ≡ adding before (entry.Sent r number (next_of before.log m)) → n ≡ length was.log
    → (take (n - 1) was.log ≡ before.log) × (1 ≤ n) × (clock ≡ clock_of before.log + 1) × IsKept queues (clock - 1) (take (n - 1) was.log)
withdrawn queues clock was d before r number m n k v s all =
    let e : Entry = entry.Sent r number (next_of before.log m) in
    let log : was.log ≡ before.log ++ e ∷ [] = ap (λ (x : Journal). x.log) (v ∙ s) in
    let kept : IsKept queues clock (before.log ++ e ∷ []) = subst (IsKept queues clock) log k in
    let pushed = clock_of-push before.log e in
    let kept_time = kept.time in
    let time : clock ≡ clock_of before.log + 1 = omega (arith, kept_time, pushed) in
    let more : length was.log ≡ length before.log + 1 = ap length log ∙ length-append before.log (e ∷ []) in
    let least : 1 ≤ n = omega (arith, all, more) in
    let less : n - 1 ≡ length before.log = omega (arith, all, more) in
    let same : take (n - 1) was.log ≡ before.log =
    ap (take (n - 1)) log ∙ ap (λ x. take x (before.log ++ e ∷ [])) less ∙ take-append_seam before.log (e ∷ []) in
    let earlier : clock_of before.log ≡ clock - 1 = omega (arith, time) in (
      same,
      least,
      time,
      subst (λ (l : List Entry). IsKept queues (clock - 1) l) (sym same)
          (subst (λ n. IsKept queues n before.log) earlier (kept_without queues clock before.log e kept tt)),
    )

-- a desk with that log is what it was before the sending
pub noted_before : (was d before after : Journal) (r : RouteId) (number : ℕ) (m : Message) → was ≡ d
    → d ≡ adding before (entry.Sent r number (next_of before.log m)) → after.comp ≡ was.comp → after.ports ≡ was.ports → after.log ≡ before.log
    → NotesSending after d
noted_before was d before after r number m v s comp ports log =
    let comps = comp ∙ ap (λ (x : Journal). x.comp) (v ∙ s) in
    let counts = ports ∙ ap (λ (x : Journal). x.ports) (v ∙ s) in
    let same : after ≡ before = λ i. record { comp = comps i; ports = counts i; log = log i } in
    (r, number, m, s ∙ ap (λ (x : Journal). adding x (entry.Sent r number (next_of x.log m))) (sym same))

-- the queue of a port stands for what the log says of the port
pub stands_at : (queues : List (QueueState Message)) (clock : ℕ) (log : List Entry) (port : ℕ) (old : QueueState Message)
    → IsKept queues clock log → port < length queues → old ≡ get_or queues port old → StandsFor old (history_of port log)
stands_at queues clock log port old k low at =
    subst (λ (q : QueueState Message). StandsFor q (history_of port log)) (sym (get_or_read queues port old low at (state_of [])))
    (k.stands port low)

-- the same, where contracts see the desk
pub stands_in : (queues : List (QueueState Message)) (clock : ℕ) (log : List Entry) (port : ℕ) (old : QueueState Message) (d was : Journal)
    → IsKept queues clock log → port < length queues → old ≡ get_or queues port old → was ≡ d → was.log ≡ log → StandsFor old (at_port d port)
stands_in queues clock log port old d was k low at v l =
    subst (λ (x : Journal). StandsFor old (at_port x port)) v
    (subst (λ (h : List Entry). StandsFor old (history_of port h)) (sym l) (stands_at queues clock log port old k low at))

-- an entry that names this port, where the port's queue has its event more
pub kept_at_time : (queues : List (QueueState Message)) (clock later : ℕ) (log after : List Entry) (port : ℕ) (e : Entry) (event : Event Message)
    (old new : QueueState Message)
    → IsKept queues clock log → port < length queues → old ≡ get_or queues port old
    → AtHistory old (λ h. StandsFor new (h ++ event ∷ []))
    → ((p : ℕ) → event_at p e ≡ cond (eqb p port) (Some event) None) → IsTimely log e → later ≡ max clock (stamp_of e) → after ≡ log ++ e ∷ []
    → IsKept (set queues port new) later after
kept_at_time queues clock later log after port e event old new k low at more names timely now grown =
    let next : StandsFor new (history_of port log ++ event ∷ []) = more (history_of port log) (stands_at queues clock log port old k low at) in
    let here : (p : ℕ) → p ≡ port → StandsFor new (history_of p (log ++ e ∷ [])) = λ p same.
    subst (λ (h : List (Event Message)). StandsFor new h)
    (ap (λ q. history_of q log ++ event ∷ []) (sym same)
    ∙ sym (history-more p log e event (names p ∙ ap (λ b. cond b (Some event) None) (eq-eqb p port same)))) next in
    let there : (p : ℕ) → p ≢ port → history_of p (log ++ e ∷ []) ≡ history_of p log = λ p other.
    history-same p log e (names p ∙ ap (λ b. cond b (Some event) None) (ne_eqb p port other)) in
    let within : IsWithin (length queues) e =
    within_event (length queues) port e event low (names port ∙ ap (λ b. cond b (Some event) None) (eq-eqb port port refl)) in
    let short : (p : ℕ) → p < length (set queues port new) → p < length queues = λ p below. omega (arith, length-set queues port new) in
    subst (IsKept (set queues port new) later) (sym grown)
    record {
      stands = λ p below.
          ⊎_elim
          (λ (same : p ≡ port).
          subst (λ (q : QueueState Message). StandsFor q (history_of p (log ++ e ∷ [])))
          (sym (get_or-set_at queues port p new (state_of []) same low)) (here p same))
          (λ (other : p ≢ port).
          subst (λ (q : QueueState Message). StandsFor q (history_of p (log ++ e ∷ [])))
          (sym (get_or-set_other queues port p new (state_of []) other))
          (subst (λ (h : List (Event Message)). StandsFor (slice_index_or queues p (state_of [])) h) (sym (there p other)) (k.stands p (short p below))))
          (same_or_not p port);
      within = subst (λ n. All (IsWithin n) (log ++ e ∷ [])) (sym (length-set queues port new)) (All-push (IsWithin (length queues)) log e k.within within);
      time = now ∙ ap (λ c. max c (stamp_of e)) k.time ∙ sym (clock_of-push log e);
      clocked = clocked-push log e k.clocked timely;
    }

-- and that has no stamp
pub kept_at : (queues : List (QueueState Message)) (clock : ℕ) (log after : List Entry) (port : ℕ) (e : Entry) (event : Event Message)
    (old new : QueueState Message)
    → IsKept queues clock log → port < length queues → old ≡ get_or queues port old
    → AtHistory old (λ h. StandsFor new (h ++ event ∷ []))
    → ((p : ℕ) → event_at p e ≡ cond (eqb p port) (Some event) None) → IsTimely log e → stamp_of e ≡ 0 → after ≡ log ++ e ∷ []
    → IsKept (set queues port new) clock after
kept_at queues clock log after port e event old new k low at more names timely none grown =
    kept_at_time queues clock clock log after port e event old new k low at more names timely (omega (arith, none)) grown

-- a message that was found stays in the port's queue
pub kept_by_find : (queues : List (QueueState Message)) (clock : ℕ) (log after : List Entry) (port branch : ℕ) (e : Env Message) (old : QueueState Message)
    → IsKept queues clock log → port < length queues → old ≡ get_or queues port old
    → AtHistory old (λ h. StandsFor old (h ++ event.Found e ∷ [])) → after ≡ log ++ entry.Found port branch e ∷ [] → IsKept queues clock after
kept_by_find queues clock log after port branch e old k low at more grown =
    subst (λ (qs : List (QueueState Message)). IsKept qs clock after) (ap (set queues port) at ∙ set-get_or queues port old)
    (kept_at queues clock log after port (entry.Found port branch e) (event.Found e) old old k low at more (λ p. refl) tt refl grown)

-- the log after an entry, which the code has as another value that is equal
pub grown_by : (now was before : List Entry) (e f : Entry) → now ≡ was ++ f ∷ [] → was ≡ before → f ≡ e → now ≡ before ++ e ∷ []
grown_by now was before e f n w s = n ∙ ap (λ l. l ++ f ∷ []) w ∙ ap (λ x. before ++ x ∷ []) s

at_replicate : (n p : ℕ) (q : QueueState Message) → slice_index_or (replicate n q) p q ≡ q
at_replicate zero p q = refl
at_replicate (suc n) zero q = refl
at_replicate (suc n) (suc p) q = at_replicate n p q

lawful_at_start : (M : Type 0) → Lawful {M = M} []
unfolding Lawful
lawful_at_start M k e there = absurd (cc)

pub kept_at_start : (queues : List (QueueState Message)) (log : List Entry) (n : ℕ) → queues ≡ replicate n (state_of []) → log ≡ [] → IsKept queues 0 log
unfolding history_of
kept_at_start queues log n q l =
    subst (λ (x : List (QueueState Message) × List Entry). IsKept x.0 0 x.1) (λ i. (sym q i, sym l i))
    record {
      stands = λ p low. record { lawful = lawful_at_start Message; state = at_replicate n p (state_of []) };
      within = All-nil (IsWithin (length (replicate n (state_of {M = Message} []))));
      time = refl;
      clocked = clocked_at_start;
    }

-- what is taken out is what was found
pub taken_is : (admits : Message → Type 0) (from : Option ℕ) (h : List (Event Message)) (after : QueueState Message) (e : Env Message) (r : Option (Env Message))
    → Finds admits from h e → TakesOut h r after → (r ≡ Some e) × StandsFor after (h ++ event.Took e ∷ [])
taken_is admits from h after e None finds out = absurd (let none : None ≡ Some e = sym out.0 ∙ finds.0 in cc)
taken_is admits from h after e (Some f) finds out =
    let same : f ≡ e = same_Some f e (sym out.0 ∙ finds.0) in
    (ap (λ x. Some x) same, subst (λ (x : Env Message). StandsFor after (h ++ event.Took x ∷ [])) same (out.1 true))

-- the desk with one more entry, from its fields
pub adding_is : (d was : Journal) (ports : ℕ) (log : List Entry) (e : Entry) → was ≡ d → ports ≡ was.ports → log ≡ was.log ++ e ∷ []
    → record { comp = was.comp; ports = ports; log = log } ≡ adding d e
adding_is d was ports log e same p l =
    (λ i. record { comp = was.comp; ports = p i; log = l i }) ∙ ap (λ (x : Journal). adding x e) same
