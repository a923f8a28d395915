-- A queue stands for the histories that leave its state, and each event leads from one such state to the next.
use Rattle.std.proofs.Common.{◌≡◌, ℕ, zero, suc, ◌+◌, ◌-◌, ◌<◌, ◌≤◌, Bool, true, false, Option, Some, None, List, [], ◌∷◌, ◌++◌, length, take, drop, get_or, refl, ap, sym, ◌∙◌, subst, arith, ◌⊎◌}
use Rattle.std.specs.Prelude.{slice_get}
use Rattle.std.proofs.Math.Seq.{take-length}
use Rattle.tp_common.specs.declared.event.Env.{Env}
use Rattle.tp_common.specs.declared.event.Event.{Event}
use Rattle.tp_common.specs.declared.event.Event.TheVariants as event
use Rattle.tp_common.specs.declared.event.Status.{Status}
use Rattle.tp_common.specs.declared.event.Status.TheVariants as status
use Rattle.tp_queue.specs.History.{gone, limit, queued, status_of, top, MayFollow, Lawful}
use Rattle.tp_queue.specs.Answers.{halted_count, removal}
use Rattle.tp_queue.specs.Queues.{QueueState, StandsFor, AtHistory, HasHistory, deliverable, shown}
use Rattle.tp_queue.specs.Calls.{TakesOut}
use Rattle.tp_queue.proofs.QueueFieldsMatchHistory.{KeepsQueue}
use Rattle.tp_queue.proofs.EventsKeepQueueFields as moves

-- the fields that keep to a history, by what it says alone
normal : {M : Type 0} (h : List (Event M)) (entries : List (Env M)) (now : Status) (ahead : ℕ)
    → KeepsQueue h entries now ahead → KeepsQueue h (queued h) (status_of h) (limit h - gone h)
normal {M} h entries now ahead k =
    let first : KeepsQueue h (queued h) now ahead = subst (λ (l : List (Env M)). KeepsQueue h l now ahead) k.entries_are k in
    let both : KeepsQueue h (queued h) (status_of h) ahead =
    subst (λ (s : Status). KeepsQueue h (queued h) s ahead) k.status_is first in
    let until : limit h ≡ gone h + deliverable (status_of h) (length (queued h)) ahead = moves.limit_is h (queued h) (status_of h) ahead both in
    let until_mark : status_of h ≡ status.Halted → limit h ≡ gone h + ahead =
    λ s. subst (λ (z : Status). limit h ≡ gone h + deliverable z (length (queued h)) ahead) s until in
    record {
      lawful = k.lawful;
      entries_are = refl;
      status_is = refl;
      in_range = k.in_range;
      mark_is = λ s. omega (arith, until_mark s, both.mark_is s);
      mark_in_range = λ s. omega (arith, until_mark s, both.mark_in_range s);
    }

-- what a history leaves keeps to it
abbrev Settled : {M : Type 0} → List (Event M) → Type 0
Settled h = KeepsQueue h (queued h) (status_of h) (limit h - gone h)

halt_settles : {M : Type 0} (h : List (Event M)) (entries : List (Env M)) (now : Status) (ahead : ℕ)
    → KeepsQueue h entries now ahead → Settled (h ++ event.Halted ∷ [])
halt_settles h entries status.Started ahead k = normal _ _ _ _ (moves.halt_keeps h entries ahead k)
halt_settles h entries status.Halted ahead k = normal _ _ _ _ (moves.halt_again_keeps h entries status.Halted ahead refl k)
halt_settles h entries status.Stopped ahead k = normal _ _ _ _ (moves.halt_again_keeps h entries status.Stopped ahead refl k)

settles : {M : Type 0} (h : List (Event M)) (x : Event M) → Settled h → MayFollow h x → Settled (h ++ x ∷ [])
settles h (event.Arrive e) k may = normal _ _ _ _ (moves.arrive_keeps h _ _ _ e k)
settles h (event.Took e) k may =
    normal _ _ _ _ (moves.out_keeps true h h _ e (queued h) (drop 1 (queued h)) _ _ _ may refl refl refl refl k)
settles h (event.Dropped e) k may =
    normal _ _ _ _ (moves.out_keeps false h h _ e (queued h) (drop 1 (queued h)) _ _ _ may refl refl refl refl k)
settles h (event.Found e) k may = normal _ _ _ _ (moves.found_keeps h e _ _ _ may k)
settles h event.Cleared k may = normal _ _ _ _ (moves.clear_keeps h _ _ _ k)
settles h event.Started k may = normal _ _ _ _ (moves.start_keeps h _ _ _ 0 k)
settles h event.Stopped k may = normal _ _ _ _ (moves.stop_keeps h _ _ _ 0 k)
settles h event.Halted k may = halt_settles h _ _ _ k

cut : {X : Type 0} (l : List X) (k : ℕ) → k < length l
    → (e : X) × (slice_get l k ≡ Some e) × (take (suc k) l ≡ take k l ++ e ∷ [])
cut [] k n = absurd (omega arith)
cut (x ∷ l) zero n = (x, refl, refl)
cut (x ∷ l) (suc k) n =
    let m : k < length l = omega arith in
    let rest : (e : _) × (slice_get l k ≡ Some e) × (take (suc k) l ≡ take k l ++ e ∷ []) = cut l k m in
    (rest.0, rest.1, ap (λ t. x ∷ t) rest.2)

settled_at : {M : Type 0} (h : List (Event M)) → Lawful h → (k : ℕ) → k ≤ length h → Settled (take k h)
unfolding Lawful
settled_at h l zero n = normal _ _ _ _ moves.empty_keeps
settled_at h l (suc k) n =
    let here : (e : Event _) × (slice_get h k ≡ Some e) × (take (suc k) h ≡ take k h ++ e ∷ []) = cut h k (omega arith) in
    subst (λ (t : List (Event _)). Settled t) (sym here.2)
    (settles (take k h) here.0 (settled_at h l k (omega arith)) (l k here.0 here.1))

-- each lawful history leaves a state that keeps to it
pub settled : {M : Type 0} (h : List (Event M)) → Lawful h → Settled h
settled h l = subst (λ (t : List (Event _)). Settled t) (take-length h) (settled_at h l (length h) (omega arith))

-- a queue that stands for a history has fields that keep to it
pub keeps : {M : Type 0} (h : List (Event M)) (entries : List (Env M)) (now : Status) (ahead : ℕ)
    → StandsFor (shown entries now ahead) h → KeepsQueue h entries now ahead
keeps h entries now ahead s =
    let k : KeepsQueue h (queued h) (status_of h) (limit h - gone h) = settled h s.lawful in
    let listed : entries ≡ queued h = ap (λ (q : QueueState _). q.entries) s.state in
    let at : now ≡ status_of h = ap (λ (q : QueueState _). q.status) s.state in
    let ahead_of : deliverable now (length entries) ahead ≡ limit h - gone h = ap (λ (q : QueueState _). q.ahead) s.state in
    let marked : now ≡ status.Halted → ahead ≡ limit h - gone h =
    λ n. subst (λ (z : Status). deliverable z (length entries) ahead ≡ limit h - gone h) n ahead_of in
    record {
      lawful = s.lawful;
      entries_are = listed;
      status_is = at;
      in_range = k.in_range;
      mark_is = λ n. omega (arith, marked n, k.mark_is (sym at ∙ n));
      mark_in_range = λ n. omega (arith, marked n, k.mark_in_range (sym at ∙ n), ap length listed);
    }

-- fields that keep to a history are those of a queue that stands for it
pub stands : {M : Type 0} (h : List (Event M)) (entries : List (Env M)) (now : Status) (ahead : ℕ)
    → KeepsQueue h entries now ahead → StandsFor (shown entries now ahead) h
stands h entries now ahead k =
    let listed : entries ≡ queued h = k.entries_are in
    let at : now ≡ status_of h = k.status_is in
    let ahead_of : deliverable now (length entries) ahead ≡ limit h - gone h =
    moves.ahead_is h h entries now now ahead k refl refl in
    record {
      lawful = k.lawful;
      state = cc;
    }

-- the same, where contracts see the fields
keeps_at : {M : Type 0} (before : QueueState M) (entries : List (Env M)) (now : Status) (ahead : ℕ)
    → shown entries now ahead ≡ before → (h : List (Event M)) → StandsFor before h → KeepsQueue h entries now ahead
keeps_at before entries now ahead v h s =
    keeps h entries now ahead (subst (λ (q : QueueState _). StandsFor q h) (sym v) s)

-- a queue with a history goes on with one
pub goes_on : {M : Type 0} {before after : QueueState M} (x : Event M) → HasHistory before
    → AtHistory before (λ h. StandsFor after (h ++ x ∷ [])) → HasHistory after
goes_on x k a = (k.0 ++ x ∷ [], a k.0 k.1)

pub none_stands : {M : Type 0} (entries : List (Env M)) → entries ≡ [] → StandsFor (shown entries status.Started 0) []
none_stands entries e = rw e (stands [] [] status.Started 0 moves.empty_keeps)

pub arrive_stands : {M : Type 0} (before : QueueState M) (entries left : List (Env M)) (now : Status) (ahead : ℕ) (e : Env M)
    → shown entries now ahead ≡ before → left ≡ entries ++ e ∷ []
    → AtHistory before (λ h. StandsFor (shown left now ahead) (h ++ event.Arrive e ∷ []))
arrive_stands before entries left now ahead e v l h s =
    rw l (stands _ _ _ _ (moves.arrive_keeps h entries now ahead e (keeps_at before entries now ahead v h s)))

pub clear_stands : {M : Type 0} (before : QueueState M) (entries left : List (Env M)) (now : Status) (ahead : ℕ)
    → shown entries now ahead ≡ before → left ≡ []
    → AtHistory before (λ h. StandsFor (shown left now 0) (h ++ event.Cleared ∷ []))
clear_stands before entries left now ahead v l h s =
    rw l (stands _ _ _ _ (moves.clear_keeps h entries now ahead (keeps_at before entries now ahead v h s)))

pub start_stands : {M : Type 0} (before : QueueState M) (entries left : List (Env M)) (now : Status) (ahead : ℕ)
    → shown entries now ahead ≡ before → left ≡ []
    → AtHistory before (λ h. StandsFor (shown left status.Started ahead) (h ++ event.Started ∷ []))
start_stands before entries left now ahead v l h s =
    rw l (stands _ _ _ _ (moves.start_keeps h entries now ahead ahead (keeps_at before entries now ahead v h s)))

pub stop_stands : {M : Type 0} (before : QueueState M) (entries : List (Env M)) (now : Status) (ahead : ℕ)
    → shown entries now ahead ≡ before
    → AtHistory before (λ h. StandsFor (shown entries status.Stopped ahead) (h ++ event.Stopped ∷ []))
stop_stands before entries now ahead v h s =
    stands _ _ _ _ (moves.stop_keeps h entries now ahead ahead (keeps_at before entries now ahead v h s))

-- a halt of a started port
pub halt_stands : {M : Type 0} (before : QueueState M) (entries : List (Env M)) (now : Status) (ahead len : ℕ)
    → shown entries now ahead ≡ before → now ≡ status.Started → len ≡ length entries
    → AtHistory before (λ h. StandsFor (shown entries status.Halted len) (h ++ event.Halted ∷ []))
halt_stands before entries now ahead len v n l h s =
    stands _ _ _ _ (moves.halt_at_start_keeps h _ entries now ahead len n l refl (keeps_at before entries now ahead v h s))

-- a halt of any other port
pub halt_again_stands : {M : Type 0} (before : QueueState M) (entries : List (Env M)) (now : Status) (ahead : ℕ)
    → shown entries now ahead ≡ before → (now ≡ status.Halted) ⊎ (now ≡ status.Stopped)
    → AtHistory before (λ h. StandsFor before (h ++ event.Halted ∷ []))
halt_again_stands before entries now ahead v n h s =
    subst (λ (q : QueueState _). StandsFor q (h ++ event.Halted ∷ [])) v
    (stands _ _ _ _ (moves.halt_later_keeps h _ entries now ahead n refl (keeps_at before entries now ahead v h s)))

pub count_again : {M : Type 0} (before : QueueState M) (entries : List (Env M)) (now : Status) (ahead : ℕ)
    → shown entries now ahead ≡ before → (now ≡ status.Halted) ⊎ (now ≡ status.Stopped)
    → AtHistory before (λ h. None ≡ halted_count (status_of h) h)
count_again before entries now ahead v n h s =
    moves.count_later h h entries now ahead n refl (keeps_at before entries now ahead v h s)

-- what is queued, and the status, are what the history says
pub queued_is : {M : Type 0} (before : QueueState M) (entries : List (Env M)) (now : Status) (ahead : ℕ)
    → shown entries now ahead ≡ before → AtHistory before (λ h. entries ≡ queued h)
queued_is before entries now ahead v h s = (keeps_at before entries now ahead v h s).entries_are

pub status_is : {M : Type 0} (before : QueueState M) (entries : List (Env M)) (now : Status) (ahead : ℕ)
    → shown entries now ahead ≡ before → AtHistory before (λ h. now ≡ status_of h)
status_is before entries now ahead v h s = (keeps_at before entries now ahead v h s).status_is

pub len_is : {M : Type 0} (before : QueueState M) (entries : List (Env M)) (now : Status) (ahead n : ℕ)
    → shown entries now ahead ≡ before → n ≡ length entries → AtHistory before (λ h. n ≡ length (queued h))
len_is before entries now ahead n v l h s = l ∙ ap length (queued_is before entries now ahead v h s)

pub count_first : {M : Type 0} (before : QueueState M) (entries : List (Env M)) (now : Status) (ahead n : ℕ)
    → shown entries now ahead ≡ before → now ≡ status.Started → n ≡ length entries
    → AtHistory before (λ h. Some n ≡ halted_count (status_of h) h)
count_first before entries now ahead n v at l h s =
    ap (λ k. Some k) (len_is before entries now ahead n v l h s)
    ∙ ap (λ z. halted_count z h) (sym at ∙ status_is before entries now ahead v h s)

pub within : {M : Type 0} (before : QueueState M) (entries : List (Env M)) (now : Status) (ahead : ℕ)
    → shown entries now ahead ≡ before → AtHistory before (λ h. gone h ≤ limit h)
within before entries now ahead v h s = moves.gone_within h h entries now ahead (keeps_at before entries now ahead v h s) refl

-- how many can be received, where contracts see the queue, is what the history says
pub ahead_of : {M : Type 0} (q : QueueState M) (n : ℕ) → n ≡ q.ahead → AtHistory q (λ h. n ≡ limit h - gone h)
ahead_of q n e h s = e ∙ ap (λ (r : QueueState _). r.ahead) s.state

-- where nothing can be received there is no top
pub top_absent : {M : Type 0} (before : QueueState M) (n : ℕ)
    → AtHistory before (λ h. n ≡ limit h - gone h) → n ≡ 0 → AtHistory before (λ h. None ≡ top h)
top_absent before n is none h s = moves.no_top h (sym (is h s) ∙ none)

-- else it is the first that is queued
pub top_there : {M : Type 0} (before : QueueState M) (entries : List (Env M)) (now : Status) (ahead n : ℕ)
    → shown entries now ahead ≡ before → AtHistory before (λ h. n ≡ limit h - gone h) → (n ≡ 0 → ⊥)
    → AtHistory before (λ h. slice_get entries 0 ≡ top h)
top_there before entries now ahead n v is some h s =
    moves.top_is_front h h entries now ahead n (keeps_at before entries now ahead v h s) refl (is h s) some

front : {X : Type 0} (l : List X) → 0 < length l → (e : X) × (slice_get l 0 ≡ Some e)
front [] n = absurd (omega arith)
front (x ∷ l) n = (x, refl)

-- the top, and the queue without it
pub without_top : {M : Type 0} (before : QueueState M) (entries left : List (Env M)) (now : Status) (ahead less n : ℕ)
    → shown entries now ahead ≡ before → AtHistory before (λ h. n ≡ limit h - gone h) → (n ≡ 0 → ⊥)
    → left ≡ drop 1 entries → less ≡ ahead - 1
    → (h : List (Event M)) → StandsFor before h
    → (e : Env M) × (top h ≡ Some e) × (entries ≡ e ∷ drop 1 entries)
    × ((received : Bool) → StandsFor (shown left now less) (h ++ removal received e ∷ []))
without_top before entries left now ahead less n v is some l a h s =
    let k : KeepsQueue h entries now ahead = keeps_at before entries now ahead v h s in
    let d : deliverable now (length entries) ahead ≡ limit h - gone h = moves.ahead_is h h entries now now ahead k refl refl in
    let here : 0 < length entries = omega (arith, d, is h s, some, moves.queued_range h entries now ahead k) in
    let first : (e : Env _) × (slice_get entries 0 ≡ Some e) = front entries here in
    let top_is : top h ≡ Some first.0 = sym (top_there before entries now ahead n v is some h s) ∙ first.1 in
    let split : (0 < deliverable now (length entries) ahead) × (entries ≡ first.0 ∷ drop 1 entries) =
    moves.top_is_first h h entries now ahead first.0 k refl top_is in (
      first.0,
      top_is,
      split.1,
      λ received. stands _ _ _ _ (moves.out_keeps received h h _ first.0 entries left now ahead less top_is refl refl l a k),
    )

pub taken_out : {M : Type 0} (before : QueueState M) (entries left : List (Env M)) (now : Status) (ahead less n : ℕ) (taken : Option (Env M))
    → shown entries now ahead ≡ before → AtHistory before (λ h. n ≡ limit h - gone h) → (n ≡ 0 → ⊥)
    → left ≡ drop 1 entries → less ≡ ahead - 1
    → ((d : Env M) → 0 < length entries → taken ≡ Some (get_or entries 0 d))
    → AtHistory before (λ h. TakesOut h taken (shown left now less))
taken_out before entries left now ahead less n taken v is some l a pops h s =
    let out : (e : Env _) × (top h ≡ Some e) × (entries ≡ e ∷ drop 1 entries)
    × ((received : Bool) → StandsFor (shown left now less) (h ++ removal received e ∷ [])) =
    without_top before entries left now ahead less n v is some l a h s in
    let here : 0 < length entries = omega (arith, ap length out.2) in
    let same : taken ≡ Some out.0 = pops out.0 here ∙ ap (λ t. Some (get_or t 0 out.0)) out.2 in
    rw same (out.1, out.3)

pub left_has_history : {M : Type 0} (before : QueueState M) (entries left : List (Env M)) (now : Status) (ahead less n : ℕ)
    → shown entries now ahead ≡ before → AtHistory before (λ h. n ≡ limit h - gone h) → (n ≡ 0 → ⊥)
    → left ≡ drop 1 entries → less ≡ ahead - 1 → HasHistory (shown entries now ahead) → HasHistory (shown left now less)
left_has_history before entries left now ahead less n v is some l a some_history =
    let k : HasHistory before = subst (λ (q : QueueState _). HasHistory q) v some_history in
    let out : (e : Env _) × (top k.0 ≡ Some e) × (entries ≡ e ∷ drop 1 entries)
    × ((received : Bool) → StandsFor (shown left now less) (k.0 ++ removal received e ∷ [])) =
    without_top before entries left now ahead less n v is some l a k.0 k.1 in
    (k.0 ++ removal true out.0 ∷ [], out.3 true)

-- that the top was found changes nothing in the queue
pub found_stands : {M : Type 0} (q : QueueState M) (h : List (Event M)) (e : Env M)
    → StandsFor q h → top h ≡ Some e → StandsFor q (h ++ event.Found e ∷ [])
found_stands q h e s there =
    let k : KeepsQueue h (queued h) (status_of h) (limit h - gone h) = settled h s.lawful in
    let same : shown (queued h) (status_of h) (limit h - gone h) ≡ q = (stands h _ _ _ k).state ∙ sym s.state in
    subst (λ (r : QueueState _). StandsFor r (h ++ event.Found e ∷ [])) same
    (stands _ _ _ _ (moves.found_keeps h e _ _ _ there k))
