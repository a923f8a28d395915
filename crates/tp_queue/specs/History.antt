-- The history of a port, and what it says: what is queued, whether the port is started, and what can be received.
-- A history is the whole list of the port's events, the oldest first, which only grows; a definition filters, cuts and
-- counts that list.
-- The clauses are those of ES 201 873-1; ES 201 873-4 describes the same by the states of ports and their queues.
use Rattle.std.specs.Prelude.{◌≡◌, ℕ, ◌+◌, ◌-◌, Bool, true, false, nat_lt, cond, Option, Some, None, List, length, take}
use Rattle.std.specs.Prelude.{drop, slice_get, count_by}
use Rattle.std.specs.List.{filter_map, list_any, after_first, after_last, before_last}
use Rattle.tp_common.specs.declared.event.Env.{Env}
use Rattle.tp_common.specs.declared.event.Event.{Event}
use Rattle.tp_common.specs.declared.event.Event.TheVariants as event
use Rattle.tp_common.specs.declared.event.Status.{Status}
use Rattle.tp_common.specs.declared.event.Status.TheVariants as status

-- the envelope that arrives at an event
abbrev pub arrival : {M : Type 0} → Event M → Option (Env M)
arrival (event.Arrive e) = Some e
arrival _ = None

-- the event takes one message out of the queue: 22.2.2 (receive) and 22.2.3 (trigger)
abbrev pub is_removal : {M : Type 0} → Event M → Bool
is_removal (event.Took e) = true
is_removal (event.Dropped e) = true
is_removal _ = false

-- the event empties the queue: 22.5.1 (clear) and 22.5.2 (start)
abbrev pub is_emptying : {M : Type 0} → Event M → Bool
is_emptying (event.Arrive e) = false
is_emptying (event.Took e) = false
is_emptying (event.Found e) = false
is_emptying (event.Dropped e) = false
is_emptying event.Cleared = true
is_emptying event.Started = true
is_emptying event.Stopped = false
is_emptying event.Halted = false

abbrev pub is_clear : {M : Type 0} → Event M → Bool
is_clear (event.Arrive e) = false
is_clear (event.Took e) = false
is_clear (event.Found e) = false
is_clear (event.Dropped e) = false
is_clear event.Cleared = true
is_clear event.Started = false
is_clear event.Stopped = false
is_clear event.Halted = false

abbrev pub is_start : {M : Type 0} → Event M → Bool
is_start event.Started = true
is_start _ = false

abbrev pub is_stop : {M : Type 0} → Event M → Bool
is_stop event.Stopped = true
is_stop _ = false

abbrev pub is_halt : {M : Type 0} → Event M → Bool
is_halt event.Halted = true
is_halt _ = false

-- the envelopes that arrived, in order: 9.1, a port queues every message that arrives, first in, first out
unfoldable pub accepted : {M : Type 0} → List (Event M) → List (Env M)
accepted h = filter_map arrival h

-- how many of these are no longer queued: all that arrived before the queue was last emptied, and as many as were
-- taken out since
unfoldable pub gone : {M : Type 0} → List (Event M) → ℕ
gone h = length (accepted (before_last is_emptying h)) + count_by is_removal (after_last is_emptying h)

-- the envelopes that are queued, in order: 9.1, kept until the owner of the port processes them
unfoldable pub queued : {M : Type 0} → List (Event M) → List (Env M)
queued h = drop (gone h) (accepted h)

-- the events since the last start, or all of them if there was none
unfoldable pub since_start : {M : Type 0} → List (Event M) → List (Event M)
since_start h = after_last is_start h

-- 22.5.2 to 22.5.4: stopped if there was a stop since the last start, else halted if there was a halt; a port is
-- started when its component is created (21.3.1)
unfoldable pub status_of : {M : Type 0} → List (Event M) → Status
status_of h = cond (list_any is_stop (since_start h)) status.Stopped
    (cond (list_any is_halt (since_start h)) status.Halted status.Started)

-- the events since the mark was put at its place: since the first halt after the last start, or since the last clear
-- after that halt, if there was one
unfoldable pub since_mark : {M : Type 0} → List (Event M) → List (Event M)
since_mark h = after_last is_clear (after_first is_halt (since_start h))

-- how many envelopes had arrived when the mark of a halted port was put at its place: 22.5.4, a halt puts the mark
-- after all that is queued. The part of the history that is counted includes the event that put the mark, which is no
-- arrival
unfoldable pub mark : {M : Type 0} → List (Event M) → ℕ
mark h = length (accepted (take (length h - length (since_mark h)) h))

-- how many of the envelopes that arrived may have been received by now, at a port of this status: all of them at a
-- started port; 22.5.4, those ahead of the mark at a halted port; 22.5.3, no more than are gone at a stopped port
abbrev pub limit_at : {M : Type 0} → Status → List (Event M) → ℕ
limit_at status.Started h = length (accepted h)
limit_at status.Halted h = mark h
limit_at status.Stopped h = gone h

unfoldable pub limit : {M : Type 0} → List (Event M) → ℕ
limit h = limit_at (status_of h) h

-- the envelope that a receiving operation sees, if any is deliverable: 22.2.2, the top of the queue and no other
unfoldable pub top : {M : Type 0} → List (Event M) → Option (Env M)
top h = cond (nat_lt (gone h) (limit h)) (slice_get (accepted h) (gone h)) None

-- the event may follow this history: if it is of a receiving operation, its envelope is the top
abbrev pub MayFollow : {M : Type 0} → List (Event M) → Event M → Type 0
MayFollow h (event.Took e) = top h ≡ Some e
MayFollow h (event.Found e) = top h ≡ Some e
MayFollow h (event.Dropped e) = top h ≡ Some e
MayFollow h _ = Unit {0}

-- each event may follow those before it
unfoldable pub Lawful : {M : Type 0} → List (Event M) → Type 0
Lawful {M} h = (k : ℕ) (e : Event M) → slice_get h k ≡ Some e → MayFollow (take k h) e
