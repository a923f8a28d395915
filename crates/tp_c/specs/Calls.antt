-- What each call does to the queue of a port, in terms of the values that cross to C and back. The definitions are
-- those of tp_queue; here an answer to C is read as the result of the queue's call.
use Rattle.std.specs.Prelude.{◌≡◌, ◌↔◌, ℕ, zero, suc, Option, Some, None, [], ◌∷◌, ◌++◌, Bool, true, false, IsTrue}
use Rattle.std.specs.Prelude.{length, slice_get}
use Rattle.tp_common.specs.declared.event.Env.{Env}
use Rattle.tp_common.specs.declared.event.Event.TheVariants as event
use Rattle.tp_common.specs.declared.event.Status.{Status}
use Rattle.tp_common.specs.declared.event.Status.TheVariants as status
use Rattle.tp_common.specs.declared.event.TriggerAnswer.{TriggerAnswer}
use Rattle.tp_common.specs.declared.event.TriggerAnswer.TheVariants as trigger_answer
use Rattle.tp_queue.specs.History.{queued, status_of}
use Rattle.tp_queue.specs.Queues.{QueueState, StandsFor, AtHistory}
use Rattle.tp_queue.specs.Calls.{ReceivesFor, TriggersFor}
use Rattle.tp_queue.specs.Answers.{Checks, checked}
use Rattle.tp_queue.specs.contracts.queue.Queue as queue
use Rattle.tp_c.specs.declared.port.Answer.{Answer}
use Rattle.core.specs.Ptr.{points_to, uninit_at}
use base.Fml.{Fml}
use denote.RawPtr.{Ptr}
use denote.Builtin.{u64}

-- a port in the state q, at the address that the caller has
abbrev pub Port : Ptr → QueueState ℕ → Fml
Port port q = points_to (queue.the_row u64) port q

-- room for a port at this address
abbrev pub Room : Ptr → Fml
Room port = uninit_at (queue.the_row u64) port

-- the envelope in an answer
abbrev pub envelope : Answer → Env ℕ
envelope answer = record { sender = answer.sender; number = answer.number; msg = answer.message }

-- the answer with this outcome and this envelope
abbrev pub answer_with : ℕ → Env ℕ → Answer
answer_with outcome e = record { outcome = outcome; sender = e.sender; number = e.number; message = e.msg }

-- what a receive, a check or a look at a place found: by the outcome of the answer, nothing or the envelope in it
abbrev pub found_by : ℕ → Answer → Option (Env ℕ)
found_by zero answer = None
found_by (suc n) answer = Some (envelope answer)

abbrev pub found : Answer → Option (Env ℕ)
found answer = found_by answer.outcome answer

-- what a trigger did: by the outcome of the answer, nothing, or it received or discarded the envelope in it
abbrev pub triggered_by : ℕ → Answer → TriggerAnswer ℕ
triggered_by zero answer = trigger_answer.Nothing
triggered_by (suc zero) answer = trigger_answer.Took (envelope answer)
triggered_by (suc (suc n)) answer = trigger_answer.Dropped (envelope answer)

-- the answer of a receive, a check or a look at a place; without a message all its fields are 0
abbrev pub answer_to : Option (Env ℕ) → Answer
answer_to None = record { outcome = 0; sender = 0; number = 0; message = 0 }
answer_to (Some e) = answer_with 1 e

-- the answer of a trigger
abbrev pub trigger_to : TriggerAnswer ℕ → Answer
trigger_to trigger_answer.Nothing = record { outcome = 0; sender = 0; number = 0; message = 0 }
trigger_to (trigger_answer.Took e) = answer_with 1 e
trigger_to (trigger_answer.Dropped e) = answer_with 2 e

-- the sender that is named, if one is
abbrev pub the_sender : Bool → ℕ → Option ℕ
the_sender true from = Some from
the_sender false from = None

-- the number of a status
abbrev pub code_of : Status → ℕ
code_of status.Started = 0
code_of status.Halted = 1
code_of status.Stopped = 2

-- a message arrived, or an allocation was refused and nothing has happened
abbrev pub Arrived : QueueState ℕ → ℕ → ℕ → ℕ → Bool → QueueState ℕ → Type 0
Arrived before sender number message true after =
    AtHistory before (λ h. StandsFor after (h ++ event.Arrive (record { sender = sender; number = number; msg = message }) ∷ []))
Arrived before sender number message false after = after ≡ before

abbrev pub Received : QueueState ℕ → Bool → ℕ → Bool → Answer → QueueState ℕ → Type 0
Received before named from fits answer after =
    (answer ≡ answer_to (found answer))
    × AtHistory before (λ h. ReceivesFor (λ msg. IsTrue fits) (the_sender named from) h (found answer) after)

abbrev pub Triggered : QueueState ℕ → Bool → ℕ → Bool → Answer → QueueState ℕ → Type 0
Triggered before named from fits answer after =
    (answer ≡ trigger_to (triggered_by answer.outcome answer))
    × AtHistory before (λ h. TriggersFor (λ msg. IsTrue fits) (the_sender named from) h (triggered_by answer.outcome answer) after)

abbrev pub Checked : QueueState ℕ → Bool → ℕ → Bool → Answer → QueueState ℕ → Type 0
Checked before named from fits answer after =
    (answer ≡ answer_to (found answer))
    × AtHistory before (λ h. Checks (λ msg. IsTrue fits) (the_sender named from) h (found answer) × StandsFor after (checked h (found answer)))

abbrev pub Started : QueueState ℕ → ℕ → QueueState ℕ → Type 0
Started before count after = AtHistory before (λ h. (count ≡ length (queued h)) × StandsFor after (h ++ event.Started ∷ []))

abbrev pub Cleared : QueueState ℕ → ℕ → QueueState ℕ → Type 0
Cleared before count after = AtHistory before (λ h. (count ≡ length (queued h)) × StandsFor after (h ++ event.Cleared ∷ []))

abbrev pub Stopped : QueueState ℕ → ℕ → QueueState ℕ → Type 0
Stopped before count after = (count ≡ length after.entries) × AtHistory before (λ h. StandsFor after (h ++ event.Stopped ∷ []))

abbrev pub Halted : QueueState ℕ → Bool → QueueState ℕ → Type 0
Halted before effect after =
    AtHistory before (λ h. (IsTrue effect ↔ (status_of h ≡ status.Started)) × StandsFor after (h ++ event.Halted ∷ []))

-- the number of deliverable messages is returned; this call and those below change nothing
abbrev pub Ahead : QueueState ℕ → ℕ → QueueState ℕ → Type 0
Ahead before count after = (count ≡ before.ahead) × (after ≡ before)

abbrev pub Length : QueueState ℕ → ℕ → QueueState ℕ → Type 0
Length before count after = (count ≡ length before.entries) × (after ≡ before)

abbrev pub StatusIs : QueueState ℕ → ℕ → QueueState ℕ → Type 0
StatusIs before code after = (code ≡ code_of before.status) × (after ≡ before)

abbrev pub Placed : QueueState ℕ → ℕ → Answer → QueueState ℕ → Type 0
Placed before place answer after = (answer ≡ answer_to (slice_get before.entries place)) × (after ≡ before)
