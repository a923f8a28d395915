-- What the calls of a queue return.
use Rattle.std.specs.Prelude.{◌≡◌, ℕ, Option, Some, None, List, [], ◌∷◌, ◌++◌, length, Bool, true, false}
use Rattle.tp_common.specs.declared.event.Env.{Env}
use Rattle.tp_common.specs.declared.event.Event.{Event}
use Rattle.tp_common.specs.declared.event.Event.TheVariants as event
use Rattle.tp_common.specs.declared.event.TriggerAnswer.{TriggerAnswer}
use Rattle.tp_common.specs.declared.event.TriggerAnswer.TheVariants as trigger_answer
use Rattle.tp_common.specs.declared.event.Status.{Status}
use Rattle.tp_common.specs.declared.event.Status.TheVariants as status
use Rattle.tp_common.specs.Criteria.{Satisfies}
use Rattle.tp_queue.specs.History.{top, queued}

-- a receiving operation succeeds with this envelope
abbrev pub Finds : {M : Type 0} → (M → Type 0) → Option ℕ → List (Event M) → Env M → Type 0
Finds admits from h e = (top h ≡ Some e) × Satisfies admits from e

-- a receiving operation succeeds with no envelope
abbrev pub FindsNone : {M : Type 0} → (M → Type 0) → Option ℕ → List (Event M) → Type 0
FindsNone {M} admits from h = (e : Env M) → top h ≡ Some e → Satisfies admits from e → ⊥

-- what `receive` returns, and the history after it
abbrev pub Receives : {M : Type 0} → (M → Type 0) → Option ℕ → List (Event M) → Option (Env M) → List (Event M) → Type 0
Receives admits from h (Some e) after = Finds admits from h e × (after ≡ h ++ event.Took e ∷ [])
Receives admits from h None after = FindsNone admits from h × (after ≡ h)

-- what `halt` returns: the number of messages ahead of the mark that it puts, or `None` if it has no effect
abbrev pub halted_count : {M : Type 0} → Status → List (Event M) → Option ℕ
halted_count status.Started h = Some (length (queued h))
halted_count status.Halted h = None
halted_count status.Stopped h = None

-- the event by which an envelope leaves the queue: it is received, or else discarded
abbrev pub removal : {M : Type 0} → Bool → Env M → Event M
removal true e = event.Took e
removal false e = event.Dropped e

-- what `trigger` returns, and the history after it
abbrev pub Triggers : {M : Type 0} → (M → Type 0) → Option ℕ → List (Event M)
    → TriggerAnswer M → List (Event M) → Type 0
Triggers admits from h (trigger_answer.Took e) after = Finds admits from h e × (after ≡ h ++ event.Took e ∷ [])
Triggers admits from h (trigger_answer.Dropped e) after =
    (top h ≡ Some e) × ¬ Satisfies admits from e × (after ≡ h ++ event.Dropped e ∷ [])
Triggers admits from h trigger_answer.Nothing after = (top h ≡ None) × (after ≡ h)

-- what `check` returns
abbrev pub Checks : {M : Type 0} → (M → Type 0) → Option ℕ → List (Event M) → Option (Env M) → Type 0
Checks admits from h (Some e) = Finds admits from h e
Checks admits from h None = FindsNone admits from h

-- the history after a `check` with this result
abbrev pub checked : {M : Type 0} → List (Event M) → Option (Env M) → List (Event M)
checked h (Some e) = h ++ event.Found e ∷ []
checked h None = h
