-- What the receiving calls of a queue return if its history is h, and which history the queue stands for after them.
use Rattle.std.specs.Prelude.{◌≡◌, ℕ, Option, Some, None, List, [], ◌∷◌, ◌++◌, Bool, false, IsTrue, ◌↔◌, MatchOption}
use Rattle.tp_common.specs.declared.event.Env.{Env}
use Rattle.tp_common.specs.declared.event.Event.{Event}
use Rattle.tp_common.specs.declared.event.Event.TheVariants as event
use Rattle.tp_common.specs.declared.event.TriggerAnswer.{TriggerAnswer}
use Rattle.tp_common.specs.declared.event.TriggerAnswer.TheVariants as trigger_answer
use Rattle.tp_queue.specs.History.{top}
use Rattle.tp_common.specs.Criteria.{Satisfies}
use Rattle.tp_queue.specs.Answers.{Finds, FindsNone, removal}
use Rattle.tp_queue.specs.Queues.{QueueState, StandsFor}

-- what `receive` returns, and the queue after it
abbrev pub ReceivesFor : {M : Type 0} → (M → Type 0) → Option ℕ → List (Event M)
    → Option (Env M) → QueueState M → Type 0
ReceivesFor admits from h (Some e) after = Finds admits from h e × StandsFor after (h ++ event.Took e ∷ [])
ReceivesFor admits from h None after = FindsNone admits from h × StandsFor after h

-- what `trigger` returns, and the queue after it
abbrev pub TriggersFor : {M : Type 0} → (M → Type 0) → Option ℕ → List (Event M)
    → TriggerAnswer M → QueueState M → Type 0
TriggersFor admits from h (trigger_answer.Took e) after =
    Finds admits from h e × StandsFor after (h ++ event.Took e ∷ [])
TriggersFor admits from h (trigger_answer.Dropped e) after =
    (top h ≡ Some e) × ¬ Satisfies admits from e × StandsFor after (h ++ event.Dropped e ∷ [])
TriggersFor admits from h trigger_answer.Nothing after = (top h ≡ None) × StandsFor after h

-- the top is taken out, if there is one: the queue then stands for the history in which the top was received, and for
-- the one in which it was discarded
abbrev pub TakesOut : {M : Type 0} → List (Event M) → Option (Env M) → QueueState M → Type 0
TakesOut h (Some e) after = (top h ≡ Some e) × ((received : Bool) → StandsFor after (h ++ removal received e ∷ []))
TakesOut h None after = (top h ≡ None) × StandsFor after h

-- whether a receiving operation succeeds with the top
abbrev pub Offers : {M : Type 0} → (M → Type 0) → Option ℕ → List (Event M) → Bool → Type 0
Offers admits from h fits = MatchOption (top h) (fits ≡ false) (λ e. IsTrue fits ↔ Satisfies admits from e)
